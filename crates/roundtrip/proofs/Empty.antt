-- The state of no streams: its bytes are all 0, and no other state begins with a 0.
use Prim.Native.Nat.{ℕ, zero, suc, ◌+◌, ◌*◌, ◌-◌, ◌<◌, ◌≤◌}
use mathlib.Core.Path.{◌≡◌, refl, sym, ap, ap₂, ◌∙◌}
use mathlib.Core.Bool.{true}
use mathlib.Core.List.{List, [], ◌++◌}
use native.Mathlib.Omega.{arith}
use lib.ListN.{length, get_or, take, drop, replicate, length-drop, take-append-drop, replicate-append-replicate}
use lib.Seq.{length-take-le}
use borrow.Author.Tests.{eq-eqb}
use Rattle.le.specs.Layout.{enc_rows}
use Rattle.meaning.specs.CycleTest.{visits, down_from, acyclic}
use Rattle.meaning.proofs.CycleTest.{test_sound}
use Rattle.operators.specs.Limits.{window_limit, capacity}
use Rattle.operators.specs.Windows.{windows}
use Rattle.operators.proofs.Sizes.{capacity_area}
use Rattle.le.specs.Bytes.{all_zero}
use Rattle.layout.specs.Record.{encode}
use Rattle.layout.specs.Windows.{area_length, enc_windows}
use Rattle.encoding.specs.View.{behind, raws_of, bytes_of}
use Rattle.encoding.specs.Sound.{Sound}
use Rattle.valid.specs.Valid.{streams_in, count, area_ok, valid}
use Rattle.roundtrip.proofs.Tail.{zero_list}
use Rattle.roundtrip.proofs.Windows.{none_windows}
use Rattle.roundtrip.proofs.Whole.{valid_facts, bytes_valid}

none_clear : acyclic 0 [] ≡ true
unfolding acyclic visits down_from
none_clear = refl

pub none_sound : {cap : ℕ} → 0 < cap → Sound cap []
none_sound l = record { size = l; few = omega arith; each = λ i h. absurd (omega arith); own = λ i h. absurd (omega arith); windows = few; acyclic = test_sound 0 [] none_clear }
  where
    few : windows [] ≤ window_limit
    few = unfold windows in omega arith

pub none_bytes : (size : ℕ) → 0 < capacity size → bytes_of size [] ≡ replicate size 0
unfolding bytes_of raws_of behind encode enc_rows enc_windows
none_bytes size l =
    let k = size - area_length - 0 * 256 in
    let q : k + area_length ≡ size = let e = capacity_area size l in omega arith in
    ap (λ (z : List ℕ). replicate k 0 ++ z) (none_windows window_limit) ∙ replicate-append-replicate {A = ℕ} k area_length 0 ∙ ap (λ (n : ℕ). replicate {A = ℕ} n 0) q

pub zeros_valid : (size : ℕ) → 0 < capacity size → valid (replicate size 0) ≡ true
zeros_valid size l = rw (sym (none_bytes size l)) (bytes_valid size [] (none_sound l))

-- an operator's number is never 0, so nothing is counted
none_in : (m : ℕ) (s : List ℕ) → get_or s 0 0 ≡ 0 → streams_in m s ≡ 0
unfolding streams_in
none_in zero s e = refl
none_in (suc m) s e = rw (eq-eqb (get_or s 0 0) 0 e)

pub zeros_alone_lem : (s : List ℕ) → valid s ≡ true → get_or s 0 0 ≡ 0 → s ≡ replicate (length s) 0
unfolding area_ok
zeros_alone_lem s ok e =
    let f = valid_facts s ok in
    let n : count s ≡ 0 = none_in (capacity (length s)) s e in
    let c = capacity_area (length s) f.size in
    let k = length s - area_length in
    let z : length s - area_length - 0 * 256 ≡ k = omega arith in
    let front : all_zero (take k s) ≡ true = sym (ap (λ (j : ℕ). all_zero (take j s)) z) ∙ (rw n at f.between) in
    let back : all_zero (drop k s) ≡ true = rw n at f.area in
    let q : k + (length s - k) ≡ length s = omega arith in
    sym (take-append-drop k s) ∙ ap₂ ◌++◌ (zero_list (take k s) front ∙ ap (λ (j : ℕ). replicate {A = ℕ} j 0) (length-take-le k s (omega arith))) (zero_list (drop k s) back ∙ ap (λ (j : ℕ). replicate {A = ℕ} j 0) (length-drop k s))
    ∙ replicate-append-replicate {A = ℕ} k (length s - k) 0 ∙ ap (λ (n : ℕ). replicate {A = ℕ} n 0) q
