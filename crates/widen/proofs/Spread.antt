-- The bytes of a state, spread over a longer buffer, are those of the same state there.
use Prim.Native.Nat.{ℕ, ◌+◌, ◌*◌, ◌-◌, ◌≤◌}
use mathlib.Core.Path.{◌≡◌, refl, sym, ap, ap₂, ◌∙◌}
use mathlib.Core.Bool.{true}
use mathlib.Core.List.{List, [], ◌++◌, map, append_assoc}
use native.Mathlib.Omega.{arith}
use native.Mathlib.Nat.{zero-add}
use lib.ListN.{length, take, drop, replicate, length-append, length-drop, length-replicate, replicate-append-replicate}
use lib.Seq.{sets, take_at, drop_at, take_all, length-take-le}
use Rattle.operators.specs.Limits.{window_limit}
use Rattle.machine.specs.State.{State}
use Rattle.le.specs.Bytes.{Bytes, part}
use Rattle.le.specs.Layout.{enc_rows}
use Rattle.le.proofs.Fields.{length_rows, sets_whole}
use Rattle.le.proofs.RoundTrip.{sets_append}
use Rattle.decimal.specs.Put.{Put}
use Rattle.layout.specs.Record.{no_raw, enc_raw, encode}
use Rattle.layout.specs.Windows.{window_length, area_length, enc_window, enc_windows}
use Rattle.layout.proofs.Windows.{window_len}
use Rattle.encoding.specs.View.{of_cell, windows_of, words_of, behind, raws_of, bytes_of}
use Rattle.encoding.specs.Sound.{Sound}
use Rattle.valid.specs.Valid.{count, valid}
use Rattle.roundtrip.specs.In.{state_in, IsState}
use Rattle.roundtrip.proofs.In as state
use Rattle.widen.specs.Spread.{records_end, spread}

-- three runs of bytes that fill a buffer
put_all : (t x y z : List ℕ) → length t ≡ length x + (length y + length z) → sets (sets (sets t 0 x) (length x) y) (length x + length y) z ≡ x ++ (y ++ z)
put_all t x y z e =
    sym (sets_append (sets t 0 x) (length x) y z) ∙ ap (λ (n : ℕ). sets (sets t 0 x) n (y ++ z)) (sym (zero-add (length x))) ∙ sym (sets_append t 0 x (y ++ z))
    ∙ sets_whole t (x ++ (y ++ z)) (e ∙ sym (length-append x (y ++ z) ∙ ap (λ (n : ℕ). length x + n) (length-append y z)))

-- what the code leaves in a buffer t
module _ (s t : List ℕ) (h : area_length ≤ length s) (l : length s ≤ length t) where
  abbrev at : ℕ
  at = records_end s

  abbrev to : ℕ
  to = records_end t

  pub copied : (p q r w : List ℕ) (m n : ℕ) → Put t 0 (take at s) m p → q ≡ sets p at (replicate (to - at) 0) → w ≡ part s at (length s - at) → Put q to w n r → r ≡ spread (length t) s
  unfolding spread
  copied p q r w m n a e f b =
      let x = take at s in
      let y : List ℕ = replicate (to - at) 0 in
      let z = drop at s in
      let g : part s at (length s - at) ≡ z = take_all (length s - at) z (let u = length-drop at s in omega arith) in
      let i : length x ≡ at = length-take-le at s (omega arith) in
      let j : length y ≡ to - at = length-replicate {A = ℕ} (to - at) 0 in
      let k : length z ≡ area_length = length-drop at s ∙ omega arith in
      let d : to - at ≡ length t - length s = omega arith in
      let c : to ≡ length x + length y = omega arith in
      b.bytes ∙ ap₂ (λ (u v : List ℕ). sets u to v) (e ∙ ap (λ (u : List ℕ). sets u at y) a.bytes) (f ∙ g)
      ∙ ap₂ (λ (u v : ℕ). sets (sets (sets t 0 x) u y) v z) (sym i) c
      ∙ put_all t x y z (omega arith)
      ∙ ap (λ (u : ℕ). x ++ (replicate u 0 ++ z)) d

-- records r, z zeros, windows a
module _ (r a : List ℕ) (z : ℕ) (w : length a ≡ area_length) where
  abbrev whole : List ℕ
  whole = r ++ (replicate z 0 ++ a)

  abbrev front : List ℕ
  front = r ++ replicate z 0

  whole_is : whole ≡ front ++ a
  whole_is = sym (append_assoc r (replicate z 0) a)

  whole_end : length front ≡ records_end whole
  whole_end = let e : length whole ≡ length front + length a = ap length whole_is ∙ length-append front a in omega arith

  -- with m bytes more
  spread_is : (size m : ℕ) → size - length whole ≡ m → spread size whole ≡ r ++ (replicate (z + m) 0 ++ a)
  unfolding spread
  spread_is size m e =
      ap₂ (λ (x y : List ℕ). x ++ (replicate (size - length whole) 0 ++ y))
      (ap (take (records_end whole)) whole_is ∙ take_at front a (records_end whole) whole_end)
      (ap (drop (records_end whole)) whole_is ∙ drop_at front a (records_end whole) whole_end)
      ∙ ap (λ (k : ℕ). front ++ (replicate k 0 ++ a)) e
      ∙ append_assoc r (replicate z 0) (replicate m 0 ++ a)
      ∙ ap (λ (x : List ℕ). r ++ x) (sym (append_assoc (replicate z 0) (replicate m 0) a))
      ∙ ap (λ (x : List ℕ). r ++ (x ++ a)) (replicate-append-replicate {A = ℕ} z m 0)

-- the records of a state, and its windows
abbrev rows_of : State → List ℕ
rows_of M = enc_rows enc_raw no_raw (length M) (map of_cell M)

abbrev area_in : State → List ℕ
area_in M = enc_rows enc_window [] window_limit (map words_of (windows_of M))

area_len : (M : State) → length (area_in M) ≡ area_length
area_len M = length_rows enc_window [] window_length window_len window_limit (map words_of (windows_of M))

bytes_are : (size : ℕ) (M : State) → bytes_of size M ≡ rows_of M ++ (replicate (size - area_length - length M * 256) 0 ++ area_in M)
unfolding bytes_of raws_of behind encode enc_windows
bytes_are size M = refl

module _ (s : List ℕ) (b : Bytes s) (v : valid s ≡ true) where
  pub spread_bytes : (size : ℕ) → length s ≤ size → spread size s ≡ bytes_of size (state_in s)
  spread_bytes size l =
      let M = state_in s in
      let h : IsState s (count s) = record { is_valid = v; streams = refl } in
      let e : s ≡ bytes_of (length s) M = state.stays s b (count s) h in
      let f = state.area_for_lem s b (count s) h in
      let n = state.streams s b (count s) h in
      let z = length s - area_length - length M * 256 in
      let q : s ≡ rows_of M ++ (replicate z 0 ++ area_in M) = e ∙ bytes_are (length s) M in
      let m : z + (size - length s) ≡ size - area_length - length M * 256 = omega arith in
      ap (spread size) q
      ∙ spread_is (rows_of M) (area_in M) z (area_len M) size (size - length s) (ap (λ (x : List ℕ). size - length x) (sym q))
      ∙ ap (λ (k : ℕ). rows_of M ++ (replicate k 0 ++ area_in M)) m
      ∙ sym (bytes_are size M)

-- a sound state is sound where there is more room
pub sound_more : (cap more : ℕ) (M : State) → cap ≤ more → Sound cap M → Sound more M
sound_more cap more M l ok =
    record {
      size = let x = ok.size in omega arith;
      few = let x = ok.few in omega arith;
      each = ok.each;
      own = ok.own;
      windows = ok.windows;
      acyclic = ok.acyclic;
    }
