-- A window's bytes, lent as a part of the whole buffer, are the raw state's window; what is stored there is that of the slid one.
use Prim.Native.Nat.{ℕ, ◌+◌, ◌*◌, ◌<◌, ◌≤◌}
use mathlib.Core.Path.{◌≡◌, sym, ap, ap₂, ◌∙◌}
use mathlib.Core.List.{List, ◌++◌, map}
use borrow.Rule.Slice.PartMut.{mid_of, put_mid}
use lib.IntN.{ℤ}
use lib.ListN.{length, take, drop, length-map}
use mir.Syntax.{w64}
use mir.Val.{to_z, of_z}
use Rattle.meaning.specs.Plan.{Fold}
use Rattle.meaning.specs.Events.{Event}
use Rattle.meaning.specs.Table.{latest_of, values}
use Rattle.machine.specs.Reach.{Next}
use Rattle.machine.specs.Step.{drop_below}
use Rattle.machine.specs.Windows.{take_below, first_fit}
use Rattle.machine.specs.Counting.{sum_tally}
use Rattle.operators.specs.Limits.{window_limit}
use Rattle.le.specs.Bytes.{Bytes}
use Rattle.layout.specs.Record.{Raws, enc_raw, dec_raw, encode, decode, with_num, change, flag_f}
use Rattle.layout.specs.Windows.{window_length, area_length, window_start, enc_window, dec_window, window_at, with_window}
use Rattle.layout.proofs.Laws.{RawsOk, raws_ok, lent, whole_then}
use Rattle.layout.proofs.Windows.{window_part, window_lent}
use Rattle.encoding.specs.View.{words_of}
use Rattle.windows.specs.Window.{kept}
use Rattle.sliding.specs.Slide.{place_of, fill_of, words_in, fit_row, missing_row, slid_words, slid_row}

window_ok_lem : (n j : ℕ) (ws : List ℕ) (st : Raws) → RawsOk n st → RawsOk n (with_window j ws st)
unfolding with_window
window_ok_lem n j ws st ok = record { many = ok.many; good = ok.good }

module _ (n : ℕ) (s : List ℕ) (fits : n * 256 + area_length ≤ length s) (i j at m : ℕ) (ej : j ≡ place_of i (decode n s)) (ea : at ≡ window_start (length s) j) (em : m ≡ window_length)
    (k fill : ℕ) (ef : fill ≡ fill_of k i (decode n s)) where
  abbrev st : Raws
  st = decode n s

  window_is : dec_window (mid_of at m s) ≡ window_at (place_of i st) st
  window_is = (λ u. dec_window (mid_of (ea u) (em u) s)) ∙ sym (window_part n s fits j) ∙ ap (λ (x : ℕ). window_at x st) ej

  kept_is : kept fill (mid_of at m s) ≡ map (to_z w64) (words_in k i st)
  kept_is = ap₂ (λ (x : ℕ) (l : List ℕ). map (to_z w64) (take x l)) ef window_is

  pub fit_is : (f : Fold) (y hi : ℕ) (es : List Event) (x : Next) → x ≡ first_fit f k hi (kept fill (mid_of at m s)) (drop_below y es) → x ≡ fit_row f k i y hi es st
  unfolding fit_row
  fit_is f y hi es x e = e ∙ ap (λ (l : List ℤ). first_fit f k hi l (drop_below y es)) kept_is

  pub missing_is : (y x : ℕ) (es : List Event) (c : ℕ) → c ≡ sum_tally k x (kept fill (mid_of at m s)) (drop_below y es) → c ≡ missing_row k i y x es st
  unfolding missing_row
  missing_is y x es c e = e ∙ ap (λ (l : List ℤ). sum_tally k x l (drop_below y es)) kept_is

  module _ (y x : ℕ) (es : List Event) (vs : List ℤ) (ev : vs ≡ values (take_below x (drop_below y es))) where
    abbrev slid : List ℤ
    slid = latest_of k (kept fill (mid_of at m s) ++ vs)

    words_are : words_of slid ≡ slid_words k i y x es st
    words_are = ap₂ (λ (l v : List ℤ). words_of (latest_of k (l ++ v))) kept_is ev

    pub slid_is : (p₁ p₂ : List ℕ) (r q : ℕ) → Bytes s → j < window_limit → i < n → p₁ ≡ enc_window (words_of slid ++ drop r (dec_window (mid_of at m s))) → r ≡ length slid
        → n * 256 ≤ length (put_mid at m s p₁) → Bytes (put_mid at m s p₁) → q ≡ 256 → p₂ ≡ enc_raw (with_num flag_f r (dec_raw (mid_of (i * 256) q (put_mid at m s p₁))))
        → put_mid (i * 256) q (put_mid at m s p₁) p₂ ≡ encode n (slid_row k i y x es st)
    unfolding slid_row
    slid_is p₁ p₂ r q b hj hi e₁ er l₁ b₁ eq e₂ =
        let s₁ = put_mid at m s p₁ in
        let ws = words_of slid ++ drop r (dec_window (mid_of at m s)) in
        let first : s₁ ≡ encode n (with_window j ws st) = ap (λ (x : ℕ). put_mid x m s p₁) ea ∙ window_lent n s fits p₁ j m ws em b hj e₁ in
        let second = lent n s₁ p₂ i q (with_num flag_f r) eq l₁ b₁ hi e₂ in
        let many : r ≡ length (slid_words k i y x es st) = er ∙ sym (length-map slid (of_z w64)) ∙ ap length words_are in
        whole_then n s s₁ (put_mid (i * 256) q s₁ p₂) (with_window j ws) (change i (with_num flag_f r)) first (window_ok_lem n j ws st (raws_ok n s b)) second
        ∙ (λ u. encode n (change i (with_num flag_f (many u)) (with_window (ej u) (words_are u ++ drop (many u) (window_is u)) st)))
