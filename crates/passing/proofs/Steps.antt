-- The two steps before the bound is stored, on the whole buffer: what they leave keeps within its widths, and what is kept stays.
use Prim.Native.Nat.{ℕ, ◌<◌, ◌≤◌}
use mathlib.Core.Path.{◌≡◌, refl, sym, ap, ◌∙◌}
use mathlib.Core.Bool.{Bool, true, false, cond, true≢false}
use mathlib.Core.List.{List, ◌++◌, map}
use native.Mathlib.Omega.{arith}
use lib.ListN.{length, drop, length-map, length-drop}
use mir.Syntax.{w64}
use mir.Val.{to_z, of_z}
use lib.Seq.{get_or-set_same, get_or-set_other}
use Rattle.meaning.specs.Plan.{Eqn, input, nil, unit, one, two, last, delay, signal, window}
use Rattle.meaning.specs.Events.{Event}
use Rattle.meaning.specs.Table.{latest_of, values}
use Rattle.machine.specs.State.{Kept, Cell}
use Rattle.machine.specs.Step.{drop_below}
use Rattle.machine.specs.Windows.{take_below}
use Rattle.operators.specs.Operators.{value_of, eqn_of}
use Rattle.operators.specs.Limits.{width_limit}
use Rattle.operators.specs.Windows.{is_window_eqn}
use Rattle.meaning.specs.Arguments.{arg_a}
use Rattle.le.specs.Bytes.{Bytes}
use Rattle.layout.specs.Record.{Raw, Raws, no_raw, num, with_num, encode, decode, row_at, op_f, a_f, b_f, flag_f, k_f}
use Rattle.layout.specs.Windows.{window_at, with_window}
use Rattle.layout.proofs.Laws.{RawsOk, decode_encode, raws_ok, row_ok_lem, change_ok, num_ok, whole_then}
use Rattle.streams.specs.Look.{look_of}
use Rattle.streams.proofs.Laws.{keeps, look_eqn, kept_none}
use Rattle.sliding.specs.Slide.{width_in, place_of, words_in, slid_words, slid_row}
use Rattle.passing.specs.Pass.{own_in, other_in, slid_raw, counted_raw, passed_raw}
use Rattle.passing.proofs.Counts.{counted_own, counted_ok}

-- ---- a window has slid

module _ (n : ℕ) (i : ℕ) (hi : i < n) where
  pub slid_ok : (e : Eqn) (y x : ℕ) (st : Raws) → RawsOk n st → RawsOk n (slid_raw n i e y x st)
  unfolding slid_raw slid_row with_window
  slid_ok e y x st ok = go (is_window_eqn e)
    where
      k : ℕ
      k = width_in (value_of e)

      es : List Event
      es = (other_in n (arg_a e) st).held

      wide : k ≤ width_limit
      wide = omega arith

      few : length (slid_words k i y x es st) ≤ k
      few = unfold latest_of in rw (length-map (latest_of k (map (to_z w64) (words_in k i st) ++ values (take_below x (drop_below y es)))) (of_z w64), length-drop _ (map (to_z w64) (words_in k i st) ++ values (take_below x (drop_below y es)))) (omega arith)

      go : (b : Bool) → RawsOk n (cond b (slid_row k i y x es st) st)
      go false = ok
      go true =
          let w = slid_words k i y x es st in
          let f = few in
          let h = wide in
          let st₁ = with_window (place_of i st) (w ++ drop (length w) (window_at (place_of i st) st)) st in
          let ok₁ : RawsOk n st₁ = record { many = ok.many; good = ok.good } in
          change_ok n st₁ i (with_num flag_f (length w)) ok₁ (num_ok (row_at st i) flag_f (length w) (row_ok_lem n st i ok hi) (omega arith))

window_keeps : (e : Eqn) → is_window_eqn e ≡ true → keeps e ≡ false
window_keeps input q = refl
window_keeps nil q = refl
window_keeps unit q = refl
window_keeps (one f a) q = refl
window_keeps (two g a b) q = refl
window_keeps (last a b) q = absurd (true≢false (sym q))
window_keeps (delay a b) q = absurd (true≢false (sym q))
window_keeps (signal c a b) q = absurd (true≢false (sym q))
window_keeps (window f k a) q = refl

-- a record with another fill has the same equation
fill_eqn : (v : ℕ) (r : Raw) → (look_of (with_num flag_f v r)).eqn ≡ (look_of r).eqn
fill_eqn v r =
    let other : (j : ℕ) → (j ≡ flag_f → ⊥) → num j (with_num flag_f v r) ≡ num j r = λ j n. get_or-set_other r.nums flag_f j v 0 n in
    look_eqn (with_num flag_f v r)
    ∙ (λ z. eqn_of (other op_f (λ q. omega arith) z) (other a_f (λ q. omega arith) z) (other b_f (λ q. omega arith) z) (to_z w64 (other k_f (λ q. omega arith) z)))
    ∙ sym (look_eqn r)

-- what a stream keeps in its record stays: a window keeps nothing there
slid_same : (n i : ℕ) (e : Eqn) (y x : ℕ) (st : Raws) → i < length st.rows → e ≡ (own_in i st).eqn → (own_in i st).kept ≡ (own_in i (slid_raw n i e y x st)).kept
unfolding slid_raw slid_row with_window
slid_same n i e y x st l q = go (is_window_eqn e) refl
  where
    v : ℕ
    v = length (slid_words (width_in (value_of e)) i y x (other_in n (arg_a e) st).held st)

    r : Raw
    r = row_at st i

    go : (b : Bool) → is_window_eqn e ≡ b → (own_in i st).kept ≡ (own_in i (cond b (slid_row (width_in (value_of e)) i y x (other_in n (arg_a e) st).held st) st)).kept
    go false w = refl
    go true w =
        let k = window_keeps e w in
        kept_none r e q k
        ∙ sym (ap (λ (u : Raw). (look_of u).kept) (get_or-set_same st.rows i (with_num flag_f v r) no_raw l) ∙ kept_none (with_num flag_f v r) e (q ∙ sym (fill_eqn v r)) k)

-- ---- counted and slid

-- what is counted first leaves what is looked at
module _ (n i : ℕ) (hi : i < n) where
  pub passed_ok : (e : Eqn) (k : Kept) (y x z : ℕ) (st : Raws) → RawsOk n st → RawsOk n (passed_raw n i e k y x z st)
  unfolding passed_raw
  passed_ok e k y x z st ok = slid_ok n i hi e y x (counted_raw n i e k y z st) (counted_ok n i e k y z st hi ok)

  passed_same : (e : Eqn) (k : Kept) (y x z : ℕ) (st : Raws) → RawsOk n st → e ≡ (own_in i st).eqn → (own_in i st).kept ≡ (own_in i (passed_raw n i e k y x z st)).kept
  unfolding passed_raw
  passed_same e k y x z st ok q =
      let o = counted_own n i e k y z st (rw ok.many hi) in
      sym (ap (λ (c : Cell). c.kept) o)
      ∙ slid_same n i e y x (counted_raw n i e k y z st) (rw (counted_ok n i e k y z st hi ok).many hi) (q ∙ sym (ap (λ (c : Cell). c.eqn) o))

  -- the two steps before the bound is stored
  pub passed_is : (e : Eqn) (k : Kept) (y x z : ℕ) (s s₁ s₂ : List ℕ) → Bytes s → s₁ ≡ encode n (counted_raw n i e k y z (decode n s)) → s₂ ≡ encode n (slid_raw n i e y x (decode n s₁)) → s₂ ≡ encode n (passed_raw n i e k y x z (decode n s))
  unfolding passed_raw
  passed_is e k y x z s s₁ s₂ b e₁ e₂ = whole_then n s s₁ s₂ (counted_raw n i e k y z) (slid_raw n i e y x) e₁ (counted_ok n i e k y z (decode n s) hi (raws_ok n s b)) e₂

  module _ (s : List ℕ) (b : Bytes s) where
    abbrev o : Cell
    o = own_in i (decode n s)

    pub passed_kept : (s₁ : List ℕ) (x z : ℕ) → s₁ ≡ encode n (passed_raw n i (own_in i (decode n s)).eqn (own_in i (decode n s)).kept (own_in i (decode n s)).bound x z (decode n s)) → (own_in i (decode n s)).kept ≡ (own_in i (decode n s₁)).kept
    passed_kept s₁ x z e =
        let st = decode n s in
        let back : decode n s₁ ≡ passed_raw n i o.eqn o.kept o.bound x z st = ap (decode n) e ∙ decode_encode n (passed_raw n i o.eqn o.kept o.bound x z st) (passed_ok o.eqn o.kept o.bound x z st (raws_ok n s b)) in
        passed_same o.eqn o.kept o.bound x z st (raws_ok n s b) refl ∙ ap (λ (w : Raws). (own_in i w).kept) (sym back)
