-- The search after a move: what it reads is there, and a record that passes no test of it is none that the move touched.
use Prim.Native.Nat.{ℕ, ◌+◌, ◌*◌, ◌≤◌, ◌<◌}
use mathlib.Core.Path.{◌≡◌, refl, sym, ap, ◌∙◌}
use mathlib.Core.Logic.{◌⊎◌, inl, inr}
use mathlib.Core.Bool.{false}
use mathlib.Core.List.{List}
use native.Mathlib.Omega.{arith}
use native.Mathlib.Decide.{dec_lt}
use lib.ListN.{length}
use Rattle.meaning.specs.Plan.{Eqn, input, nil, unit, one, two, last, delay, signal, window}
use Rattle.machine.specs.State.{Cell, cell_at}
use Rattle.machine.specs.Step.{can_move}
use Rattle.machine.specs.Touched.{keeps, touches, Still}
use Rattle.machine.proofs.Touched.{Apart, untouched_by}
use Rattle.operators.specs.Operators.{group_of, eqn_group}
use Rattle.operators.specs.Keepers.{is_keeper}
use Rattle.operators.proofs.Laws.{group_of_lem}
use Rattle.operators.proofs.Sizes.{capacity_few}
use Rattle.le.specs.Bytes.{Bytes, part}
use Rattle.layout.specs.Record.{Raws, num, dec_raw, decode, row_at, a_f, b_f, op_f}
use Rattle.layout.proofs.Laws.{record_row}
use Rattle.encoding.specs.View.{of_cell, raws_of}
use Rattle.roundtrip.specs.In.{state_in, IsState}
use Rattle.roundtrip.proofs.In.{streams, raws, few, area_for_lem}
use Rattle.refine.proofs.Whole.{row_of}
use Rattle.calls.specs.Search.{Neither, Untouched}

keeper_is : (e : Eqn) → is_keeper (eqn_group e) ≡ keeps e
keeper_is input = refl
keeper_is nil = refl
keeper_is unit = refl
keeper_is (one f a) = refl
keeper_is (two g a b) = refl
keeper_is (last a b) = refl
keeper_is (delay a b) = refl
keeper_is (signal c a b) = refl
keeper_is (window f k a) = refl

-- of two cells, by their records
untouched_cells : (s j : ℕ) (c d : Cell) → Untouched s (num a_f (of_cell c)) (num b_f (of_cell c)) j (of_cell d) → touches s c.eqn j d.eqn ≡ false
unfolding of_cell
untouched_cells s j c d u =
    untouched_by s j c.eqn d.eqn
    (λ q. u.reader.0 (sym q)) (λ q. u.reader.1 (sym q))
    (λ q. u.argument.0 (sym q)) (λ q. u.argument.1 (sym q))
    (go u.keeper)
  where
    go : (is_keeper (group_of (num op_f (of_cell d))) ≡ false) ⊎ (Neither (num a_f (of_cell d)) (num a_f (of_cell c)) (num b_f (of_cell c)) × Neither (num b_f (of_cell d)) (num a_f (of_cell c)) (num b_f (of_cell c)))
        → (keeps d.eqn ≡ false) ⊎ Apart c.eqn d.eqn
    go (inl k) = inl (sym (keeper_is d.eqn) ∙ ap is_keeper (sym (group_of_lem d.eqn)) ∙ k)
    go (inr k) = inr (record { aa = k.0.0; ab = k.0.1; ba = k.1.0; bb = k.1.1 })

-- where the last search ended, or 0
pub at_most : (t n : ℕ) → (0 < t → t < n) → t ≤ n
at_most t n l = go (dec_lt 0 t)
  where
    go : Dec (0 < t) → t ≤ n
    go (yes d) = let k = l d in omega arith
    go (no d) = omega arith

module _ (s : List ℕ) (bs : Bytes s) (n : ℕ) (h : IsState s n) where
  row_is : (i : ℕ) → i < n → row_at (decode n s) i ≡ of_cell (cell_at (state_in s) i)
  unfolding raws_of
  row_is i l = ap (λ (st : Raws). row_at st i) (raws s bs n h) ∙ row_of (state_in s) i (rw (sym (streams s bs n h)) l)

  -- the number is one byte
  pub byte_number : (t : ℕ) → (0 < t → t < n) → t < 256
  byte_number t l = let k = at_most t n l in let f = few s bs n h in let c = capacity_few (length s) in omega arith

  -- the bytes of a record, and where there is no stream, of what would be the first
  pub row_fits : (t : ℕ) → (0 < t → t < n) → t * 256 + 256 ≤ length s
  row_fits t l = let k = at_most t n l in let f = area_for_lem s bs n h in omega arith

  -- after a move of stream t no stream j that it does not touch can move, by the bytes p and q of their records
  pub untouched_rests : (t j a b : ℕ) (p q z : List ℕ) → t < n → j < t → Still t (state_in s)
      → p ≡ part s (t * 256) 256 → a ≡ num a_f (dec_raw p) → b ≡ num b_f (dec_raw p)
      → z ≡ s → q ≡ part z (j * 256) 256 → Untouched t a b j (dec_raw q) → can_move j (state_in s) ≡ false
  untouched_rests t j a b p q z l m still ep ea eb ez eq u =
      let row : dec_raw p ≡ of_cell (cell_at (state_in s) t) = record_row n s p t l ep ∙ row_is t l in
      let other : dec_raw q ≡ of_cell (cell_at (state_in s) j) = record_row n s q j (omega arith) (rw ez at eq) ∙ row_is j (omega arith) in
      still j m (untouched_cells t j (cell_at (state_in s) t) (cell_at (state_in s) j) (rw (ea ∙ ap (num a_f) row, eb ∙ ap (num b_f) row, other) at u))
