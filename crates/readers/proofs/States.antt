-- Who reads a stream, and up to which bound, is the same of the records as of the machine's state that the bytes give: of every
-- buffer, whatever it holds.
use Prim.Native.Nat.{ℕ, zero, suc, ◌*◌, ◌<◌}
use mathlib.Core.Path.{◌≡◌, refl, sym, ap, ◌∙◌}
use mathlib.Core.Bool.{Bool, true, false}
use mathlib.Core.List.{List, [], ◌∷◌, map}
use native.Mathlib.Omega.{arith}
use lib.Dec.{T}
use lib.ListN.{length, get_or, drop}
use mir.Syntax.{w64}
use mir.Val.{to_z}
use Rattle.meaning.specs.Arguments.{Argument}
use Rattle.meaning.proofs.Tests.{is_true}
use Rattle.le.specs.Bytes.{part}
use Rattle.machine.specs.State.{Cell, State, cell_at}
use Rattle.machine.specs.Step.{any_of, reads_it, least_reader}
use Rattle.machine.specs.Waiting.{Reader}
use Rattle.machine.proofs.Waiting.{reads_among, among_reads}
use Rattle.operators.specs.Operators.{group_of, is_window}
use Rattle.operators.proofs.Laws.{arguments_by_number}
use Rattle.layout.specs.Record.{Raw, no_raw, num, dec_raw, decode, op_f, a_f, b_f, k_f, bound_f}
use Rattle.layout.specs.Windows.{window_length}
use Rattle.layout.proofs.Laws.{rows_many, record_row}
use Rattle.encoding.specs.Back.{to_cell, cells, area_of, state_of}
use Rattle.encoding.proofs.Cells.{cells_window, cells_other, cells_none, state_length_lem}
use Rattle.readers.specs.Step.{reads_row, lowered, least_row}

reads_cell : (s : ℕ) (r : Raw) → reads_row s r ≡ reads_it s (to_cell r).eqn
unfolding reads_row to_cell
reads_cell s r = ap (λ l. any_of s (map (λ (x : Argument). x.stream) l)) (sym (arguments_by_number (num a_f r) (num b_f r) (to_z w64 (num k_f r)) (num op_f r)))

-- the cells of a list of records: the first one's equation and bound are its record's, the others are those of some cells of the rest
module _ (r : Raw) (rs : List Raw) (b : List ℕ) where
  -- what holds of a cell with this record's equation and bound before the others' cells, holds of the cells of all
  cells_case : (P : State → Type 0) → ((c : Cell) (b : List ℕ) → c.eqn ≡ (to_cell r).eqn → c.bound ≡ (to_cell r).bound → P (c ∷ cells rs b)) → P (cells (r ∷ rs) b)
  cells_case P f = go (is_window (group_of (num op_f r))) refl
    where
      go : (w : Bool) → is_window (group_of (num op_f r)) ≡ w → P (cells (r ∷ rs) b)
      go true e = rw (cells_window r rs b e) (f _ (drop window_length b) refl refl)
      go false e = rw (cells_other r rs b e) (f _ b refl refl)

least_cells : (s : ℕ) (rs : List Raw) (b : List ℕ) → least_row s rs ≡ least_reader s (cells rs b)
unfolding least_row least_reader lowered to_cell
least_cells s [] b = sym (ap (least_reader s) (cells_none b))
least_cells s (r ∷ rs) b = cells_case r rs b (λ M. lowered s r (least_row s rs) ≡ least_reader s M) (λ c d e f. step c d e f (least_cells s rs d))
  where
    step : (c : Cell) (d : List ℕ) → c.eqn ≡ (to_cell r).eqn → c.bound ≡ (to_cell r).bound → least_row s rs ≡ least_reader s (cells rs d) → lowered s r (least_row s rs) ≡ least_reader s (c ∷ cells rs d)
    step c d e f ih = rw (reads_cell s r, e, f, ih)

pub least_state : (s n : ℕ) (p : List ℕ) → least_row s (decode n p).rows ≡ least_reader s (state_of n p)
unfolding state_of
least_state s n p = least_cells s (decode n p).rows (area_of (decode n p).spare)

-- ---- one record among them

cells_at : (rs : List Raw) (b : List ℕ) (i : ℕ) → i < length rs → ((cell_at (cells rs b) i).eqn ≡ (to_cell (get_or rs i no_raw)).eqn) × ((cell_at (cells rs b) i).bound ≡ (to_cell (get_or rs i no_raw)).bound)
cells_at [] b i h = absurd (omega arith)
cells_at (r ∷ rs) b zero h = cells_case r rs b (λ M. ((cell_at M 0).eqn ≡ (to_cell r).eqn) × ((cell_at M 0).bound ≡ (to_cell r).bound)) (λ c d e f. (e, f))
cells_at (r ∷ rs) b (suc i) h =
    cells_case r rs b (λ M. ((cell_at M (suc i)).eqn ≡ (to_cell (get_or rs i no_raw)).eqn) × ((cell_at M (suc i)).bound ≡ (to_cell (get_or rs i no_raw)).bound)) (λ c d e f. cells_at rs d i (omega arith))

-- record i lies in q
module _ (s n : ℕ) (p q : List ℕ) (i : ℕ) (h : i < n) (own : q ≡ part p (i * 256) 256) where
  row : dec_raw q ≡ get_or (decode n p).rows i no_raw
  row = record_row n p q i h own

  at : ((cell_at (state_of n p) i).eqn ≡ (to_cell (dec_raw q)).eqn) × ((cell_at (state_of n p) i).bound ≡ (to_cell (dec_raw q)).bound)
  unfolding state_of
  at =
      let x = cells_at (decode n p).rows (area_of (decode n p).spare) i (rw (rows_many n p) h) in
      (x.0 ∙ ap (λ (r : Raw). (to_cell r).eqn) (sym row), x.1 ∙ ap (λ (r : Raw). (to_cell r).bound) (sym row))

  pub row_bound : (cell_at (state_of n p) i).bound ≡ num bound_f (dec_raw q)
  unfolding to_cell
  row_bound = at.1

  pub row_reader : reads_row s (dec_raw q) ≡ true → Reader (state_of n p) s i
  row_reader e = (rw (state_length_lem n p) h, reads_among s (cell_at (state_of n p) i).eqn (is_true (reads_it s (cell_at (state_of n p) i).eqn) (ap (reads_it s) at.0 ∙ sym (reads_cell s (dec_raw q)) ∙ e)))

  pub row_other : reads_row s (dec_raw q) ≡ false → Reader (state_of n p) s i → ⊥
  row_other e k =
      let x : reads_it s (cell_at (state_of n p) i).eqn ≡ false = ap (reads_it s) at.0 ∙ sym (reads_cell s (dec_raw q)) ∙ e in
      let y : T (reads_it s (cell_at (state_of n p) i).eqn) = among_reads s (cell_at (state_of n p) i).eqn k.1 in
      rw x at y
