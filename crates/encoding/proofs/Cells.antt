-- The cells of records: as many as the records, with their equations.
use Prim.Native.Nat.{ℕ, zero, suc, ◌<◌}
use mathlib.Core.Path.{◌≡◌, refl, ap, ◌∙◌}
use mathlib.Core.Bool.{Bool, true, false}
use mathlib.Core.List.{List, [], ◌∷◌, map}
use lib.ListN.{length, take, drop, get_or}
use lib.IntN.{ℤ}
use native.Mathlib.Omega.{arith}
use Rattle.meaning.specs.Missing.{Reason, Outside, ZeroDivisor}
use Rattle.machine.specs.State.{plan_of, cell_at, count_of, with_window, with_passed}
use Rattle.operators.specs.Operators.{group_of, is_window}
use Rattle.layout.specs.Record.{Raw, no_raw, num, decode, row_at, op_f, flag_f}
use Rattle.layout.proofs.Laws.{rows_many}
use Rattle.layout.specs.Windows.{window_length}
use Rattle.encoding.specs.Back.{to_cell, counts_in, window_in, cells, area_of, state_of}

-- of a record that is a window, and of one that is none
pub cells_window : (r : Raw) (rs : List Raw) (b : List ℕ) → is_window (group_of (num op_f r)) ≡ true
    → cells (r ∷ rs) b ≡ with_passed (with_window (window_in (num flag_f r) (take window_length b)) (counts_in r)) (to_cell r) ∷ cells rs (drop window_length b)
unfolding cells
cells_window r rs b e = rw e

pub cells_other : (r : Raw) (rs : List Raw) (b : List ℕ) → is_window (group_of (num op_f r)) ≡ false → cells (r ∷ rs) b ≡ with_passed (counts_in r) (to_cell r) ∷ cells rs b
unfolding cells
cells_other r rs b e = rw e

pub cells_none : (b : List ℕ) → cells [] b ≡ []
unfolding cells
cells_none b = refl

pub cells_plan : (rs : List Raw) (b : List ℕ) → plan_of (cells rs b) ≡ plan_of (map to_cell rs)
cells_plan [] b = ap plan_of (cells_none b)
cells_plan (r ∷ rs) b = go (is_window (group_of (num op_f r))) refl (cells_plan rs (drop window_length b)) (cells_plan rs b)
  where
    go : (w : Bool) → is_window (group_of (num op_f r)) ≡ w → plan_of (cells rs (drop window_length b)) ≡ plan_of (map to_cell rs) → plan_of (cells rs b) ≡ plan_of (map to_cell rs) → plan_of (cells (r ∷ rs) b) ≡ plan_of (map to_cell (r ∷ rs))
    go true e p q = ap plan_of (cells_window r rs b e) ∙ ap (◌∷◌ (to_cell r).eqn) p
    go false e p q = ap plan_of (cells_other r rs b e) ∙ ap (◌∷◌ (to_cell r).eqn) q

pub cells_length : (rs : List Raw) (b : List ℕ) → length (cells rs b) ≡ length rs
cells_length [] b = ap length (cells_none b)
cells_length (r ∷ rs) b = go (is_window (group_of (num op_f r))) refl (cells_length rs (drop window_length b)) (cells_length rs b)
  where
    go : (w : Bool) → is_window (group_of (num op_f r)) ≡ w → length (cells rs (drop window_length b)) ≡ length rs → length (cells rs b) ≡ length rs → length (cells (r ∷ rs) b) ≡ suc (length rs)
    go true e p q = ap length (cells_window r rs b e) ∙ ap suc p
    go false e p q = ap length (cells_other r rs b e) ∙ ap suc q

-- the counts of record i are those of stream i
pub cells_counts : (rs : List Raw) (b : List ℕ) (i : ℕ) → i < length rs → (q : Reason) → count_of q (cell_at (cells rs b) i).passed ≡ count_of q (counts_in (get_or rs i no_raw))
cells_counts [] b i h q = absurd (omega arith)
cells_counts (r ∷ rs) b i h q = go (is_window (group_of (num op_f r))) refl i h (λ d j k. cells_counts rs d j k q)
  where
    same : (q : Reason) (xs : List ℤ) → count_of q (with_window xs (counts_in r)) ≡ count_of q (counts_in r)
    same Outside xs = refl
    same ZeroDivisor xs = refl

    go : (w : Bool) → is_window (group_of (num op_f r)) ≡ w → (i : ℕ) → i < suc (length rs)
        → ((d : List ℕ) (j : ℕ) → j < length rs → count_of q (cell_at (cells rs d) j).passed ≡ count_of q (counts_in (get_or rs j no_raw)))
        → count_of q (cell_at (cells (r ∷ rs) b) i).passed ≡ count_of q (counts_in (get_or (r ∷ rs) i no_raw))
    go true e zero k later = rw (cells_window r rs b e) (same q (window_in (num flag_f r) (take window_length b)))
    go false e zero k later = rw (cells_other r rs b e)
    go true e (suc j) k later = rw (cells_window r rs b e) (later (drop window_length b) j (omega arith))
    go false e (suc j) k later = rw (cells_other r rs b e) (later b j (omega arith))

pub state_counts : (n : ℕ) (s : List ℕ) (i : ℕ) → i < n → (q : Reason) → count_of q (cell_at (state_of n s) i).passed ≡ count_of q (counts_in (row_at (decode n s) i))
unfolding state_of
state_counts n s i h q = cells_counts (decode n s).rows (area_of (decode n s).spare) i (rw (rows_many n s) h) q

pub state_length_lem : (n : ℕ) (s : List ℕ) → length (state_of n s) ≡ n
unfolding state_of
state_length_lem n s = cells_length (decode n s).rows (area_of (decode n s).spare) ∙ rows_many n s
