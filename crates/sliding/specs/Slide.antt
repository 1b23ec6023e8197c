-- How: a window's part of a move on raw records: where its values lie, what it finds, and what it keeps then. Total: a record's
-- width may be any number, and there may be more windows than places.
use Rattle.std.specs.Prelude.{ℕ, zero, suc, ◌-◌, min, max, cond, List, [], ◌∷◌, ◌++◌, map, length, take, drop, ℤ}
use Rattle.std.specs.Int.{w64}
use Rattle.std.proofs.Common.{to_z}
use Rattle.meaning.specs.Plan.{Fold}
use Rattle.meaning.specs.Events.{Event}
use Rattle.meaning.specs.Table.{latest_of, values, width}
use Rattle.machine.specs.Reach.{Next}
use Rattle.machine.specs.Step.{drop_below}
use Rattle.machine.specs.Windows.{take_below, first_fit}
use Rattle.machine.specs.Counting.{sum_tally}
use Rattle.operators.specs.Operators.{group_of, is_window}
use Rattle.operators.specs.Limits.{width_limit, window_limit}
use Rattle.layout.specs.Record.{Raw, Raws, num, with_num, row_at, change, op_f, flag_f}
use Rattle.layout.specs.Windows.{window_at, with_window}
use Rattle.encoding.specs.View.{words_of}

-- the width of a window, cut to 1 to 64
abbrev pub width_in : ℤ → ℕ
width_in k = max 1 (min (width k) width_limit)

-- how many of the first i records are windows
unfoldable pub windows_before : ℕ → List Raw → ℕ
windows_before zero l = 0
windows_before (suc i) [] = 0
windows_before (suc i) (r ∷ l) = cond (is_window (group_of (num op_f r))) (suc (windows_before i l)) (windows_before i l)

-- the place of stream i's window: its rank among the windows, cut to the last place
abbrev pub place_of : ℕ → Raws → ℕ
place_of i st = min (windows_before i st.rows) (window_limit - 1)

-- how many words it keeps, at most k; and these
abbrev pub fill_of : (k i : ℕ) → Raws → ℕ
fill_of k i st = min (num flag_f (row_at st i)) k

abbrev pub words_in : (k i : ℕ) → Raws → List ℕ
words_in k i st = take (fill_of k i st) (window_at (place_of i st) st)

-- what a move of stream i, a window of k values with bound y, finds below hi, where its argument holds these events
unfoldable pub fit_row : Fold → (k i y hi : ℕ) → List Event → Raws → Next
fit_row f k i y hi es st = first_fit f k hi (map (to_z w64) (words_in k i st)) (drop_below y es)

-- at how many stamps from y on and below x its sum has no value
unfoldable pub missing_row : (k i y x : ℕ) → List Event → Raws → ℕ
missing_row k i y x es st = sum_tally k x (map (to_z w64) (words_in k i st)) (drop_below y es)

-- its words once its bound goes from y to x
abbrev pub slid_words : (k i y x : ℕ) → List Event → Raws → List ℕ
slid_words k i y x es st = words_of (latest_of k (map (to_z w64) (words_in k i st) ++ values (take_below x (drop_below y es))))

-- and the state with them: the words behind them stay
unfoldable pub slid_row : (k i y x : ℕ) → List Event → Raws → Raws
slid_row k i y x es st =
    let w = slid_words k i y x es st in
    change i (with_num flag_f (length w)) (with_window (place_of i st) (w ++ drop (length w) (window_at (place_of i st) st)) st)
