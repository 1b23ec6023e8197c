-- How: what stream i keeps of the stamps that its bound passes, on raw records: total functions of n records.
use Rattle.std.specs.Prelude.{ℕ, cond, ◌≡◌, List, [], ltb}
use Rattle.meaning.specs.Events.{Event}
use Rattle.machine.specs.Windows.{take_below}
use Rattle.meaning.specs.Plan.{Fold, wsum, wmin, wmax, Eqn, input, nil, unit, one, two, last, delay, signal, window}
use Rattle.machine.specs.State.{Cell, Kept}
use Rattle.machine.specs.Step.{drop_below}
use Rattle.machine.specs.Counting.{tallied}
use Rattle.meaning.specs.Missing.{Reason, Outside, ZeroDivisor, can_lack}
use Rattle.meaning.specs.Arguments.{arg_a, arg_b}
use Rattle.operators.specs.Operators.{value_of}
use Rattle.operators.specs.Windows.{is_window_eqn}
use Rattle.layout.specs.Record.{Raws, row_at, change}
use Rattle.streams.specs.Look.{look_of, own_cell}
use Rattle.sliding.specs.Slide.{width_in, missing_row, slid_row}
use Rattle.counting.specs.Tally.{counted_row}

-- an argument's record, of n; one that is not there is read as the first
abbrev pub arg_in : ℕ → ℕ → ℕ
arg_in n a = cond (ltb a n) a 0

-- the records of stream i and of an argument a, as a move looks at them
abbrev pub own_in : ℕ → Raws → Cell
own_in i st = look_of (row_at st i)

abbrev pub other_in : ℕ → ℕ → Raws → Cell
other_in n a st = look_of (row_at st (arg_in n a))

-- the fold of a window's equation
abbrev pub fold_of : Eqn → Fold
fold_of input = wsum
fold_of nil = wsum
fold_of unit = wsum
fold_of (one f a) = wsum
fold_of (two g a b) = wsum
fold_of (last a b) = wsum
fold_of (delay a b) = wsum
fold_of (signal c a b) = wsum
fold_of (window f k a) = f

-- only a sum lacks a value, and never for a divisor
abbrev pub summed_for : Reason → Fold → ℕ → ℕ
summed_for Outside wsum m = m
summed_for Outside wmin m = 0
summed_for Outside wmax m = 0
summed_for ZeroDivisor f m = 0

-- a window slides as its bound goes from y to x; nothing else does
unfoldable pub slid_raw : ℕ → ℕ → Eqn → (y x : ℕ) → Raws → Raws
unfolding slid_row
slid_raw n i e y x st = cond (is_window_eqn e) (slid_row (width_in (value_of e)) i y x (other_in n (arg_a e) st).held st) st

-- Below, e is the equation of stream i and k what it kept, both as looked at before the move.

-- at how many stamps from y on and below x an event of stream i is missing: a window's by its sum alone, any other's over its
-- arguments' held events
abbrev pub missed_raw : Reason → ℕ → ℕ → Eqn → Kept → (y x : ℕ) → Raws → ℕ
missed_raw q n i e k y x st =
    cond (is_window_eqn e) (summed_for q (fold_of e) (missing_row (width_in (value_of e)) i y x (other_in n (arg_a e) st).held st))
    (tallied q e (own_cell nil y k) (other_in n (arg_a e) st) (other_in n (arg_b e) st) x)

-- the held events of a cell from y on and below x
abbrev pub passing : (y x : ℕ) → Cell → List Event
passing y x c = take_below x (drop_below y c.held)

-- no event that the equation works on is passed
abbrev pub Quiet : ℕ → Eqn → (y x : ℕ) → Raws → Type 0
Quiet n input y x st = Unit {0}
Quiet n nil y x st = Unit {0}
Quiet n unit y x st = Unit {0}
Quiet n (one f a) y x st = passing y x (other_in n a st) ≡ []
Quiet n (two g a b) y x st = passing y x (other_in n a st) ≡ []
Quiet n (last a b) y x st = Unit {0}
Quiet n (delay a b) y x st = Unit {0}
Quiet n (signal c a b) y x st = (passing y x (other_in n a st) ≡ []) × (passing y x (other_in n b st) ≡ [])
Quiet n (window f k a) y x st = passing y x (other_in n a st) ≡ []

-- its record with them counted, if its events can be missing
unfoldable pub counted_raw : ℕ → ℕ → Eqn → Kept → (y x : ℕ) → Raws → Raws
unfolding missing_row counted_row
counted_raw n i e k y x st = cond (can_lack e) (change i (counted_row (missed_raw Outside n i e k y x st) (missed_raw ZeroDivisor n i e k y x st)) st) st

-- what stream i keeps of the stamps that its bound passes, from y to x: those below z are counted, and a window slides
unfoldable pub passed_raw : ℕ → ℕ → Eqn → Kept → (y x z : ℕ) → Raws → Raws
unfolding counted_raw slid_raw
passed_raw n i e k y x z st = slid_raw n i e y x (counted_raw n i e k y z st)
