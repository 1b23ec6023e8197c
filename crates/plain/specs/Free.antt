-- How: the tests for one event, and the number of events that a release of a stream lets go.
use Rattle.std.specs.Prelude.{ℕ, min, Bool, false, cond, leb, eqb}
use Rattle.machine.specs.State.{room}
use Rattle.layout.specs.Record.{Raw, Raws, num, row_at, out_f, count_f, bound_f, next_f}
use Rattle.queue.specs.Queue.{below}
use Rattle.readers.specs.Step.{reads_row, least_row, waiting_row}

-- a record that reads s and whose bound is not above t
abbrev pub waits_row : (s t : ℕ) → Raw → Bool
waits_row s t r = cond (reads_row s r) (leb (num bound_f r) t) false

-- an output of which nothing so late is collected
abbrev pub uncollected_row : ℕ → Raw → Bool
uncollected_row t r = cond (eqb (num out_f r) 0) false (leb (num next_f r) t)

-- how many events the record of stream i holds
abbrev pub held_in : ℕ → Raws → ℕ
held_in i st = min (num count_f (row_at st i)) room

-- how many of them, from the oldest on, lie below the least bound that waits
unfoldable pub free_in : ℕ → Raws → ℕ
free_in i st = below (waiting_row (least_row i st.rows) (row_at st i)) (held_in i st) (row_at st i).slots
