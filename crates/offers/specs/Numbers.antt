-- How: the refusals of the offers and of collect, and their steps, on raw records.
use Rattle.std.specs.Prelude.{ℕ, ◌+◌, min, cond, ltb, leb, eqb}
use Rattle.meaning.specs.Events.{horizon}
use Rattle.machine.specs.State.{room}
use Rattle.operators.specs.Operators.{group_of, is_in}
use Rattle.layout.specs.Record.{Raw, Raws, num, with_num, slot_at, row_at, change, op_f, out_f, count_f, bound_f, next_f}
use Rattle.queue.specs.Queue.{below}
use Rattle.readers.specs.Step.{released_row}

-- of the stream's own record: 7 not in, 8 stamp below the bound, 9 already 16 held
unfoldable pub reading_row : Raw → ℕ → ℕ
reading_row r t = cond (is_in (group_of (num op_f r))) (cond (ltb t (num bound_f r)) 8 (cond (leb room (num count_f r)) 9 0)) 7

unfoldable pub reading_raw : ℕ → Raws → ℕ → ℕ → ℕ
unfolding reading_row
reading_raw n st i t = cond (ltb i n) (reading_row (row_at st i) t) 7

-- 7 not in, 10 above the horizon, 8 below the present bound
unfoldable pub progress_row : Raw → ℕ → ℕ
progress_row r y = cond (is_in (group_of (num op_f r))) (cond (ltb horizon y) 10 (cond (ltb y (num bound_f r)) 8 0)) 7

unfoldable pub progress_raw : ℕ → Raws → ℕ → ℕ → ℕ
unfolding progress_row
progress_raw n st i y = cond (ltb i n) (progress_row (row_at st i) y) 7

-- the oldest waiting event's slot: the first that is not collected yet
unfoldable pub waiting_slot : Raw → ℕ
unfolding below
waiting_slot r = below (num next_f r) (min (num count_f r) room) r.slots

-- 13 no output, 14 nothing waiting
unfoldable pub collect_row : Raw → ℕ
unfolding waiting_slot
collect_row r = cond (eqb (num out_f r) 0) 13 (cond (ltb (waiting_slot r) (min (num count_f r) room)) 0 14)

unfoldable pub collect_raw : ℕ → Raws → ℕ → ℕ
unfolding collect_row
collect_raw n st i = cond (ltb i n) (collect_row (row_at st i)) 13

-- the event in slot j is collected, and what nobody waits for any more is let go
unfoldable pub collected_raw : ℕ → ℕ → Raws → Raws
unfolding released_row
collected_raw i j st = released_row i (change i (λ r. with_num next_f ((slot_at j r).stamp + 1) r) st)
