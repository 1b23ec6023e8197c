-- How: the step that a move makes, on raw records: total functions of n records.
use Rattle.std.specs.Prelude.{ℕ, ◌+◌, cond, List, [], ◌∷◌, leb}
use Rattle.std.specs.Int.{w64}
use Rattle.std.proofs.Common.{of_z}
use Rattle.meaning.specs.Plan.{Eqn}
use Rattle.machine.specs.State.{Kept, room}
use Rattle.machine.specs.Reach.{Next, event, silent}
use Rattle.machine.specs.Step.{absorb}
use Rattle.meaning.specs.Arguments.{reads, arg_a, arg_b}
use Rattle.layout.specs.Record.{Raws, with_num, row_at, change, change_all, bound_f}
use Rattle.encoding.specs.Back.{held_of}
use Rattle.keeping.specs.Keep.{moved_cell, kept_row}
use Rattle.queue.specs.Queue.{pushed}
use Rattle.readers.specs.Step.{told_row, released_row}
use Rattle.passing.specs.Pass.{arg_in, other_in}

-- where its bound goes: a full stream stops at the event
abbrev pub bound_raw : Next → ℕ → ℕ
bound_raw (silent r) held = r
bound_raw (event t v) held = cond (leb room held) t (t + 1)

-- Below, e is the equation of stream i and k what it kept, both as looked at before the move.

-- own kept data brought up to date, once the bound is y
abbrev pub kept_raw : ℕ → ℕ → Eqn → Kept → ℕ → Raws → Kept
kept_raw n i e k y st = absorb e (moved_cell y (held_of (row_at st i)) k) (other_in n (arg_a e) st) (other_in n (arg_b e) st)

unfoldable pub absorbed_raw : ℕ → ℕ → Eqn → Kept → ℕ → Raws → Raws
absorbed_raw n i e k y st = change i (kept_row e (kept_raw n i e k y st)) st

-- what nobody waits for let go: of stream i, and of its arguments
unfoldable pub released_args : ℕ → List ℕ → Raws → Raws
unfolding released_row
released_args n [] st = st
released_args n (a ∷ l) st = released_args n l (released_row (arg_in n a) st)

unfoldable pub released_all : ℕ → ℕ → Eqn → Raws → Raws
unfolding released_args
released_all n i e st = released_args n (reads e) (released_row i st)

-- the bound goes to y in silence
unfoldable pub silent_raw : ℕ → ℕ → Eqn → Kept → ℕ → Raws → Raws
unfolding absorbed_raw released_all
silent_raw n i e k y st = released_all n i e (absorbed_raw n i e k y (change i (with_num bound_f y) st))

-- the event (t, v) comes in
unfoldable pub event_raw : ℕ → ℕ → Eqn → Kept → ℕ → ℕ → Raws → Raws
unfolding absorbed_raw released_all told_row pushed
event_raw n i e k t v st = released_all n i e (change_all (told_row i t v) (absorbed_raw n i e k (t + 1) (change i (pushed t v) st)))

abbrev pub step_raw : ℕ → ℕ → Eqn → Kept → Next → ℕ → Raws → Raws
step_raw n i e k (silent r) held st = silent_raw n i e k r st
step_raw n i e k (event t v) held st = cond (leb room held) (silent_raw n i e k t st) (event_raw n i e k t (of_z w64 v) st)
