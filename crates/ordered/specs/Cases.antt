-- Cases: a plan with two inputs, what `./order` makes of some readings, and how far ahead a reading may be.
use Rattle.std.specs.Prelude.{ℕ, zero, suc, true, false, List, [], ◌∷◌, pos}
use Rattle.meaning.specs.Plan.{add, calc, input, two}
use Rattle.meaning.specs.Events.{ev, Streams, found}
use Rattle.machine.specs.State.{Declared}
use Rattle.trace.specs.declared.Record.{Record}
use Rattle.trace.specs.declared.Record.TheVariants.{Reading, Progress}
use Rattle.trace.specs.Cases.{bytes}

-- in; in; add a=0 b=1 out=1
abbrev pub plan : List ℕ
plan = bytes "plan=1\nstreams=3\nop=in\na=0\nb=0\nk=0\nout=0\nop=in\na=0\nb=0\nk=0\nout=0\nop=add\na=0\nb=1\nk=0\nout=1\n"

abbrev pub streams : List Declared
streams = record { eqn = input; out = false } ∷ record { eqn = input; out = false } ∷ record { eqn = two (calc add) 0 1; out = true } ∷ []

-- input 0 has readings at 2 and 5, input 1 at 5 and 9
abbrev pub readings : Streams
readings zero = found (ev 2 (pos 7) ∷ ev 5 (pos 8) ∷ [])
readings (suc i) = found (ev 5 (pos 4) ∷ ev 9 (pos 1) ∷ [])

-- what `./order` prints of them, and its records
abbrev pub trace : List ℕ
trace = bytes "s=1 p=2\ns=0 t=2 v=7\ns=0 t=5 v=8\ns=1 t=5 v=4\ns=0 p=9\ns=1 t=9 v=1\ns=0 p=10\n"

abbrev pub records : List Record
records = Progress 1 2 ∷ Reading 0 2 (pos 7) ∷ Reading 0 5 (pos 8) ∷ Reading 1 5 (pos 4) ∷ Progress 0 9 ∷ Reading 1 9 (pos 1) ∷ Progress 0 10 ∷ []

-- input 0 comes 15 stamps ahead, and goes to the horizon
abbrev pub ahead : List Record
ahead = Reading 0 14 (pos 0) ∷ Reading 0 15 (pos 0) ∷ Progress 0 4294967296 ∷ []

-- 16 stamps
abbrev pub too_far : List Record
too_far = Reading 0 15 (pos 0) ∷ Reading 0 16 (pos 0) ∷ []
