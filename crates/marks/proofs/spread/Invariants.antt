-- `marks::spread` meets its contract.
use mathlib.Core.Path.{◌≡◌}
use lib.ListN.{length}
use Rattle.marks.specs.Marks.{unmarked, Passes}
use Rattle.marks.proofs.spread.Given as goal

abbrev pub invariant-loop : goal.invariant-loop
invariant-loop l = Passes l.graph l.n l.initial.marks l.marks × (length l.marks ≡ length l.initial.marks)

abbrev pub decreases-loop : goal.decreases-loop
decreases-loop l = unmarked l.marks
