-- `faults::note_all` meets its contract.
use mathlib.Core.Path.{◌≡◌}
use Prim.Native.Nat.{◌-◌}
use lib.ListN.{length}
use Rattle.plan.specs.Rules.{streams}
use Rattle.faults.specs.Search.{Kept, noted_form}
use Rattle.faults.proofs.note_all.Given as goal

abbrev pub invariant-loop-i : goal.invariant-loop-i
invariant-loop-i l = Kept l.n (streams l.text l.p (l.n - l.i)) × ((noted_form l.n l.i (streams l.text l.p (l.n - l.i)) l.graph ≡ noted_form l.n 0 (streams l.text l.at l.n) l.initial.graph) × (length l.graph ≡ length l.initial.graph))
