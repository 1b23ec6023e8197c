-- `cycle::clear` meets its contract.
use Prim.Native.Nat.{◌≤◌}
use mathlib.Core.Path.{◌≡◌}
use Rattle.cycle.specs.Graph.{cleared}
use Rattle.cycle.proofs.clear.Given as goal

abbrev pub invariant-loop-i : goal.invariant-loop-i
invariant-loop-i l = (l.i ≤ l.n) × (cleared l.depth l.i l.graph ≡ cleared l.depth l.n l.initial.graph)
