-- `calls::move_touched` meets its contract. The invariant: nothing has changed, and no equation below j can move.
use mathlib.Core.Path.{◌≡◌}
use Rattle.calls.specs.Search.{NoneBelow}
use Rattle.calls.proofs.move_touched.Given as goal

abbrev pub invariant-loop-j : goal.invariant-loop-j
invariant-loop-j l = (l.state ≡ l.initial.state) × NoneBelow l.j l.initial.state
