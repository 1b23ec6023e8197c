-- `calls::move_from` meets its contract. The invariant: nothing has changed, and no equation below i can move.
use mathlib.Core.Path.{◌≡◌}
use Rattle.calls.specs.Search.{NoneBelow}
use Rattle.calls.proofs.move_from.Given as goal

abbrev pub invariant-loop-i : goal.invariant-loop-i
invariant-loop-i l = (l.state ≡ l.initial.state) × NoneBelow l.i l.initial.state
