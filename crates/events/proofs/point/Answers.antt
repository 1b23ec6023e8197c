use native.Mathlib.Omega.{arith}
use Rattle.machine.specs.Reach as machine
use Rattle.events.proofs.point.Goals as goal

pub returns : goal.returns
unfolding machine.point
returns c = omega arith
