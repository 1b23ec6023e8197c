-- `replay::main` meets its contract.
use mathlib.Core.Path.{refl}
use Rattle.operators.specs.Limits.{capacity}
use Rattle.replay.proofs.main.Goals as goal

pub replay-requires : goal.replay-requires
unfolding capacity
replay-requires c = refl
