-- `missing::tell_replayed` meets its contract.
use mathlib.Core.Path.{refl}
use Rattle.operators.specs.Limits.{capacity}
use Rattle.missing.proofs.tell_replayed.Goals as goal

pub replay-requires : goal.replay-requires
unfolding capacity
replay-requires g c = refl
