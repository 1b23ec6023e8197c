-- `block::end` meets its contract.
use mathlib.Core.Path.{ap}
use lib.ListN.{set}
use Rattle.block.specs.Block.{status_at, flags_at, ended}
use Rattle.block.proofs.end.Goals as goal

pub returns : goal.returns
unfolding ended
returns c = let a = c.args in ap (set (set a.block.now status_at a.number) flags_at) c.raised.ensures
