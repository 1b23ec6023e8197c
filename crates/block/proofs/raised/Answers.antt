-- `block::raised` meets its contract.
use Rattle.std.proofs.Common.{arith}
use Rattle.std.proofs.lemmas.Grind.{common_steps}
use Rattle.block.specs.Block.{raised}
use Rattle.block.proofs.raised.Goals as goal

pub returns : goal.returns
unfolding raised
returns c = grind (arith, common_steps)
