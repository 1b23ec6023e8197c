-- `block::cleared` meets its contract.
use Rattle.std.proofs.Common.{arith}
use Rattle.std.proofs.lemmas.Grind.{common_steps}
use Rattle.block.specs.Block.{cleared}
use Rattle.block.proofs.cleared.Goals as goal

pub returns : goal.returns
unfolding cleared
returns c = grind (arith, common_steps)
