-- `block::bit1` meets its contract.
use Rattle.block.proofs.Flags.{bit_one}
use Rattle.block.proofs.bit1.Goals as goal

pub returns : goal.returns
returns c = bit_one c.args.f
