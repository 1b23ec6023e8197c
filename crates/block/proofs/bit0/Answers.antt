-- `block::bit0` meets its contract.
use Rattle.block.proofs.Flags.{bit_zero}
use Rattle.block.proofs.bit0.Goals as goal

pub returns : goal.returns
returns c = bit_zero c.args.f
