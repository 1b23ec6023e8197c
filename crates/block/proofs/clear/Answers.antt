-- `block::clear` meets its contract.
use mathlib.Core.Path.{ap}
use lib.ListN.{set}
use Rattle.block.specs.Block.{flags_at}
use Rattle.block.proofs.clear.Goals as goal

pub returns : goal.returns
returns c = ap (set c.args.block.now flags_at) c.cleared.ensures
