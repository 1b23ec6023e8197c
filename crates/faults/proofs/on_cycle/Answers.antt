-- `faults::on_cycle` meets its contract.
use Rattle.std.specs.Prelude.{unwrap_or}
use Rattle.faults.proofs.Cycles.{lowest_in}
use native.Mathlib.Omega.{arith}
use Rattle.faults.proofs.on_cycle.Goals as goal

pub returns : goal.returns
returns c = (lowest_in c.args.text.now c.args.n c.args.at (omega arith) c.requires.1 c.note_all.new.graph c.note_all.ensures (unwrap_or c.lowest.result c.args.n) c.lowest.ensures.0, c.lowest.ensures.1)
