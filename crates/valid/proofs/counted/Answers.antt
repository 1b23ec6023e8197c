-- `valid::counted` meets its contract.
use Rattle.valid.proofs.Area.{counted_yes, counted_no}
use Rattle.valid.proofs.counted.Goals as goal

pub returns-then-w : goal.returns-then-w
returns-then-w c = counted_yes c.args.w c.args.j c.if-w.true

pub returns-else-w : goal.returns-else-w
returns-else-w c = counted_no c.args.w c.args.j c.if-w.false
