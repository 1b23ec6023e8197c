use Rattle.le.proofs.AllZero
use Rattle.le.proofs.any8.Goals as goal

pub returns : goal.returns
returns c = AllZero.zero_join c.args.s.now c.args.at 4 4 c.any4-a.result c.any4-b.result c.any4-a.ensures c.any4-b.ensures
