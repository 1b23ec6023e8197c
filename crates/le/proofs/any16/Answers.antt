use Rattle.le.proofs.AllZero
use Rattle.le.proofs.any16.Goals as goal

pub returns : goal.returns
returns c = AllZero.zero_join c.args.s.now c.args.at 8 8 c.any8-a.result c.any8-b.result c.any8-a.ensures c.any8-b.ensures
