use Rattle.le.proofs.AllZero
use Rattle.le.proofs.any32.Goals as goal

pub returns : goal.returns
returns c = AllZero.zero_join c.args.s.now c.args.at 16 16 c.any16-a.result c.any16-b.result c.any16-a.ensures c.any16-b.ensures
