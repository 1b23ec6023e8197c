use Rattle.events.proofs.Laws as law
use Rattle.events.proofs.unit_at.Goals as goal

pub returns-then-t-eq0 : goal.returns-then-t-eq0
returns-then-t-eq0 c = law.unit_zero c.args.t c.if-t-eq0.true

pub returns : goal.returns
returns c = law.unit_later c.args.t c.if-t-eq0.false
