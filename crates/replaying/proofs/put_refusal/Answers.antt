-- `replaying::put_refusal` meets its contract.
use Rattle.decimal.proofs.Puts.{put_none}
use Rattle.replaying.proofs.Steps.{refusal_none, refusal_some}
use Rattle.replaying.proofs.put_refusal.Goals as goal

pub returns-then-number-eq0 : goal.returns-then-number-eq0
returns-then-number-eq0 c = rw (refusal_none _ c.if-number-eq0.true) (put_none _ _)

pub returns : goal.returns
returns c = rw (refusal_some c.args.number c.if-number-eq0.false) c.put_refused.ensures
