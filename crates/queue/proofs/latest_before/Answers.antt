use mathlib.Core.Path.{◌∙◌}
use Rattle.layout.specs.Record.{dec_raw}
use Rattle.layout.proofs.Slots.{slots_many}
use Rattle.meaning.specs.Events.{found}
use Rattle.encoding.specs.Back.{held_of}
use Rattle.queue.proofs.Latest.{latest_none, latest_some}
use Rattle.queue.proofs.latest_before.Goals as goal

pub returns-then-z-eq0 : goal.returns-then-z-eq0
returns-then-z-eq0 c = let a = c.args in let r = dec_raw a.r.now in let many = slots_many a.r.now in latest_none (found (held_of r)) a.t c.past_latest-z.result c.past_latest-z.ensures c.if-z-eq0.true

pub returns : goal.returns
returns c = let a = c.args in let r = dec_raw a.r.now in let many = slots_many a.r.now in c.find.ensures ∙ latest_some (found (held_of r)) a.t c.past_latest-z.result c.past_latest-z.ensures c.if-z-eq0.false
