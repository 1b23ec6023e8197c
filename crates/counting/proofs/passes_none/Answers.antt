-- `counting::passes_none` meets its contract.
use mathlib.Core.Path.{sym, ap, ◌∙◌}
use borrow.Author.Tests.{leb-true}
use Rattle.machine.specs.Windows.{take_below}
use Rattle.layout.specs.Record.{dec_raw}
use Rattle.layout.proofs.Slots.{slots_many}
use Rattle.windows.proofs.Fits.{held_from}
use native.Mathlib.Omega.{arith}
use Rattle.counting.proofs.Laws as law
use Rattle.counting.proofs.passes_none.Goals as goal

pub returns-then-i-n : goal.returns-then-i-n
returns-then-i-n c = let r = dec_raw c.args.r.now in λ z. ap (take_below c.args.x) (sym (held_from c.args.y c.count-n.result c.first_from-i.result r c.count-n.ensures.0 c.first_from-i.ensures.0)) ∙ law.none_at_end c.args.x c.count-n.result c.first_from-i.result r.slots c.if-i-n.true

pub returns : goal.returns
returns c = let r = dec_raw c.args.r.now in let many = slots_many c.args.r.now in λ z. ap (take_below c.args.x) (sym (held_from c.args.y c.count-n.result c.first_from-i.result r c.count-n.ensures.0 c.first_from-i.ensures.0)) ∙ law.none_below c.args.x c.first_from-i.result c.count-n.result r (omega arith) (omega arith) c.stamp_at.result c.stamp_at.ensures.0 (leb-true c.args.x c.stamp_at.result z)
