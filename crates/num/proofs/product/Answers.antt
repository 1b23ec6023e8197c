use mathlib.Core.Path.{◌∙◌}
use Rattle.num.proofs.Arith.{by_halves, halves_low}
use Rattle.num.proofs.product.Goals as goal

pub returns-then-mh-eq0 : goal.returns-then-mh-eq0
returns-then-mh-eq0 c = c.shifted_sum.ensures ∙ halves_low c.args.m c.args.n c.if-mh-eq0.true

pub returns-then-nh-eq0 : goal.returns-then-nh-eq0
returns-then-nh-eq0 c = c.shifted_sum-then-nh-eq0.ensures ∙ by_halves c.args.m c.args.n c.if-nh-eq0.true
