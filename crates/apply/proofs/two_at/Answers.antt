use mathlib.Core.Path.{◌∙◌}
use Rattle.apply.proofs.Rows
use Rattle.apply.proofs.two_at.Goals as goal

pub returns-in-Arith : goal.returns-in-Arith
returns-in-Arith c = c.calc_at.ensures ∙ Rows.group_arm c.args.x c.args.y c.in-Arith.is

pub returns-in-Keep : goal.returns-in-Keep
returns-in-Keep c = c.keep_at.ensures ∙ Rows.group_arm c.args.x c.args.y c.in-Keep.is

pub returns-in-Merge : goal.returns-in-Merge
returns-in-Merge c = c.or.ensures ∙ Rows.merge_is c.args.x c.args.y ∙ Rows.group_arm c.args.x c.args.y c.in-Merge.is
