use mathlib.Core.Logic.{inl, inr}
use mathlib.Core.Path.{◌∙◌}
use Rattle.apply.proofs.Lacks as law
use Rattle.apply.proofs.two_lack.Goals as goal

pub returns-in-Arith : goal.returns-in-Arith
returns-in-Arith c = λ q. c.calc_lack.ensures q ∙ law.arith_lacks q c.args.x c.args.y c.in-Arith.is

pub returns-in-Keep : goal.returns-in-Keep
returns-in-Keep c = λ q. elim c.in-Keep.is [ inl e ↦ law.keep_lacks q c.args.x c.args.y e | inr e ↦ law.merge_lacks q c.args.x c.args.y e ]
