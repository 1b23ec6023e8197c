use mathlib.Core.Logic.{inl, inr}
use mathlib.Core.Path.{◌∙◌, ap, ap₂}
use Rattle.std.specs.Result.{result_err}
use native.Mathlib.Omega.{arith}
use Rattle.num.specs.Arithmetic.{negated, added}
use Rattle.apply.specs.Lack.{lack_for}
use Rattle.apply.proofs.Rows
use Rattle.apply.proofs.Lacks as law
use Rattle.apply.proofs.one_lack.Goals as goal

pub returns-in_err-v : goal.returns-in_err-v
returns-in_err-v c = λ q t. ap (lack_for q) c.from_residual.ensures ∙ law.one_none q c.args.f t c.args.x c.in_err-v.was

pub returns-in-Time : goal.returns-in-Time
returns-in-Time c = λ q t. elim c.in-Time.is [ inl e ↦ law.time_lacks q t c.args.x e | inr e ↦ law.set_lacks q t e.0 c.args.x e.1 ]

pub returns-in-Plus : goal.returns-in-Plus
returns-in-Plus c = let v = c.in_ok-v.v in let k = c.in-Plus.k in λ q t. ap (lack_for q) (c.err.ensures.value ∙ ap result_err (c.add.ensures ∙ ap₂ added (Rows.back v (omega arith)) (Rows.back k (omega arith)))) ∙ law.err_is q (added v k) ∙ law.plus_lacks q t k v c.args.x c.in-Plus.is c.in_ok-v.was

pub returns-in-Neg : goal.returns-in-Neg
returns-in-Neg c = let v = c.in_ok-v.v in λ q t. ap (lack_for q) (c.err-in-Neg.ensures.value ∙ ap result_err (c.neg.ensures ∙ ap negated (Rows.back v (omega arith)))) ∙ law.err_is q (negated v) ∙ law.neg_lacks q t v c.args.x c.in-Neg.is c.in_ok-v.was
