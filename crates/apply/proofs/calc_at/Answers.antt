use mathlib.Core.Path.{refl, ap, ap₂, ◌∙◌}
use Rattle.std.specs.Result.{result_ok}
use native.Mathlib.Omega.{arith}
use Rattle.meaning.specs.Table.{two_at, calculated}
use Rattle.apply.specs.Named.{calculation}
use Rattle.meaning.specs.Plan as plan
use Rattle.apply.proofs.Rows
use Rattle.apply.proofs.calc_at.Goals as goal

pub returns-in_err-v : goal.returns-in_err-v
unfolding two_at
returns-in_err-v c = c.from_residual.ensures ∙ Rows.two_arm (plan.calc (calculation c.args.g)) c.in_err-v.was (refl {a = c.args.y})

pub returns-in_err-w : goal.returns-in_err-w
unfolding two_at
returns-in_err-w c = c.from_residual-in_err-w.ensures ∙ Rows.two_arm (plan.calc (calculation c.args.g)) c.in_ok-v.was c.in_err-w.was

pub returns : goal.returns
unfolding two_at
returns c = let g = calculation c.args.g in c.ok.ensures.value ∙ ap result_ok (c.calculate.ensures ∙ ap₂ (calculated g) (Rows.back c.in_ok-v.v (omega arith)) (Rows.back c.in_ok-w.w (omega arith))) ∙ Rows.ok_is (calculated g c.in_ok-v.v c.in_ok-w.w) ∙ Rows.two_arm (plan.calc g) c.in_ok-v.was c.in_ok-w.was
