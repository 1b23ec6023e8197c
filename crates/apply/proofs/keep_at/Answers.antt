use mathlib.Core.Path.{refl, ap, ◌∙◌}
use Rattle.std.specs.Prelude.{Some}
use native.Mathlib.Omega.{arith}
use Rattle.meaning.specs.Table.{two_at}
use Rattle.meaning.specs.Plan as plan
use Rattle.apply.proofs.Rows
use Rattle.apply.proofs.keep_at.Goals as goal

pub returns-in_err-v : goal.returns-in_err-v
unfolding two_at
returns-in_err-v c = c.from_residual.ensures ∙ Rows.two_arm plan.keep c.in_err-v.was (refl {a = c.args.y})

pub returns-in_err-w : goal.returns-in_err-w
unfolding two_at
returns-in_err-w c = c.from_residual-in_err-w.ensures ∙ Rows.two_arm plan.keep c.in_ok-v.was c.in_err-w.was

pub returns-then-w-eq0 : goal.returns-then-w-eq0
returns-then-w-eq0 c = Rows.keep_zero c.in_ok-v.v c.in_ok-w.w (omega arith) c.if-w-eq0.true ∙ Rows.two_arm plan.keep c.in_ok-v.was c.in_ok-w.was

pub returns : goal.returns
returns c = ap Some (Rows.back c.in_ok-v.v (omega arith)) ∙ Rows.keep_other c.in_ok-v.v c.in_ok-w.w (omega arith) c.if-w-eq0.false ∙ Rows.two_arm plan.keep c.in_ok-v.was c.in_ok-w.was
