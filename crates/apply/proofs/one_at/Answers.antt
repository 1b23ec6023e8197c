use Prim.Native.Nat.{◌<◌, ◌^◌}
use mathlib.Core.Path.{refl, ap, ap₂, ◌∙◌}
use Rattle.std.specs.Prelude.{Some}
use Rattle.std.specs.Result.{result_ok}
use mir.Syntax.{w64}
use mir.Facts.{to_z_pos}
use Rattle.num.specs.Arithmetic.{negated, added}
use Rattle.meaning.specs.Table.{one_at}
use native.Mathlib.Omega.{arith}
use Rattle.apply.proofs.Rows
use Rattle.apply.proofs.one_at.Goals as goal

pub returns-in_err-v : goal.returns-in_err-v
unfolding one_at
returns-in_err-v c = c.from_residual.ensures ∙ Rows.one_arm c.args.t (refl {a = c.args.f}) c.in_err-v.was

pub returns-in-Time : goal.returns-in-Time
unfolding one_at
returns-in-Time c = let h : c.args.t < 2 ^ 63 = omega arith in ap Some (to_z_pos w64 h) ∙ Rows.one_arm c.args.t c.in-Time.is c.in_ok-v.was

pub returns-in-Set : goal.returns-in-Set
unfolding one_at
returns-in-Set c = ap Some (Rows.back c.in-Set.k (omega arith)) ∙ Rows.one_arm c.args.t c.in-Set.is c.in_ok-v.was

pub returns-in-Plus : goal.returns-in-Plus
unfolding one_at
returns-in-Plus c = c.ok.ensures.value ∙ ap result_ok (c.add.ensures ∙ ap₂ added (Rows.back c.in_ok-v.v (omega arith)) (Rows.back c.in-Plus.k (omega arith))) ∙ Rows.ok_is (added c.in_ok-v.v c.in-Plus.k) ∙ Rows.one_arm c.args.t c.in-Plus.is c.in_ok-v.was

pub returns-in-Neg : goal.returns-in-Neg
unfolding one_at
returns-in-Neg c = c.ok-in-Neg.ensures.value ∙ ap result_ok (c.neg.ensures ∙ ap negated (Rows.back c.in_ok-v.v (omega arith))) ∙ Rows.ok_is (negated c.in_ok-v.v) ∙ Rows.one_arm c.args.t c.in-Neg.is c.in_ok-v.was
