-- `plan::weight` meets its contract.
use mathlib.Core.Path.{sym, ◌∙◌}
use Rattle.plan.proofs.Weights.{weight_none, weight_good, weight_bad}
use Rattle.plan.proofs.weight.Goals as goal

pub returns-then-not-is_window : goal.returns-then-not-is_window
returns-then-not-is_window c = sym (weight_none c.args.f (sym c.is_window.ensures ∙ c.if-not-is_window.true))

pub returns-then-width_ok : goal.returns-then-width_ok
returns-then-width_ok c = sym (weight_good c.args.f (sym c.is_window.ensures ∙ c.if-not-is_window.false) (sym c.width_ok.ensures ∙ c.if-width_ok.true))

pub returns : goal.returns
returns c = sym (weight_bad c.args.f (sym c.is_window.ensures ∙ c.if-not-is_window.false) (sym c.width_ok.ensures ∙ c.if-width_ok.false))
