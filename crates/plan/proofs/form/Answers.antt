-- `plan::form` meets its contract.
use mathlib.Core.Path.{sym, ◌∙◌}
use lib.ListN.{length}
use Rattle.std.proofs.lemmas.Result.{err_from_is_err_and}
use Rattle.text.specs.Grammar.{stream}
use Rattle.plan.proofs.Pass.{turn_weight, pass_halt, pass_go, pass_end, answer_halted, answer_formed, answer_left_over}
use native.Mathlib.Omega.{arith}
use Rattle.plan.proofs.form.Goals as goal

pub returns-in_err-kept : goal.returns-in_err-kept
returns-in_err-kept c =
    let p = err_from_is_err_and c.from_residual.result c.from_residual.ensures.1 in
    let r = c.in_err-kept.field-0.0 in
    let t = answer_halted (length c.args.text.now) c.read_turn.new.graph _ r (sym c.loop-i.invariant.0 ∙ pass_halt c.args.text.now c.args.n c.loop-i.ok c.loop-i.sum c.loop-i.i c.loop-i.graph c.loop-i.p c.loop-i-test.true r (sym c.in_err-kept.ensures.value)) in
    record { value = rw (p.1, p.2) t.0; noted = t.1 }

pub overflow_add-sum : goal.overflow_add-sum
overflow_add-sum c = omega (arith, turn_weight c.args.n (stream c.args.text.now c.loop-i.p) c.in_ok-kept.kept c.in_ok-kept.w c.in_ok-kept.q (sym c.in_ok-kept.ensures.value))

pub loop-i-preserved : goal.loop-i-preserved
loop-i-preserved c = (
  pass_go c.args.text.now c.args.n c.loop-i.ok c.loop-i.sum c.loop-i.i c.loop-i.graph c.loop-i.p c.loop-i-test.true c.in_ok-kept.kept c.in_ok-kept.w c.in_ok-kept.q c.read_turn.new.graph (sym c.in_ok-kept.ensures.value) c.read_turn.ensures.graph_after ∙ c.loop-i.invariant.0,
  c.read_turn.auto.graph ∙ c.loop-i.invariant.1,
  omega (arith, turn_weight c.args.n (stream c.args.text.now c.loop-i.p) c.in_ok-kept.kept c.in_ok-kept.w c.in_ok-kept.q (sym c.in_ok-kept.ensures.value)),
)

pub returns-then-p-text : goal.returns-then-p-text
returns-then-p-text c = let t = answer_left_over (length c.args.text.now) c.loop-i.graph _ c.loop-i.ok c.loop-i.sum c.loop-i.p (sym c.loop-i.invariant.0 ∙ pass_end c.args.text.now c.args.n c.loop-i.ok c.loop-i.sum c.loop-i.i c.loop-i.graph c.loop-i.p (omega arith)) (λ e. omega arith) in record { value = t.0; noted = t.1 }

pub returns : goal.returns
returns c = let t = answer_formed (length c.args.text.now) c.loop-i.graph _ c.loop-i.ok c.loop-i.sum c.loop-i.p (sym c.loop-i.invariant.0 ∙ pass_end c.args.text.now c.args.n c.loop-i.ok c.loop-i.sum c.loop-i.i c.loop-i.graph c.loop-i.p (omega arith)) (omega arith) in record { value = t.0; noted = t.1 }
