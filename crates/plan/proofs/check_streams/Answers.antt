-- `plan::check_streams` meets its contract.
use mathlib.Core.Path.{ap}
use mathlib.Core.Bool.{true, false, not}
use lib.ListN.{replicate, length-replicate}
use Rattle.cycle.specs.Graph.{graph_length}
use Rattle.plan.specs.Rules.{streams}
use Rattle.plan.proofs.Decide.{refused_number, broken_number, windows_number, cycle_number}
use native.Mathlib.Omega.{arith}
use Rattle.std.proofs.lemmas.Result.{err_from_is_err_and}
use Rattle.plan.proofs.check_streams.Goals as goal

pub returns-in_err-ok : goal.returns-in_err-ok
returns-in_err-ok c =
    let p = err_from_is_err_and c.from_residual.result c.from_residual.ensures.1 in
    rw (p.1, p.2) (refused_number c.args.most c.args.text.now c.args.n _ (streams c.args.text.now c.args.at c.args.n) c.in_err-ok.field-0.0 c.in_err-ok.ensures.value)

pub returns-then-not-ok : goal.returns-then-not-ok
returns-then-not-ok c = broken_number c.args.most c.args.text.now c.args.n _ (streams c.args.text.now c.args.at c.args.n) c.in_ok-ok.ok c.in_ok-ok.sum c.in_ok-ok.ensures.value (ap not c.if-not-ok.true)

pub returns-then-sum-gt-WINDOWS : goal.returns-then-sum-gt-WINDOWS
returns-then-sum-gt-WINDOWS c = windows_number c.args.most c.args.text.now c.args.n _ (streams c.args.text.now c.args.at c.args.n) c.in_ok-ok.ok c.in_ok-ok.sum c.in_ok-ok.ensures.value (ap not c.if-not-ok.false) (omega arith)

pub returns-then-not-clear : goal.returns-then-not-clear
returns-then-not-clear c = cycle_number c.args.most c.args.text.now c.args.n c.args.at (replicate graph_length 0) (simp length-replicate (omega arith)) (omega arith) c.in_ok-ok.ok c.in_ok-ok.sum c.form.new.graph c.in_ok-ok.ensures.value c.in_ok-ok.ensures.noted (ap not c.if-not-ok.false) (omega arith) false c.clear.new.graph c.if-not-clear.ensures

pub returns : goal.returns
returns c = cycle_number c.args.most c.args.text.now c.args.n c.args.at (replicate graph_length 0) (simp length-replicate (omega arith)) (omega arith) c.in_ok-ok.ok c.in_ok-ok.sum c.form.new.graph c.in_ok-ok.ensures.value c.in_ok-ok.ensures.noted (ap not c.if-not-ok.false) (omega arith) true c.clear.new.graph c.if-not-clear.ensures
