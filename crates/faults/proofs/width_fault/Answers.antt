-- `faults::width_fault` meets its contract.
use mathlib.Core.Path.{sym, ◌∙◌}
use Rattle.faults.specs.Faults.{width_rule}
use Rattle.faults.proofs.Walk.{stream_ok, first_go, first_broken_lem, first_halt, first_end}
use native.Mathlib.Omega.{arith}
use Rattle.faults.proofs.width_fault.Goals as goal

pub returns-then-not-width_ok : goal.returns-then-not-width_ok
returns-then-not-width_ok c = (c.in_stream.ensures.0 ∙ first_broken_lem width_rule c.args.text.now c.args.n 0 c.loop-i.i c.loop-i.p (omega arith) c.in_ok-f.f (stream_ok c.read_stream.ensures c.in_ok-f.ensures.value) (sym c.width_ok.ensures ∙ c.if-not-width_ok.true) ∙ c.loop-i.invariant, c.in_stream.ensures.1)

pub loop-i-preserved : goal.loop-i-preserved
loop-i-preserved c = first_go width_rule c.args.text.now c.args.n 0 c.loop-i.i c.loop-i.p (omega arith) c.in_ok-f.f (stream_ok c.read_stream.ensures c.in_ok-f.ensures.value) (sym c.width_ok.ensures ∙ c.if-not-width_ok.false) ∙ c.loop-i.invariant

pub returns : goal.returns
returns c = (first_end width_rule c.args.text.now c.args.n 0 c.loop-i.i c.loop-i.p (omega arith) ∙ c.loop-i.invariant, tt)

pub returns-in_err-f : goal.returns-in_err-f
returns-in_err-f c = rw c.from_residual.ensures (first_halt width_rule c.args.text.now c.args.n 0 c.loop-i.i c.loop-i.p (omega arith) c.read_stream.ensures c.in_err-f.ensures.value ∙ c.loop-i.invariant, tt)
