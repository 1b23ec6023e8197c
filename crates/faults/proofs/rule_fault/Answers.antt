-- `faults::rule_fault` meets its contract.
use mathlib.Core.Path.{sym, ap, ◌∙◌}
use Rattle.faults.specs.Faults.{in_stream, field_rule}
use Rattle.faults.proofs.Walk.{stream_ok, first_go, first_broken_lem, first_halt, first_end}
use native.Mathlib.Omega.{arith}
use Rattle.faults.proofs.rule_fault.Goals as goal

pub returns-then-not-fields_ok : goal.returns-then-not-fields_ok
returns-then-not-fields_ok c = (c.in_stream.ensures.0 ∙ ap (in_stream 5 c.loop-i.i) c.field_broken-j.ensures.0 ∙ first_broken_lem (field_rule c.args.n) c.args.text.now c.args.n 0 c.loop-i.i c.loop-i.p (omega arith) c.in_ok-f.f (stream_ok c.read_stream.ensures c.in_ok-f.ensures.value) (sym c.fields_ok.ensures ∙ c.if-not-fields_ok.true) ∙ c.loop-i.invariant, c.in_stream.ensures.1)

pub loop-i-preserved : goal.loop-i-preserved
loop-i-preserved c = first_go (field_rule c.args.n) c.args.text.now c.args.n 0 c.loop-i.i c.loop-i.p (omega arith) c.in_ok-f.f (stream_ok c.read_stream.ensures c.in_ok-f.ensures.value) (sym c.fields_ok.ensures ∙ c.if-not-fields_ok.false) ∙ c.loop-i.invariant

pub returns : goal.returns
returns c = (first_end (field_rule c.args.n) c.args.text.now c.args.n 0 c.loop-i.i c.loop-i.p (omega arith) ∙ c.loop-i.invariant, tt)

pub returns-in_err-f : goal.returns-in_err-f
returns-in_err-f c = rw c.from_residual.ensures (first_halt (field_rule c.args.n) c.args.text.now c.args.n 0 c.loop-i.i c.loop-i.p (omega arith) c.read_stream.ensures c.in_err-f.ensures.value ∙ c.loop-i.invariant, tt)
