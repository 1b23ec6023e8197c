-- `faults::ninth_fault` meets its contract.
use mathlib.Core.Path.{sym, ◌∙◌}
use Rattle.faults.specs.Faults.{ninth_rule}
use Rattle.faults.proofs.Walk.{stream_ok, first_halt, first_end, ninth_window, ninth_other, ninth_broken}
use native.Mathlib.Omega.{arith}
use Rattle.faults.proofs.ninth_fault.Goals as goal
use Rattle.faults.proofs.ninth_fault.Goals.{then-is_window+else-w-ge-WINDOWS, else-is_window}

pub returns-then-w-ge-WINDOWS : goal.returns-then-w-ge-WINDOWS
returns-then-w-ge-WINDOWS c = (c.in_stream.ensures.0 ∙ ninth_broken c.args.text.now c.args.n c.loop-i.w c.loop-i.i c.loop-i.p (omega arith) c.in_ok-f.f (stream_ok c.read_stream.ensures c.in_ok-f.ensures.value) (sym c.is_window.ensures ∙ c.if-is_window.true) (omega arith) ∙ c.loop-i.invariant.1, c.in_stream.ensures.1)

pub loop-i-preserved : goal.loop-i-preserved
loop-i-preserved c = elim c.if-is_window.branch [
  | then-is_window+else-w-ge-WINDOWS x ↦ rw x.w-is (omega (arith, x.if-w-ge-WINDOWS.false), ninth_window c.args.text.now c.args.n c.loop-i.w c.loop-i.i c.loop-i.p (omega arith) c.in_ok-f.f (stream_ok c.read_stream.ensures c.in_ok-f.ensures.value) (sym c.is_window.ensures ∙ x.if-is_window.true) (omega (arith, x.if-w-ge-WINDOWS.false)) ∙ c.loop-i.invariant.1)
  | else-is_window x ↦ rw x.w-is (omega arith, ninth_other c.args.text.now c.args.n c.loop-i.w c.loop-i.i c.loop-i.p (omega arith) c.in_ok-f.f (stream_ok c.read_stream.ensures c.in_ok-f.ensures.value) (sym c.is_window.ensures ∙ x.if-is_window.false) ∙ c.loop-i.invariant.1)
]

pub returns : goal.returns
returns c = (first_end ninth_rule c.args.text.now c.args.n c.loop-i.w c.loop-i.i c.loop-i.p (omega arith) ∙ c.loop-i.invariant.1, tt)

pub returns-in_err-f : goal.returns-in_err-f
returns-in_err-f c = rw c.from_residual.ensures (first_halt ninth_rule c.args.text.now c.args.n c.loop-i.w c.loop-i.i c.loop-i.p (omega arith) c.read_stream.ensures c.in_err-f.ensures.value ∙ c.loop-i.invariant.1, tt)
