-- `faults::note_all` meets its contract.
use mathlib.Core.Path.{sym, ◌∙◌}
use Rattle.faults.proofs.Noting.{first_small, second_small, kept_stream, kept_here, kept_next, noted_next, noted_end}
use native.Mathlib.Omega.{arith}
use Rattle.faults.proofs.note_all.Goals as goal

pub overflow_cast-f : goal.overflow_cast-f
overflow_cast-f c = omega (arith, first_small c.args.n c.in-Ok.f (omega arith) (kept_here c.args.text.now c.args.n c.loop-i.i c.loop-i.p (omega arith) c.loop-i.invariant.0 c.in-Ok.f (sym c.in-Ok.ensures)))

pub overflow_cast-f-in-loop-i : goal.overflow_cast-f-in-loop-i
overflow_cast-f-in-loop-i c = omega (arith, second_small c.args.n c.in-Ok.f (omega arith) (kept_here c.args.text.now c.args.n c.loop-i.i c.loop-i.p (omega arith) c.loop-i.invariant.0 c.in-Ok.f (sym c.in-Ok.ensures)))

pub loop-i-preserved : goal.loop-i-preserved
loop-i-preserved c = (kept_next c.args.text.now c.args.n c.loop-i.i c.loop-i.p (omega arith) c.loop-i.invariant.0 c.in-Ok.f (sym c.in-Ok.ensures), (noted_next c.args.text.now c.args.n c.loop-i.i c.loop-i.p (omega arith) c.loop-i.invariant.0 c.in-Ok.f (sym c.in-Ok.ensures) c.loop-i.graph c.note.new.graph c.note.ensures ∙ c.loop-i.invariant.1.0, c.note.auto.graph ∙ c.loop-i.invariant.1.1))

pub returns-after-loop-i : goal.returns-after-loop-i
returns-after-loop-i c = noted_end c.args.text.now c.args.n c.loop-i.i c.loop-i.p (omega arith) c.loop-i.graph ∙ c.loop-i.invariant.1.0

pub returns-in_default : goal.returns-in_default
returns-in_default c = absurd (kept_stream c.args.text.now c.args.n c.loop-i.i c.loop-i.p (omega arith) c.loop-i.invariant.0 c.in_default.field-0 (sym c.in_default.ensures))
