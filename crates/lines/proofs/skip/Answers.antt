-- `lines::skip` meets its contract.
use mathlib.Core.Path.{◌∙◌}
use Rattle.lines.proofs.Turns.{skip_past, skip_other, skip_go, skip_end}
use native.Mathlib.Omega.{arith}
use Rattle.lines.proofs.skip.Goals.{then-text-p-via-then-text-p, then-text-p-via-else-text-p+then-text-p-2}
use Rattle.lines.proofs.skip.Goals as goal

pub returns-then-text-p : goal.returns-then-text-p
returns-then-text-p c =
    elim c.then-text-p.branch [
      | then-text-p-via-then-text-p w ↦ skip_past c.args.text.now c.loop-c.p c.args.word.now c.loop-c.c-index c.loop-c-test.true w.if-text-p.true ∙ c.loop-c.invariant
      | then-text-p-via-else-text-p+then-text-p-2 w ↦ skip_other c.args.text.now c.loop-c.p c.args.word.now c.loop-c.c-index c.loop-c-test.true w.if-text-p.false w.if-text-p-2.true ∙ c.loop-c.invariant
    ]

pub loop-c-preserved : goal.loop-c-preserved
loop-c-preserved c = skip_go c.args.text.now c.loop-c.p c.args.word.now c.loop-c.c-index c.loop-c-test.true c.if-text-p.false c.if-text-p-2.false ∙ c.loop-c.invariant

pub returns : goal.returns
returns c = skip_end c.args.text.now c.loop-c.p c.args.word.now c.loop-c.c-index (omega arith) ∙ c.loop-c.invariant
