use mathlib.Core.Path.{sym, ap, ◌∙◌}
use Rattle.layout.specs.Record.{dec_raw}
use Rattle.operators.specs.Operators.{takes_first, takes_second}
use Rattle.readers.proofs.Leaves
use Rattle.readers.proofs.reads.Goals as goal

pub returns-then-a-s : goal.returns-then-a-s
returns-then-a-s c = let a = c.args in let p = a.r.now in let r = dec_raw p in c.takes_first.ensures ∙ ap takes_first c.group_at.ensures ∙ sym (Leaves.reads_first a.s r (sym c.byte_at-a.ensures.0 ∙ c.if-a-s.true))

pub returns-then-b-s : goal.returns-then-b-s
returns-then-b-s c = let a = c.args in let p = a.r.now in let r = dec_raw p in c.takes_second.ensures ∙ ap takes_second c.group_at-then-b-s.ensures ∙ sym (Leaves.reads_second a.s r (λ e. c.if-a-s.false (c.byte_at-a.ensures.0 ∙ e)) (sym c.byte_at-b.ensures.0 ∙ c.if-b-s.true))

pub returns : goal.returns
returns c = let a = c.args in let p = a.r.now in let r = dec_raw p in sym (Leaves.reads_neither a.s r (λ e. c.if-a-s.false (c.byte_at-a.ensures.0 ∙ e)) (λ e. c.if-b-s.false (c.byte_at-b.ensures.0 ∙ e)))
