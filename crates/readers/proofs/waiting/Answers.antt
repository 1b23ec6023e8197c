use Prim.Native.Nat.{ℕ, min}
use mathlib.Core.Path.{sym, ap, ◌∙◌}
use Rattle.layout.specs.Record.{dec_raw}
use native.Mathlib.Omega.{arith}
use Rattle.readers.proofs.Leaves
use Rattle.readers.proofs.waiting.Goals as goal

pub returns-then-out-eq0 : goal.returns-then-out-eq0
returns-then-out-eq0 c = let a = c.args in let r = dec_raw a.r.now in sym (Leaves.waiting_in a.least r (omega arith))

pub returns : goal.returns
returns c = let a = c.args in let r = dec_raw a.r.now in c.min.ensures ∙ ap (λ (x : ℕ). min x a.least) c.word_at-next.ensures ∙ sym (Leaves.waiting_out a.least r (λ e. c.if-out-eq0.false (c.byte_at-out.ensures.0 ∙ e)))
