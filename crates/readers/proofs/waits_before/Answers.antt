use mathlib.Core.Path.{sym, ap, ◌∙◌}
use Rattle.layout.specs.Record.{decode}
use Rattle.readers.specs.Step.{waits_before}
use native.Mathlib.Omega.{arith}
use Rattle.readers.proofs.Rounds
use Rattle.readers.proofs.waits_before.Goals as goal

pub returns-then-i-eq0 : goal.returns-then-i-eq0
returns-then-i-eq0 c = let a = c.args in let rs = (decode a.n a.state.now).rows in sym (ap (λ x. waits_before x a.t rs) c.if-i-eq0.true ∙ Rounds.waits_none a.t rs)

pub returns : goal.returns
returns c = let a = c.args in Rounds.waits_is a.n a.i a.t c.word_at-bound.result a.state.now c.row_at.result.now (omega arith) (omega arith) c.row_at.ensures.0 c.word_at-bound.ensures
