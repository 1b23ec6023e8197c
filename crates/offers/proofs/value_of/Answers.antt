use mathlib.Core.Path.{ap, ◌∙◌}
use Rattle.layout.specs.Record.{Raw, slot_at}
use Rattle.layout.proofs.Laws.{record_row}
use native.Mathlib.Omega.{arith}
use Rattle.offers.proofs.value_of.Goals as goal

pub returns : goal.returns
returns c = let a = c.args in let s = a.state.now in let i = a.i in let row = record_row a.n s c.row_at.result.now i (omega arith) c.row_at.ensures.0 in c.value_at.ensures ∙ ap (λ (r : Raw). (slot_at a.j r).value) row
