use mathlib.Core.Path.{ap, ◌∙◌}
use Rattle.layout.proofs.Laws.{record_row}
use Rattle.offers.specs.Numbers.{waiting_slot}
use native.Mathlib.Omega.{arith}
use Rattle.offers.proofs.oldest.Goals as goal

pub returns : goal.returns
returns c = let a = c.args in let s = a.state.now in let i = a.i in let row = record_row a.n s c.row_at.result.now i (omega arith) c.row_at.ensures.0 in (c.waiting_slot.ensures.0 ∙ ap waiting_slot row, omega arith)
