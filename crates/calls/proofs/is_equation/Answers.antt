-- `calls::is_equation` meets its contract.
use mathlib.Core.Path.{sym, ap, ◌∙◌}
use mathlib.Core.Bool.{not}
use borrow.Author.Tests.{lt-ltb, le-ltb}
use Rattle.layout.specs.Record.{num, op_f}
use Rattle.layout.proofs.Laws.{record_row}
use Rattle.operators.specs.Operators.{group_of, is_in}
use Rattle.calls.specs.Equation.{equation_raw}
use native.Mathlib.Omega.{arith}
use Rattle.calls.proofs.is_equation.Goals as goal

pub returns-then-n-i : goal.returns-then-n-i
unfolding equation_raw
returns-then-n-i c = let a = c.args in sym (rw (le-ltb a.stream a.n (omega arith)))

pub returns : goal.returns
unfolding equation_raw
returns c = let a = c.args in let i = a.stream in let row = record_row a.n a.state.now c.row_at.result.now i (omega arith) c.row_at.ensures.0 in ap not (c.is_in.ensures ∙ ap is_in (c.group_of.ensures ∙ ap group_of (c.byte_at-op.ensures.0 ∙ ap (num op_f) row))) ∙ sym (rw (lt-ltb i a.n (omega arith)))
