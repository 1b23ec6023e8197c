use mathlib.Core.Path.{ap, sym, ◌∙◌}
use borrow.Author.Tests.{lt-ltb, le-ltb}
use Rattle.layout.specs.Record.{Raw}
use Rattle.layout.proofs.Laws.{record_row}
use Rattle.offers.specs.Numbers.{progress_row, progress_raw}
use native.Mathlib.Omega.{arith}
use Rattle.offers.proofs.check_progress.Goals as goal

pub returns-then-n-i : goal.returns-then-n-i
unfolding progress_raw
returns-then-n-i c = let a = c.args in sym (rw (le-ltb a.stream a.n (omega arith)))

pub returns : goal.returns
unfolding progress_raw
returns c = let a = c.args in let s = a.state.now in let i = a.stream in let row = record_row a.n s c.row_at.result.now i (omega arith) c.row_at.ensures.0 in c.check_progress_row.ensures ∙ ap (λ (r : Raw). progress_row r a.y) row ∙ sym (rw (lt-ltb i a.n (omega arith)))
