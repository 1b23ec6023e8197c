-- `operators::is_window` meets its contract.
use mathlib.Core.Path.{sym, ◌∙◌}
use borrow.Author.Tests.{le-leb, lt-leb}
use Rattle.operators.proofs.Laws.{window_range}
use native.Mathlib.Omega.{arith}
use Rattle.operators.proofs.is_window.Goals as goal

pub returns-in-28-to-30 : goal.returns-in-28-to-30
returns-in-28-to-30 c = let n = c.args.number in sym (window_range n ∙ rw (le-leb 28 n (omega arith), le-leb n 30 (omega arith)))

pub returns-in_default : goal.returns-in_default
returns-in_default c = let n = c.args.number in sym (window_range n ∙ rw (lt-leb 28 n (omega arith)))

pub returns-in_default-2 : goal.returns-in_default-2
returns-in_default-2 c = let n = c.args.number in sym (window_range n ∙ rw (le-leb 28 n (omega arith), lt-leb n 30 (omega arith)))
