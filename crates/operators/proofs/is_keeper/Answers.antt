-- `operators::is_keeper` meets its contract.
use mathlib.Core.Path.{sym, ◌∙◌}
use borrow.Author.Tests.{le-leb, lt-leb}
use Rattle.operators.proofs.Laws.{keeper_range}
use native.Mathlib.Omega.{arith}
use Rattle.operators.proofs.is_keeper.Goals as goal

pub returns-in-18-to-27 : goal.returns-in-18-to-27
returns-in-18-to-27 c = let n = c.args.number in sym (keeper_range n ∙ rw (le-leb 18 n (omega arith), le-leb n 27 (omega arith)))

pub returns-in_default : goal.returns-in_default
returns-in_default c = let n = c.args.number in sym (keeper_range n ∙ rw (lt-leb 18 n (omega arith)))

pub returns-in_default-2 : goal.returns-in_default-2
returns-in_default-2 c = let n = c.args.number in sym (keeper_range n ∙ rw (le-leb 18 n (omega arith), lt-leb n 27 (omega arith)))
