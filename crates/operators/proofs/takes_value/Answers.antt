-- `operators::takes_value` meets its contract.
use mathlib.Core.Path.{◌∙◌}
use borrow.Author.Tests.{le-leb, lt-leb}
use Rattle.operators.proofs.Laws.{value_set, value_else}
use mathlib.Core.Path.{◌∙◌}
use native.Mathlib.Omega.{arith}
use Rattle.operators.proofs.takes_value.Goals as goal
use Rattle.operators.proofs.takes_value.Goals.{in_default-via-then-number-lt5, in_default-via-else-number-lt5+else-number-lt7}

pub returns-in-5-to-6 : goal.returns-in-5-to-6
returns-in-5-to-6 c = value_set c.args.number (omega arith) (omega arith)

pub returns-in_default : goal.returns-in_default
returns-in_default c =
    c.is_window.ensures ∙ value_else c.args.number (elim c.in_default.branch [
      | in_default-via-then-number-lt5 w ↦ rw (lt-leb 5 c.args.number (omega arith))
      | in_default-via-else-number-lt5+else-number-lt7 w ↦ rw (le-leb 5 c.args.number (omega arith), lt-leb c.args.number 6 (omega arith))
    ])
