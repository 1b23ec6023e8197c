-- `counting::more` meets its contract.
use native.Mathlib.Omega.{arith}
use Rattle.counting.proofs.Laws as law
use Rattle.counting.proofs.more.Goals as goal

pub returns-in-None : goal.returns-in-None
returns-in-None c = ((λ q. law.more_none q c.args.c c.in-None.is), omega arith, omega arith)

pub returns-in-Some-Outside : goal.returns-in-Some-Outside
returns-in-Some-Outside c = ((λ q. law.more_outside q c.args.c c.in-Some-Outside.is (rw c.in-Some-Outside.is at c.in-Some-Outside.field-0-is)), omega arith, omega arith)

pub returns-in-Some-ZeroDivisor : goal.returns-in-Some-ZeroDivisor
returns-in-Some-ZeroDivisor c = ((λ q. law.more_divisor q c.args.c c.in-Some-ZeroDivisor.is (rw c.in-Some-ZeroDivisor.is at c.in-Some-ZeroDivisor.field-0-is)), omega arith, omega arith)
