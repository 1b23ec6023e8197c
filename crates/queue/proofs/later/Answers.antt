use native.Mathlib.Omega.{arith}
use Rattle.queue.proofs.Turns as turn
use Rattle.queue.proofs.later.Goals as goal

pub returns-then-t-stamp : goal.returns-then-t-stamp
returns-then-t-stamp c = let a = c.args in turn.later_no a.t a.stamp a.best (omega arith)

pub returns-then-best-stamp : goal.returns-then-best-stamp
returns-then-best-stamp c = let a = c.args in turn.later_up a.t a.stamp a.best (omega arith) (omega arith)

pub returns : goal.returns
returns c = let a = c.args in turn.later_same a.t a.stamp a.best (omega arith) (omega arith)
