-- `passing::argument` meets its contract.
use mathlib.Core.Path.{sym}
use borrow.Author.Tests.{lt-ltb, le-ltb}
use native.Mathlib.Omega.{arith}
use Rattle.passing.proofs.argument.Goals as goal

pub returns-then-i-n : goal.returns-then-i-n
returns-then-i-n c = (sym (rw (lt-ltb c.args.a c.args.n (omega arith))), omega arith)

pub returns : goal.returns
returns c = (sym (rw (le-ltb c.args.a c.args.n (omega arith))), omega arith)
