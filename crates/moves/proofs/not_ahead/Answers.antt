-- `moves::not_ahead` meets its contract.
use borrow.Author.Tests.{leb-true}
use Rattle.layout.specs.Record.{decode}
use Rattle.moves.proofs.Decides
use Rattle.moves.proofs.not_ahead.Goals as goal

pub returns-then-bound_of-bound : goal.returns-then-bound_of-bound
returns-then-bound_of-bound c = let a = c.args in let n = a.n in let y = a.bound in let st = decode n a.state.now in λ q. Decides.low_first _ _ c.bound_of.result y (Decides.other_low n _ st c.bound_of.result c.bound_of.ensures) c.if-bound_of-bound.true

pub returns-else-bound_of-bound : goal.returns-else-bound_of-bound
returns-else-bound_of-bound c = let a = c.args in let n = a.n in let y = a.bound in let st = decode n a.state.now in λ q. Decides.low_second _ _ c.bound_of-else-bound_of-bound.result y (Decides.other_low n _ st c.bound_of-else-bound_of-bound.result c.bound_of-else-bound_of-bound.ensures) (leb-true c.bound_of-else-bound_of-bound.result y q)
