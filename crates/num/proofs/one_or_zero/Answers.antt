use Rattle.num.specs.Arithmetic.{truth}
use Rattle.num.proofs.one_or_zero.Goals as goal

pub returns-then-yes : goal.returns-then-yes
unfolding truth
returns-then-yes c = rw c.if-yes.true

pub returns-else-yes : goal.returns-else-yes
unfolding truth
returns-else-yes c = rw c.if-yes.false
