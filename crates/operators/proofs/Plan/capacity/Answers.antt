-- `operators::Plan::capacity` meets its contract.
use borrow.Author.Tests.{eq-eqb, ne_eqb}
use Rattle.operators.specs.Limits.{state_length, long_length, capacity}
use Rattle.operators.proofs.Plan.capacity.Goals as goal

pub returns-then-size-eq-STATE : goal.returns-then-size-eq-STATE
unfolding capacity
returns-then-size-eq-STATE c = simp (eq-eqb c.args.size state_length c.if-size-eq-STATE.true)

pub returns-then-size-eq-LONG : goal.returns-then-size-eq-LONG
unfolding capacity
returns-then-size-eq-LONG c = simp (ne_eqb c.args.size state_length c.if-size-eq-STATE.false, eq-eqb c.args.size long_length c.if-size-eq-LONG.true)

pub returns-else-size-eq-LONG : goal.returns-else-size-eq-LONG
unfolding capacity
returns-else-size-eq-LONG c = simp (ne_eqb c.args.size state_length c.if-size-eq-STATE.false, ne_eqb c.args.size long_length c.if-size-eq-LONG.false)
