-- `operators::group_of` meets its contract.
use mathlib.Core.Path.{refl, sym}
use Rattle.operators.specs.Operators.{group_of}
use Rattle.operators.specs.declared.Group.TheVariants.{Absent, Input, Plain, One, Two, Last, Delay, Signal, Window}
use Rattle.operators.proofs.Laws.{group_range, absent_above}
use native.Mathlib.Omega.{arith}
use Rattle.operators.proofs.group_of.Goals as goal

pub returns-in-0 : goal.returns-in-0
unfolding group_of
returns-in-0 c = sym (group_range Absent 0 1 refl c.args.number (omega arith) (omega arith))

pub returns-in-1 : goal.returns-in-1
unfolding group_of
returns-in-1 c = sym (group_range Input 1 1 refl c.args.number (omega arith) (omega arith))

pub returns-in_default-number : goal.returns-in_default-number
unfolding group_of
returns-in_default-number c = sym (group_range Plain 2 2 refl c.args.number (omega (arith, c.in_default-number.in_default-number-own.rest)) (omega (arith, c.in_default-number.in_default-number-own.rest)))

pub returns-in-4-to-7 : goal.returns-in-4-to-7
unfolding group_of
returns-in-4-to-7 c = sym (group_range One 4 4 refl c.args.number (omega arith) (omega arith))

pub returns-in-8-to-17 : goal.returns-in-8-to-17
unfolding group_of
returns-in-8-to-17 c = sym (group_range Two 8 10 refl c.args.number (omega arith) (omega arith))

pub returns-in-18 : goal.returns-in-18
unfolding group_of
returns-in-18 c = sym (group_range Last 18 1 refl c.args.number (omega arith) (omega arith))

pub returns-in_default-number-2 : goal.returns-in_default-number-2
unfolding group_of
returns-in_default-number-2 c = sym (group_range Delay 19 1 refl c.args.number (omega (arith, c.in_default-number-2.in_default-number-2-own.rest)) (omega (arith, c.in_default-number-2.in_default-number-2-own.rest)))

pub returns-in-20-to-27 : goal.returns-in-20-to-27
unfolding group_of
returns-in-20-to-27 c = sym (group_range Signal 20 8 refl c.args.number (omega arith) (omega arith))

pub returns-in-28-to-30 : goal.returns-in-28-to-30
unfolding group_of
returns-in-28-to-30 c = sym (group_range Window 28 3 refl c.args.number (omega arith) (omega arith))

pub returns-in_default : goal.returns-in_default
returns-in_default c = sym (absent_above c.args.number (omega arith))
