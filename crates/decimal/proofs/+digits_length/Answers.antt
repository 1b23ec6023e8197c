-- `decimal::digits_length` meets its contract.
use mathlib.Core.Path.{sym}
use Prim.Native.Nat.{◌-◌, ◌/◌}
use Rattle.decimal.proofs.Puts.{digits_most, digits_no_length, digits_one_length, digits_more_length}
use native.Mathlib.Omega.{arith}
use Rattle.decimal.proofs.+digits_length.Goals as goal

pub returns-then-most-eq0 : goal.returns-then-most-eq0
returns-then-most-eq0 t c = sym (digits_no_length c.args.most c.args.n (omega arith))

pub returns-then-tenth-eq0 : goal.returns-then-tenth-eq0
returns-then-tenth-eq0 t c = sym (digits_one_length c.args.most c.args.n (omega arith) (omega arith))

pub overflow_add-result : goal.overflow_add-result
overflow_add-result t c = omega (arith, c.digits_length.ensures, digits_most (c.args.most - 1) (c.args.n / 10))

pub returns : goal.returns
returns t c = omega (arith, c.digits_length.ensures, digits_more_length c.args.most c.args.n (omega arith) (omega arith))
