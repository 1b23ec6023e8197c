-- `decimal::bits_length` meets its contract.
use Prim.Native.Nat.{◌-◌, ◌+◌}
use mathlib.Core.Path.{ap, ◌∙◌}
use lib.ListN.{length}
use Rattle.decimal.specs.Decimal.{most_digits}
use Rattle.decimal.proofs.Puts.{digits_most, value_plain, value_minus}
use native.Mathlib.Omega.{arith}
use Rattle.decimal.proofs.bits_length.Goals as goal

pub returns-then-u-lt9223372036854775808 : goal.returns-then-u-lt9223372036854775808
returns-then-u-lt9223372036854775808 c = c.number_length.ensures ∙ ap length (value_plain c.args.u (omega arith))

pub overflow_add-result : goal.overflow_add-result
overflow_add-result c = record { fits = omega (arith, c.number_length-2.ensures, digits_most most_digits (18446744073709551615 - c.args.u + 1)) }

pub returns : goal.returns
returns c = omega (arith, c.number_length-2.ensures, ap length (value_minus c.args.u (omega arith) (omega arith)))
