-- `writing::opening_length` meets its contract.
use Prim.Native.Nat.{ℕ}
use mathlib.Core.Path.{sym, ap}
use lib.ListN.{length}
use Rattle.decimal.specs.Decimal.{most_digits}
use Rattle.decimal.proofs.Puts.{digits_most}
use Rattle.render.specs.Render.{opening}
use native.Mathlib.Omega.{arith}
use Rattle.render.proofs.Lengths as lengths
use Rattle.writing.proofs.opening_length.Goals as goal

-- `writing::opening_length` meets its contract.
pub returns-then-n-eq0 : goal.returns-then-n-eq0
returns-then-n-eq0 c = sym (ap (λ (n : ℕ). length (opening n)) c.if-n-eq0.true)

pub overflow_add-result : goal.overflow_add-result
overflow_add-result c = omega (arith, c.number_length.ensures, digits_most most_digits c.args.n)

pub returns : goal.returns
returns c = omega (arith, c.number_length.ensures, lengths.opening_length c.args.n (omega arith))
