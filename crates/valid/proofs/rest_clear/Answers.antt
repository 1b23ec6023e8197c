-- `valid::rest_clear` meets its contract.
use mathlib.Core.Path.{sym, ap}
use mathlib.Core.Path.{sym, ap}
use Rattle.le.specs.Bytes.{all_zero}
use Prim.Native.Nat.{◌*◌}
use lib.ListN.{drop_of_length-le}
use native.Mathlib.Omega.{arith}
use Rattle.valid.proofs.rest_clear.Goals as goal

-- `valid::rest_clear` meets its contract.
pub returns-then-fill-ge-WIDTH : goal.returns-then-fill-ge-WIDTH
unfolding all_zero
returns-then-fill-ge-WIDTH c = sym (ap all_zero (drop_of_length-le c.args.w.now {i = c.args.fill * 8} (omega (arith, c.if-fill-ge-WIDTH.true))))
