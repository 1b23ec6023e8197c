-- `decimal::put_digits` meets its contract.
use Prim.Native.Nat.{◌*◌, ◌-◌, ◌/◌, ◌%◌}
use mathlib.Core.Path.{◌≡◌, refl, sym, ◌∙◌}
use lib.ListN.{length-set}
use Rattle.decimal.proofs.Puts.{digit_turn, digit_end}
use native.Mathlib.Omega.{arith}
use Rattle.decimal.proofs.put_digits.Goals as goal

pub loop-p-preserved : goal.loop-p-preserved
loop-p-preserved c = (omega arith, omega arith, omega arith, simp length-set c.loop-p.invariant.3, (let e : c.loop-p.rest - c.loop-p.rest / 10 * 10 ≡ c.loop-p.rest % 10 = omega arith in rw e (digit_turn c.loop-p.out c.args.at c.loop-p.p _ c.loop-p.rest (omega arith) refl)) ∙ c.loop-p.invariant.4)

pub returns : goal.returns
returns c = sym (digit_end c.loop-p.out c.args.at c.loop-p.p c.loop-p.rest (omega arith)) ∙ c.loop-p.invariant.4
