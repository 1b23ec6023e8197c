use mathlib.Core.Path.{refl, ◌∙◌}
use native.Mathlib.Omega.{arith}
use Rattle.le.proofs.AllZero
use Rattle.le.proofs.zeros.Goals as goal

pub loop-i-init : goal.loop-i-init
loop-i-init c = (omega arith, omega arith, refl)

pub any32-requires : goal.any32-requires
any32-requires c = omega arith

pub returns-then-any32-ne0 : goal.returns-then-any32-ne0
returns-then-any32-ne0 c = AllZero.zero_not c.args.s.now c.loop-i.i 32 c.any32.result c.any32.ensures c.if-any32-ne0.true ∙ c.loop-i.invariant.2

pub loop-i-smaller : goal.loop-i-smaller
loop-i-smaller c = omega arith

pub loop-i-preserved : goal.loop-i-preserved
loop-i-preserved c = (omega arith, omega arith, AllZero.zero_turn c.args.s.now c.loop-i.i 32 c.any32.result c.any32.ensures c.if-any32-ne0.false ∙ c.loop-i.invariant.2)

pub returns : goal.returns
returns c = c.zeros_singly.ensures ∙ c.loop-i.invariant.2
