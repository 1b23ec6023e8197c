-- `trace::read` meets its contract.
use mathlib.Core.Path.{sym}
use Rattle.trace.proofs.Bounds.{whole_small}
use native.Mathlib.Omega.{arith}
use Rattle.trace.proofs.read.Goals as goal

pub overflow_cast-s : goal.overflow_cast-s
overflow_cast-s c = omega (arith, (whole_small c.args.text.now c.in_ok-p.p 3 c.in_ok-s.s c.in_ok-s.q (omega arith) (sym c.in_ok-s.ensures)).below)
