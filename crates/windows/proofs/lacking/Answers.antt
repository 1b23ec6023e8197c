use native.Mathlib.Omega.{arith}
use Rattle.windows.proofs.Turns as law
use Rattle.windows.proofs.lacking.Goals as goal

pub returns-in-None : goal.returns-in-None
returns-in-None c = (law.lack_more c.args.c c.in-None.is, omega arith)
