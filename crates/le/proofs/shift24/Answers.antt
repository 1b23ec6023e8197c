-- `le::shift24` meets its contract.
use Rattle.le.proofs.Laws.{shift_two}
use native.Mathlib.Omega.{arith}
use Rattle.le.proofs.shift24.Goals as goal

pub returns : goal.returns
returns c = let a = c.args in shift_two 12 a.s.now c.shift12.new.s c.shift12-2.new.s a.at a.by (omega arith) c.shift12.ensures c.shift12-2.ensures
