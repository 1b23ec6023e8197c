use Rattle.le.proofs.Laws.{shift_three}
use native.Mathlib.Omega.{arith}
use Rattle.le.proofs.shift12.Goals as goal

pub returns : goal.returns
returns c = let a = c.args in shift_three a.s.now c.shift4.new.s c.shift4-2.new.s c.shift4-3.new.s a.at a.by (omega arith) c.shift4.ensures c.shift4-2.ensures c.shift4-3.ensures
