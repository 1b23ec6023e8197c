use Rattle.layout.proofs.Slots.{slots_drop}
use native.Mathlib.Omega.{arith}
use Rattle.layout.proofs.drop_slots.Goals as goal

pub returns : goal.returns
returns c = let a = c.args in slots_drop a.r.now c.shift.new.s c.clear.new.s a.k a.n (omega arith) (λ i. omega (arith, c.slice_known-1.given i)) (omega arith) (omega arith) c.shift.ensures c.clear.ensures
