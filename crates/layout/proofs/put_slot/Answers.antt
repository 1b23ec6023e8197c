use native.Mathlib.Omega.{arith}
use Rattle.layout.proofs.Slots.{slot_put}
use Rattle.layout.proofs.put_slot.Goals as goal

pub returns : goal.returns
returns c =
    let one = c in
    let k = one in
    let a = k.args in
    slot_put a.r.now one.put.new.s c.put-2.new.s a.j a.t a.v (omega arith) (λ i. omega (arith, k.slice_known-1.given i)) (omega arith)
    one.put.ensures c.put-2.ensures
