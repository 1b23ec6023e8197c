use Prim.Native.Nat.{◌-◌}
use Rattle.layout.specs.Record.{dec_raw, with_num, dropped, count_f}
use Rattle.layout.proofs.Slots.{shift_ok}
use Rattle.queue.specs.Queue.{shed}
use native.Mathlib.Omega.{arith}
use Rattle.layout.proofs.Stores
use Rattle.queue.proofs.Drops
use Rattle.queue.proofs.drop_first.Goals as goal

pub returns : goal.returns
returns c = let a = c.args in let p = a.r.now in let r = dec_raw p in let n = c.byte_at-n.result in let m = c.count-m.result in Stores.two p c.drop_slots.new.r c.put_byte.new.r (shed a.k) (dropped a.k m) (with_num count_f (n - a.k)) (λ i. omega (arith, c.slice_known-1.given i)) (λ x ok. shift_ok x a.k m ok (omega arith) (omega arith)) c.drop_slots.ensures c.put_byte.ensures (Drops.shed_is a.k n m r c.byte_at-n.ensures.0 c.count-m.ensures.0)
