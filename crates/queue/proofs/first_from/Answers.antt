use Rattle.layout.specs.Record.{dec_raw}
use Rattle.layout.proofs.Slots.{slots_many}
use native.Mathlib.Nat.{zero-add, sub-zero}
use native.Mathlib.Omega.{arith}
use Rattle.queue.proofs.Drops
use Rattle.queue.proofs.first_from.Goals as goal

pub loop-i-init : goal.loop-i-init
loop-i-init c = simp (zero-add, sub-zero)

pub returns-then-w-stamp_at : goal.returns-then-w-stamp_at
returns-then-w-stamp_at c = let a = c.args in let l = c.loop-i in let sl = (dec_raw a.r.now).slots in let many = slots_many a.r.now in (Drops.below_stop a.w a.n l.i sl (omega arith) (omega arith) l.invariant (omega arith), omega arith)

pub loop-i-preserved : goal.loop-i-preserved
loop-i-preserved c = let a = c.args in let l = c.loop-i in let sl = (dec_raw a.r.now).slots in let many = slots_many a.r.now in Drops.below_go a.w a.n l.i sl (omega arith) (omega arith) l.invariant (omega arith)

pub returns : goal.returns
returns c = let a = c.args in let l = c.loop-i in let sl = (dec_raw a.r.now).slots in let many = slots_many a.r.now in (Drops.below_end a.w a.n l.i sl (omega arith) l.invariant, omega arith)
