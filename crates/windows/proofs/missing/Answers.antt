use Prim.Native.Nat.{ℕ, ◌+◌}
use mathlib.Core.Path.{◌≡◌, ap, ap₂}
use Rattle.meaning.specs.Events.{has}
use Rattle.machine.specs.Step.{drop_below}
use Rattle.machine.specs.Counting.{sum_tally}
use Rattle.layout.specs.Record.{dec_raw}
use Rattle.layout.proofs.Slots.{slots_many}
use Rattle.encoding.specs.Back.{held_of}
use Rattle.windows.specs.Window.{kept, slot_words}
use Rattle.windows.proofs.Heights.{slots_length}
use Rattle.windows.proofs.Fits.{events_in, grown, held_from, values_none}
use Rattle.windows.proofs.Turns.{missed_on, missed_end, missed_stop, missed_more}
use native.Mathlib.Omega.{arith}
use Rattle.windows.proofs.missing.Goals as goal

pub loop-i-init : goal.loop-i-init
loop-i-init c = let r = dec_raw c.args.a.now in let s = c.first_from-first.result in let e = ap₂ (sum_tally c.args.k c.args.x) (values_none s (kept c.args.n c.args.w.now) (slot_words r)) (held_from c.args.y c.count-count.result s r c.count-count.ensures.0 c.first_from-first.ensures.0) in (omega arith, omega (arith, e))

pub returns-then-x-stamp : goal.returns-then-x-stamp
returns-then-x-stamp c = let r = dec_raw c.args.a.now in let w = kept c.args.n c.args.w.now in let held = c.count-count.result in let s = c.first_from-first.result in let all = slots_many c.args.a.now in let words = slots_length c.args.a.now in let e = missed_stop c.args.k c.args.x s c.loop-i.i held w r (omega arith) (omega arith) (omega arith) (omega arith) c.stamp_at-stamp.result c.stamp_at-stamp.ensures.0 c.if-x-stamp.true in let j = c.loop-i.invariant.1 in (omega (arith, e, j), omega arith)

pub loop-i-preserved : goal.loop-i-preserved
loop-i-preserved c = let r = dec_raw c.args.a.now in let w = kept c.args.n c.args.w.now in let held = c.count-count.result in let s = c.first_from-first.result in let all = slots_many c.args.a.now in let words = slots_length c.args.a.now in let e = missed_more c.args.k c.args.x s c.loop-i.i held w r (omega arith) (omega arith) (omega arith) (omega arith) c.stamp_at-stamp.result c.stamp_at-stamp.ensures.0 (omega arith) c.value-v.result c.value-v.ensures in (omega arith, missed_on (has c.value-v.result) c.loop-i.c c.lacking-c.result (sum_tally c.args.k c.args.x (grown s (c.loop-i.i + 1) w r) (events_in (c.loop-i.i + 1) held r.slots)) (sum_tally c.args.k c.args.x (grown s c.loop-i.i w r) (events_in c.loop-i.i held r.slots)) (sum_tally c.args.k c.args.x w (drop_below c.args.y (held_of r))) c.lacking-c.ensures.0 e c.loop-i.invariant.1)

pub returns : goal.returns
returns c = let r = dec_raw c.args.a.now in let w = kept c.args.n c.args.w.now in let held = c.count-count.result in let s = c.first_from-first.result in let all = slots_many c.args.a.now in let words = slots_length c.args.a.now in let i : c.loop-i.i ≡ held = omega arith in let e = missed_end c.args.k c.args.x held (grown s c.loop-i.i w r) r.slots in let f = ap (λ (j : ℕ). sum_tally c.args.k c.args.x (grown s c.loop-i.i w r) (events_in j held r.slots)) i in let j = c.loop-i.invariant.1 in (omega (arith, e, f, j), omega arith)
