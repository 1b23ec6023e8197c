-- `windows::gather` meets its contract.
use Prim.Native.Nat.{◌+◌, ◌-◌}
use mathlib.Core.Path.{◌≡◌, ap}
use mathlib.Core.List.{List}
use Rattle.meaning.specs.Events.{Event}
use Rattle.meaning.specs.Table.{values}
use Rattle.machine.specs.Step.{drop_below}
use Rattle.machine.specs.Windows.{take_below}
use Rattle.layout.specs.Record.{dec_raw}
use Rattle.layout.proofs.Slots.{slots_many}
use Rattle.encoding.specs.Back.{held_of}
use Rattle.windows.proofs.Fits.{held_from}
use Rattle.windows.proofs.Slides.{gathers_end, gathers_stop, gathers_more}
use native.Mathlib.Omega.{arith}
use Rattle.windows.proofs.gather.Goals as goal

pub loop-i-init : goal.loop-i-init
loop-i-init c = let r = dec_raw c.args.a.now in let all = slots_many c.args.a.now in let z : c.first_from-first.result - c.first_from-first.result ≡ 0 = omega arith in record { long = omega arith; left = rw z (ap (λ (l : List Event). values (take_below c.args.x l)) (held_from c.args.y c.count-count.result c.first_from-first.result r c.count-count.ensures.0 c.first_from-first.ensures.0)) }

pub returns-then-x-stamp_at : goal.returns-then-x-stamp_at
returns-then-x-stamp_at c = let r = dec_raw c.args.a.now in let all = slots_many c.args.a.now in (gathers_stop c.args.x c.count-count.result r.slots (values (take_below c.args.x (drop_below c.args.y (held_of r)))) (c.loop-i.i - c.first_from-first.result) c.loop-i.i c.loop-i.v c.loop-i.invariant (omega arith) (omega arith) c.stamp_at.result c.stamp_at.ensures.0 c.if-x-stamp_at.true, omega arith)

pub bounds-v-i : goal.bounds-v-i
bounds-v-i c = omega (arith, c.loop-i.invariant.long)

pub loop-i-preserved : goal.loop-i-preserved
loop-i-preserved c = let r = dec_raw c.args.a.now in let all = slots_many c.args.a.now in let e : c.loop-i.i + 1 - c.first_from-first.result ≡ (c.loop-i.i - c.first_from-first.result) + 1 = omega arith in rw e (gathers_more c.args.x c.count-count.result r.slots (values (take_below c.args.x (drop_below c.args.y (held_of r)))) (c.loop-i.i - c.first_from-first.result) c.loop-i.i c.loop-i.v c.loop-i.invariant (omega arith) (omega arith) c.stamp_at.result c.stamp_at.ensures.0 c.value_at.result (omega arith) c.value_at.ensures (omega arith))

pub returns : goal.returns
returns c = let r = dec_raw c.args.a.now in let all = slots_many c.args.a.now in let e : c.loop-i.i ≡ c.count-count.result = omega arith in (rw (← e) (gathers_end c.args.x c.count-count.result r.slots (values (take_below c.args.x (drop_below c.args.y (held_of r)))) (c.loop-i.i - c.first_from-first.result) c.loop-i.i c.loop-i.v c.loop-i.invariant (omega arith)), omega arith)
