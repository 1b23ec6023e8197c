-- `counting::tally_held` meets its contract.
use mathlib.Core.Path.{◌≡◌, ap}
use Prim.Native.Nat.{ℕ, ◌+◌}
use mathlib.Core.Bool.{Bool}
use Rattle.meaning.specs.Missing.{Reason, Outside, ZeroDivisor}
use Rattle.machine.specs.Step.{drop_below}
use Rattle.machine.specs.Windows.{take_below}
use Rattle.machine.specs.Counting.{tally_of}
use Rattle.layout.specs.Record.{dec_raw}
use Rattle.layout.proofs.Slots.{slots_many}
use Rattle.encoding.specs.Back.{held_of}
use Rattle.meaning.specs.Events.{Event}
use mathlib.Core.List.{List}
use Rattle.apply.specs.Lack.{lack_for}
use Rattle.windows.proofs.Fits.{events_in, held_from}
use Rattle.counting.specs.Tally.{count_in, asked_in}
use native.Mathlib.Omega.{arith}
use Rattle.counting.proofs.Laws as law
use Rattle.counting.proofs.tally_held.Goals as goal

pub loop-i-init : goal.loop-i-init
loop-i-init c = let F : Reason → ℕ → Bool = λ q j. asked_in q c.args.second c.args.op c.args.k c.args.a.now c.args.b.now j in let r = dec_raw c.args.held.now in let many = slots_many c.args.held.now in (omega (arith, c.none-c.ensures Outside), omega (arith, c.none-c.ensures ZeroDivisor), λ q. let z = c.none-c.ensures q in let e = ap (λ (l : List Event). tally_of (F q) (take_below c.args.x l)) (held_from c.args.y c.count-n.result c.first_from-first.result r c.count-n.ensures.0 c.first_from-first.ensures.0) in omega (arith, z, e))

pub returns-then-x-t : goal.returns-then-x-t
returns-then-x-t c = let F : Reason → ℕ → Bool = λ q j. asked_in q c.args.second c.args.op c.args.k c.args.a.now c.args.b.now j in let r = dec_raw c.args.held.now in let many = slots_many c.args.held.now in ((λ q. let e = law.tally_stop (F q) c.args.x c.loop-i.i c.count-n.result r (omega arith) (omega arith) c.stamp_at-t.result c.stamp_at-t.ensures.0 c.if-x-t.true in let j = c.loop-i.invariant.2 q in omega (arith, e, j)), omega arith, omega arith)

pub loop-i-preserved : goal.loop-i-preserved
loop-i-preserved c = let F : Reason → ℕ → Bool = λ q j. asked_in q c.args.second c.args.op c.args.k c.args.a.now c.args.b.now j in let r = dec_raw c.args.held.now in let many = slots_many c.args.held.now in (omega arith, omega arith, λ q. law.tallied_on (F q c.stamp_at-t.result) (lack_for q c.lack_beside-lack.result) (count_in q c.loop-i.c) (count_in q c.more-c.result) (tally_of (F q) (take_below c.args.x (events_in (c.loop-i.i + 1) c.count-n.result r.slots))) (tally_of (F q) (take_below c.args.x (events_in c.loop-i.i c.count-n.result r.slots))) (tally_of (F q) (take_below c.args.x (drop_below c.args.y (held_of r)))) (c.lack_beside-lack.ensures q) (c.more-c.ensures.0 q) (law.tally_more (F q) c.args.x c.loop-i.i c.count-n.result r (omega arith) (omega arith) c.stamp_at-t.result c.stamp_at-t.ensures.0 (omega arith)) (c.loop-i.invariant.2 q))

pub returns : goal.returns
returns c = let F : Reason → ℕ → Bool = λ q j. asked_in q c.args.second c.args.op c.args.k c.args.a.now c.args.b.now j in let r = dec_raw c.args.held.now in let many = slots_many c.args.held.now in let i : c.loop-i.i ≡ c.count-n.result = omega arith in ((λ q. let e = law.tally_end (F q) c.args.x c.count-n.result r.slots in let f = ap (λ (j : ℕ). tally_of (F q) (take_below c.args.x (events_in j c.count-n.result r.slots))) i in let j = c.loop-i.invariant.2 q in omega (arith, e, f, j)), omega arith, omega arith)
