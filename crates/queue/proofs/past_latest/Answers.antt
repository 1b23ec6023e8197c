use Prim.Native.Nat.{ℕ, ◌+◌, ◌-◌}
use mathlib.Core.Path.{◌≡◌, ap, ◌∙◌}
use Rattle.layout.specs.Record.{dec_raw}
use Rattle.layout.proofs.Slots.{slots_many}
use Rattle.meaning.specs.Events.{Event, found}
use mathlib.Core.List.{List}
use Rattle.machine.specs.Reach.{past_latest}
use Rattle.queue.specs.Latest.{passed}
use native.Mathlib.Omega.{arith}
use Rattle.queue.proofs.Turns as turn
use Rattle.queue.proofs.past_latest.Goals as goal

pub loop-i-init : goal.loop-i-init
loop-i-init c = let a = c.args in let r = dec_raw a.r.now in let many = slots_many a.r.now in (omega arith, omega arith, turn.past_start r.slots c.count-n.result a.t)

pub overflow_sub-i : goal.overflow_sub-i
overflow_sub-i c = omega arith

pub stamp_at-stamp-requires : goal.stamp_at-stamp-requires
stamp_at-stamp-requires c = (omega arith, omega arith)

pub loop-i-smaller : goal.loop-i-smaller
loop-i-smaller c = omega arith

pub loop-i-preserved : goal.loop-i-preserved
loop-i-preserved c = let a = c.args in let r = dec_raw a.r.now in let many = slots_many a.r.now in let l = c.loop-i in let j = l.i - 1 in let e : l.i ≡ j + 1 = omega arith in (omega arith, omega arith, c.later-best.ensures ∙ ap (passed a.t c.stamp_at-stamp.result) (l.invariant.2 ∙ ap (λ (m : ℕ). past_latest (found (turn.left r.slots m c.count-n.result)) a.t) e) ∙ turn.past_turn r.slots j c.count-n.result a.t c.stamp_at-stamp.result (omega arith) (omega arith) c.stamp_at-stamp.ensures.0)

pub returns : goal.returns
returns c = let a = c.args in let r = dec_raw a.r.now in let many = slots_many a.r.now in let l = c.loop-i in let e : l.i ≡ 0 = omega arith in l.invariant.2 ∙ ap (λ (m : ℕ). past_latest (found (turn.left r.slots m c.count-n.result)) a.t) e ∙ ap (λ (es : List Event). past_latest (found es) a.t) (turn.left_all r c.count-n.result c.count-n.ensures.0)
