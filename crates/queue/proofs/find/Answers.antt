use mathlib.Core.Path.{sym, ap, ◌∙◌}
use Rattle.std.specs.Prelude.{Some}
use mir.Syntax.{w64}
use mir.Val.{to_z}
use mir.Facts.{to_z-of_z}
use Rattle.layout.specs.Record.{dec_raw}
use Rattle.layout.proofs.Slots.{slots_many}
use Rattle.meaning.specs.Events.{Event, found}
use mathlib.Core.List.{List}
use native.Mathlib.Omega.{arith}
use Rattle.queue.proofs.Turns as turn
use Rattle.queue.proofs.find.Goals as goal

pub loop-i-init : goal.loop-i-init
loop-i-init c = let a = c.args in let r = dec_raw a.r.now in let many = slots_many a.r.now in (omega arith, ap (λ (es : List Event). found es a.t) (turn.left_all r c.count-n.result c.count-n.ensures.0))

pub returns-then-stamp-t : goal.returns-then-stamp-t
returns-then-stamp-t c = let a = c.args in let r = dec_raw a.r.now in let many = slots_many a.r.now in let l = c.loop-i in ap Some (to_z-of_z {w = w64} (record { sfits = c.of_bits.type_inv }) ∙ c.of_bits.ensures ∙ ap (to_z w64) c.value_at.ensures) ∙ sym (turn.find_hit r.slots l.i c.count-n.result a.t c.stamp_at-stamp.result (omega arith) (omega arith) c.stamp_at-stamp.ensures.0 c.if-stamp-t.true) ∙ l.invariant.1

pub loop-i-preserved : goal.loop-i-preserved
loop-i-preserved c = let a = c.args in let r = dec_raw a.r.now in let many = slots_many a.r.now in let l = c.loop-i in (omega arith, turn.find_miss r.slots l.i c.count-n.result a.t c.stamp_at-stamp.result (omega arith) (omega arith) c.stamp_at-stamp.ensures.0 c.if-stamp-t.false ∙ l.invariant.1)

pub returns : goal.returns
returns c = let a = c.args in let r = dec_raw a.r.now in let many = slots_many a.r.now in let l = c.loop-i in sym (ap (λ (es : List Event). found es a.t) (turn.left_none r.slots l.i c.count-n.result (omega arith))) ∙ l.invariant.1
