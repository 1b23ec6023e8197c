-- `windows::find` meets its contract.
use mir.Syntax.{w64}
use mir.Facts.{to_z-of_z}
use Rattle.machine.specs.Reach.{event}
use Prim.Native.Nat.{ℕ}
use mathlib.Core.Path.{◌≡◌, sym, ap, ap₂, ◌∙◌}
use Rattle.machine.specs.Windows.{first_fit}
use Rattle.layout.specs.Record.{dec_raw}
use Rattle.layout.proofs.Slots.{slots_many}
use Rattle.apply.specs.Named.{folding}
use Rattle.windows.specs.Window.{kept, slot_words}
use Rattle.windows.proofs.Heights.{slots_length}
use Rattle.windows.proofs.Fits.{events_in, grown, held_from, values_none, fit_end, fit_stop, fit_hit, fit_miss}
use native.Mathlib.Omega.{arith}
use Rattle.windows.proofs.find.Goals as goal

pub loop-i-init : goal.loop-i-init
loop-i-init c = let a = c.args in let r = dec_raw a.a.now in let s = c.first_from-first.result in ap₂ (first_fit (folding a.f) a.k a.hi) (values_none s (kept a.n a.w.now) (slot_words r)) (held_from a.y c.count-count.result s r c.count-count.ensures.0 c.first_from-first.ensures.0)

pub returns-then-hi-stamp : goal.returns-then-hi-stamp
returns-then-hi-stamp c = let a = c.args in let r = dec_raw a.a.now in let l = c.loop-i in let held = c.count-count.result in let s = c.first_from-first.result in let w = kept a.n a.w.now in let all = slots_many a.a.now in let words = slots_length a.a.now in fit_stop (folding a.f) a.k a.hi s l.i held w r (omega arith) (omega arith) (omega arith) (omega arith) c.stamp_at-stamp.result c.stamp_at-stamp.ensures.0 c.if-hi-stamp.true ∙ l.invariant

pub returns-in-Some : goal.returns-in-Some
returns-in-Some c = let a = c.args in let r = dec_raw a.a.now in let l = c.loop-i in let held = c.count-count.result in let s = c.first_from-first.result in let w = kept a.n a.w.now in let all = slots_many a.a.now in let words = slots_length a.a.now in let v = c.in-Some.v in ap (event c.stamp_at-stamp.result) (to_z-of_z {w = w64} {z = v} (record { sfits = c.in-Some.known_told-1-own.given.0.1 })) ∙ fit_hit (folding a.f) a.k a.hi s l.i held w r (omega arith) (omega arith) (omega arith) (omega arith) c.stamp_at-stamp.result c.stamp_at-stamp.ensures.0 (omega arith) c.value-x.result c.value-x.ensures v c.in-Some.is ∙ l.invariant

pub loop-i-preserved : goal.loop-i-preserved
loop-i-preserved c = let a = c.args in let r = dec_raw a.a.now in let l = c.loop-i in let held = c.count-count.result in let s = c.first_from-first.result in let w = kept a.n a.w.now in let all = slots_many a.a.now in let words = slots_length a.a.now in fit_miss (folding a.f) a.k a.hi s l.i held w r (omega arith) (omega arith) (omega arith) (omega arith) c.stamp_at-stamp.result c.stamp_at-stamp.ensures.0 (omega arith) c.value-x.result c.value-x.ensures c.in_default.is ∙ l.invariant

pub returns : goal.returns
returns c = let a = c.args in let r = dec_raw a.a.now in let l = c.loop-i in let held = c.count-count.result in let s = c.first_from-first.result in let w = kept a.n a.w.now in let all = slots_many a.a.now in let words = slots_length a.a.now in let e : l.i ≡ held = omega arith in fit_end (folding a.f) a.k a.hi held (grown s l.i w r) r.slots ∙ ap (λ (j : ℕ). first_fit (folding a.f) a.k a.hi (grown s l.i w r) (events_in j held r.slots)) (sym e) ∙ l.invariant
