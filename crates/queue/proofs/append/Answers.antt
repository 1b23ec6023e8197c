use Prim.Native.Nat.{◌+◌, ◌<◌, ◌≤◌}
use mathlib.Core.Path.{sym, ◌∙◌}
use borrow.Author.Tests.{leb-true, leb-false}
use Rattle.machine.specs.State.{room}
use Rattle.layout.specs.Record.{dec_raw, with_num, with_slot, count_f, bound_f}
use Rattle.layout.proofs.Laws.{num_ok}
use Rattle.layout.proofs.Slots.{slot_ok}
use Rattle.queue.specs.Queue.{pushed}
use native.Mathlib.Omega.{arith}
use Rattle.layout.proofs.Stores
use Rattle.queue.proofs.Drops
use Rattle.queue.proofs.append.Goals as goal

pub returns-then-is_full : goal.returns-then-is_full
returns-then-is_full c = let full : room ≤ c.byte_at-n.result = omega (arith, leb-true room c.new.result.count (sym c.is_full.ensures ∙ c.if-is_full.true)) in let a = c.args in let p = a.r.now in let r = dec_raw p in Stores.none p (pushed a.t a.v) (omega arith) (λ i. omega (arith, c.slice_known-1.given i)) (Drops.push_full a.t a.v r (omega arith))

pub put_slot-requires : goal.put_slot-requires
put_slot-requires c = let free : c.byte_at-n.result < room = omega (arith, leb-false room c.new.result.count (sym c.is_full.ensures ∙ c.if-is_full.false)) in (omega arith, omega arith)

pub returns : goal.returns
returns c = let free : c.byte_at-n.result < room = omega (arith, leb-false room c.new.result.count (sym c.is_full.ensures ∙ c.if-is_full.false)) in let a = c.args in let p = a.r.now in let r = dec_raw p in Stores.three p c.put_slot.new.r c.put_byte.new.r c.put_word.new.r (pushed a.t a.v) (with_slot c.byte_at-n.result a.t a.v) (with_num count_f (c.byte_at-n.result + 1)) (with_num bound_f (a.t + 1)) (λ i. omega (arith, c.slice_known-1.given i)) (λ x ok. slot_ok x c.byte_at-n.result (record { stamp = a.t; value = a.v }) ok (omega arith, omega arith)) (λ x ok. num_ok x count_f (c.byte_at-n.result + 1) ok (omega arith)) c.put_slot.ensures c.put_byte.ensures (rw c.past.ensures.0 at c.put_word.ensures) (Drops.push_is a.t a.v r c.byte_at-n.result c.byte_at-n.ensures.0 (omega arith))
