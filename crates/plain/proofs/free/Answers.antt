use Prim.Native.Nat.{◌≤◌, ◌<◌}
use mathlib.Core.Path.{◌≡◌, sym, ◌∙◌}
use mathlib.Core.Bool.{false}
use native.Mathlib.Nat.{zero-add, sub-zero}
use lib.ListN.{get_or}
use Rattle.layout.specs.Record.{no_slot, dec_raw, decode}
use Rattle.layout.proofs.Slots.{slots_many}
use Rattle.readers.specs.Step.{least_row}
use Rattle.meaning.proofs.Tests.{is_true}
use Rattle.plain.proofs.Tests.{waited}
use native.Mathlib.Omega.{arith}
use Rattle.queue.proofs.Drops
use Rattle.plain.proofs.Tests
use Rattle.plain.proofs.free.Goals as goal

pub row_at-r-requires : goal.row_at-r-requires
row_at-r-requires c = omega arith

pub count-m-requires : goal.count-m-requires
count-m-requires c = c.row_at-r.ensures.1

pub loop-j-init : goal.loop-j-init
loop-j-init c = (omega arith, simp (zero-add, sub-zero))

pub stamp_at-t-requires : goal.stamp_at-t-requires
stamp_at-t-requires c = (c.row_at-r.ensures.1, let few = c.count-m.ensures.1 in omega arith)

pub some_waits-requires : goal.some_waits-requires
some_waits-requires c = omega arith

pub returns-then-some_waits : goal.returns-then-some_waits
returns-then-some_waits c = let a = c.args in let l = c.loop-j in let p = a.state.now in let q = c.row_at-r.result.now in let sl = (dec_raw q).slots in let w = waited a.n p q a.i in let m = c.count-m.result in let few = c.count-m.ensures.1 in let many = slots_many q in let t = c.stamp_at-t.result in let ht = c.stamp_at-t.ensures.1 in let e : t ≡ (get_or sl l.j no_slot).stamp = c.stamp_at-t.ensures.0 in let low : w ≤ t = Tests.waits_reader (least_row a.i (decode a.n p).rows) t (dec_raw q) (Tests.reader_waits a.n p a.i t (omega arith) (c.some_waits.ensures.one c.if-some_waits.true)) in (Tests.free_is a.n p q a.i (omega arith) c.row_at-r.ensures.0 m l.j c.count-m.ensures.0 (Drops.below_stop w m l.j sl (omega arith) (omega arith) l.invariant.1 (omega arith)), let x = Tests.held_is a.n p q a.i (omega arith) c.row_at-r.ensures.0 m c.count-m.ensures.0 in omega arith)

pub uncollected-requires : goal.uncollected-requires
uncollected-requires c = c.row_at-r.ensures.1

pub returns-then-uncollected : goal.returns-then-uncollected
returns-then-uncollected c = let a = c.args in let l = c.loop-j in let p = a.state.now in let q = c.row_at-r.result.now in let sl = (dec_raw q).slots in let w = waited a.n p q a.i in let m = c.count-m.result in let few = c.count-m.ensures.1 in let many = slots_many q in let t = c.stamp_at-t.result in let ht = c.stamp_at-t.ensures.1 in let e : t ≡ (get_or sl l.j no_slot).stamp = c.stamp_at-t.ensures.0 in let low : w ≤ t = Tests.waits_collected (least_row a.i (decode a.n p).rows) t (dec_raw q) (sym c.uncollected.ensures ∙ c.if-uncollected.true) in (Tests.free_is a.n p q a.i (omega arith) c.row_at-r.ensures.0 m l.j c.count-m.ensures.0 (Drops.below_stop w m l.j sl (omega arith) (omega arith) l.invariant.1 (omega arith)), let x = Tests.held_is a.n p q a.i (omega arith) c.row_at-r.ensures.0 m c.count-m.ensures.0 in omega arith)

pub loop-j-preserved : goal.loop-j-preserved
loop-j-preserved c = let a = c.args in let l = c.loop-j in let p = a.state.now in let q = c.row_at-r.result.now in let sl = (dec_raw q).slots in let w = waited a.n p q a.i in let m = c.count-m.result in let few = c.count-m.ensures.1 in let many = slots_many q in let t = c.stamp_at-t.result in let ht = c.stamp_at-t.ensures.1 in let e : t ≡ (get_or sl l.j no_slot).stamp = c.stamp_at-t.ensures.0 in let high : t < w = Tests.nobody_waits (least_row a.i (decode a.n p).rows) t (dec_raw q) (Tests.no_reader a.n p a.i t (omega arith) (λ x. absurd (is_true false (sym c.if-some_waits.false ∙ c.some_waits.ensures.all x)))) (sym c.uncollected.ensures ∙ c.if-uncollected.false) in (omega arith, Drops.below_go w m l.j sl (omega arith) (omega arith) l.invariant.1 (omega arith))

pub returns : goal.returns
returns c = let a = c.args in let l = c.loop-j in let p = a.state.now in let q = c.row_at-r.result.now in let sl = (dec_raw q).slots in let w = waited a.n p q a.i in let m = c.count-m.result in let few = c.count-m.ensures.1 in let many = slots_many q in (Tests.free_is a.n p q a.i (omega arith) c.row_at-r.ensures.0 m m c.count-m.ensures.0 (Drops.below_end w m l.j sl (omega arith) l.invariant.1), let x = Tests.held_is a.n p q a.i (omega arith) c.row_at-r.ensures.0 m c.count-m.ensures.0 in omega arith)
