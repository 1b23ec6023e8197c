use mathlib.Core.Path.{◌∙◌}
use Rattle.layout.specs.Record.{dec_raw}
use Rattle.readers.specs.Step.{set_point, told_since}
use native.Mathlib.Omega.{arith}
use Rattle.layout.proofs.Stores
use Rattle.readers.proofs.Leaves
use Rattle.readers.proofs.tell_since.Goals as goal

pub returns-then-b-s : goal.returns-then-b-s
returns-then-b-s c = let a = c.args in let p = a.r.now in let r = dec_raw p in Stores.none p (told_since a.s a.t) (omega arith) (λ i. omega (arith, c.slice_known-1.given i)) (Leaves.since_no a.s r a.t (λ e. c.if-b-s.true (c.byte_at-b.ensures.0 ∙ e)))

pub returns-then-t-since : goal.returns-then-t-since
returns-then-t-since c = let a = c.args in let p = a.r.now in let r = dec_raw p in Stores.none p (told_since a.s a.t) (omega arith) (λ i. omega (arith, c.slice_known-1.given i)) (Leaves.since_early a.s r a.t (omega arith) (omega arith))

pub returns-then-bound-t : goal.returns-then-bound-t
returns-then-bound-t c = let a = c.args in let p = a.r.now in let r = dec_raw p in Stores.one p c.put_point.new.r (told_since a.s a.t) (set_point a.t 0 0) c.put_point.ensures (Leaves.since_low a.s r a.t (omega arith) (omega arith) (λ e. c.if-bound-t.true (c.word_at-bound.ensures ∙ e)))

pub returns : goal.returns
returns c = let a = c.args in let p = a.r.now in let r = dec_raw p in Stores.one p c.put_point-2.new.r (told_since a.s a.t) (set_point a.t c.byte_at-has.result c.word_at-v.result) c.put_point-2.ensures (Leaves.since_edge a.s r a.t c.byte_at-has.result c.word_at-v.result (omega arith) (omega arith) (omega arith) c.byte_at-has.ensures.0 c.word_at-v.ensures)
