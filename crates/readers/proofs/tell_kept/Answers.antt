use Prim.Native.Nat.{◌+◌}
use mathlib.Core.Path.{◌∙◌}
use Rattle.layout.specs.Record.{dec_raw, with_num}
use Rattle.layout.proofs.Laws.{num_ok}
use Rattle.readers.specs.Step.{told_at}
use native.Mathlib.Omega.{arith}
use Rattle.layout.proofs.Stores
use Rattle.readers.proofs.Leaves
use Rattle.readers.proofs.tell_kept.Goals as goal

pub returns-then-a-s : goal.returns-then-a-s
returns-then-a-s c = let a = c.args in let p = a.r.now in let r = dec_raw p in let d = 8 + a.due in let f = a.f in let j = 8 + a.w in Stores.none p (told_at d f j a.s a.t a.v) (omega arith) (λ i. omega (arith, c.slice_known-1.given i)) (Leaves.kept_no a.s r a.t a.v d f j (λ e. c.if-a-s.true (c.byte_at-a.ensures.0 ∙ e)))

pub returns-then-past-t : goal.returns-then-past-t
returns-then-past-t c = let a = c.args in let p = a.r.now in let r = dec_raw p in let d = 8 + a.due in let f = a.f in let j = 8 + a.w in Stores.none p (told_at d f j a.s a.t a.v) (omega arith) (λ i. omega (arith, c.slice_known-1.given i)) (Leaves.kept_else a.s r a.t a.v d f j (omega arith) (λ e. c.if-past-t.true (c.word_at-past.ensures ∙ e)))

pub returns : goal.returns
returns c = let a = c.args in let p = a.r.now in let r = dec_raw p in let d = 8 + a.due in let f = a.f in let j = 8 + a.w in Stores.two p c.put_byte.new.r c.put_word.new.r (told_at d f j a.s a.t a.v) (with_num f 1) (with_num j a.v) (λ i. omega (arith, c.slice_known-1.given i)) (λ x ok. num_ok x f 1 ok (Leaves.flag_wide f 1 (omega arith) (omega arith))) c.put_byte.ensures c.put_word.ensures (Leaves.kept_yes a.s r a.t a.v d f j (omega arith) (omega arith))
