use mathlib.Core.Path.{◌∙◌}
use Rattle.layout.specs.Record.{dec_raw, with_num, flag_f, kept_f}
use Rattle.layout.proofs.Laws.{num_ok}
use Rattle.readers.specs.Step.{told_last}
use native.Mathlib.Omega.{arith}
use Rattle.layout.proofs.Stores
use Rattle.readers.proofs.Leaves
use Rattle.readers.proofs.tell_last.Goals as goal

pub returns-then-a-s : goal.returns-then-a-s
returns-then-a-s c = let a = c.args in let p = a.r.now in let r = dec_raw p in Stores.none p (told_last a.s a.v) (omega arith) (λ i. omega (arith, c.slice_known-1.given i)) (Leaves.last_no a.s r a.v (λ e. c.if-a-s.true (c.byte_at-a.ensures.0 ∙ e)))

pub returns : goal.returns
returns c = let a = c.args in let p = a.r.now in let r = dec_raw p in Stores.two p c.put_byte.new.r c.put_word.new.r (told_last a.s a.v) (with_num flag_f 1) (with_num kept_f a.v) (λ i. omega (arith, c.slice_known-1.given i)) (λ x ok. num_ok x flag_f 1 ok (omega arith)) c.put_byte.ensures c.put_word.ensures (Leaves.last_yes a.s r a.v (omega arith))
