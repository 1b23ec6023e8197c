use borrow.Enum.Refused.{opened}
use mathlib.Core.Path.{◌≡◌, sym, ap, ◌∙◌}
use mathlib.Core.Bool.{true, false}
use Rattle.layout.specs.Record.{dec_raw, num, op_f}
use Rattle.operators.specs.Operators.{group_of, is_last, is_delay}
use Rattle.operators.proofs.Arms.{neither}
use Rattle.readers.specs.Step.{told_last, told_delay, told_row}
use native.Mathlib.Omega.{arith}
use Rattle.layout.proofs.Stores
use Rattle.readers.proofs.Leaves
use Rattle.readers.proofs.tell.Goals as goal

pub returns-then-t-word_at : goal.returns-then-t-word_at
returns-then-t-word_at c = let a = c.args in let p = a.r.now in let r = dec_raw p in let g = sym c.group_at.ensures ∙ c.in-Last.is in let l : is_last (group_of (num op_f r)) ≡ true = ap is_last g in Stores.one p c.tell_last.new.r (told_row a.s a.t a.v) (told_last a.s a.v) c.tell_last.ensures (Leaves.told_last_lem a.s r a.t a.v l (omega arith))

pub returns-else-t-word_at : goal.returns-else-t-word_at
returns-else-t-word_at c = let a = c.args in let p = a.r.now in let r = dec_raw p in Stores.none p (told_row a.s a.t a.v) (omega arith) (λ i. omega (arith, c.slice_known-1.given i)) (Leaves.told_behind a.s r a.t a.v (omega arith))

pub returns-then-t-word_at-2 : goal.returns-then-t-word_at-2
returns-then-t-word_at-2 c = let a = c.args in let p = a.r.now in let r = dec_raw p in let g = sym c.group_at.ensures ∙ c.in-Delay.is in let l : is_last (group_of (num op_f r)) ≡ false = ap is_last g in let d : is_delay (group_of (num op_f r)) ≡ true = ap is_delay g in Stores.one p c.tell_delay.new.r (told_row a.s a.t a.v) (told_delay a.s a.t a.v) c.tell_delay.ensures (Leaves.told_delay_lem a.s r a.t a.v l d (omega arith))

pub returns-else-t-word_at-2 : goal.returns-else-t-word_at-2
returns-else-t-word_at-2 c = let a = c.args in let p = a.r.now in let r = dec_raw p in Stores.none p (told_row a.s a.t a.v) (omega arith) (λ i. omega (arith, c.slice_known-1.given i)) (Leaves.told_behind a.s r a.t a.v (omega arith))

pub returns-in_default : goal.returns-in_default
returns-in_default c = let a = c.args in let p = a.r.now in let r = dec_raw p in let w = sym c.group_at.ensures in let n = neither c.group_at.result (opened c.in_default.in_default-own.keys3) in Stores.none p (told_row a.s a.t a.v) (omega arith) (λ i. omega (arith, c.slice_known-1.given i)) (Leaves.told_other a.s r a.t a.v (ap is_last w ∙ n.0) (ap is_delay w ∙ n.1))
