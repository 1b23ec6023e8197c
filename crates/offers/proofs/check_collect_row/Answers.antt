use Prim.Native.Nat.{min}
use mathlib.Core.Path.{sym, ◌∙◌}
use borrow.Author.Tests.{lt-ltb, le-ltb, eq-eqb, ne_eqb}
use Rattle.machine.specs.State.{room}
use Rattle.layout.specs.Record.{dec_raw, num, out_f, count_f}
use Rattle.offers.specs.Numbers.{waiting_slot, collect_row}
use native.Mathlib.Omega.{arith}
use Rattle.offers.proofs.check_collect_row.Goals as goal

pub returns-then-out-eq0 : goal.returns-then-out-eq0
unfolding collect_row
returns-then-out-eq0 c = let a = c.args in let p = a.r.now in let r = dec_raw p in sym (rw (eq-eqb (num out_f r) 0 (omega arith)))

pub returns-then-waiting_slot-count : goal.returns-then-waiting_slot-count
unfolding collect_row
returns-then-waiting_slot-count c = let a = c.args in let p = a.r.now in let r = dec_raw p in sym (rw (ne_eqb (num out_f r) 0 (λ e. c.if-out-eq0.false (c.byte_at-out.ensures.0 ∙ e)), lt-ltb (waiting_slot r) (min (num count_f r) room) (omega arith)))

pub returns-else-waiting_slot-count : goal.returns-else-waiting_slot-count
unfolding collect_row
returns-else-waiting_slot-count c = let a = c.args in let p = a.r.now in let r = dec_raw p in sym (rw (ne_eqb (num out_f r) 0 (λ e. c.if-out-eq0.false (c.byte_at-out.ensures.0 ∙ e)), le-ltb (waiting_slot r) (min (num count_f r) room) (omega arith)))
