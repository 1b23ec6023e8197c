use mathlib.Core.Path.{◌≡◌, sym, ap, ◌∙◌}
use mathlib.Core.Bool.{true, false}
use borrow.Author.Tests.{lt-ltb, le-ltb, not-true, not-false}
use Rattle.machine.specs.State.{room}
use Rattle.layout.specs.Record.{dec_raw, num, op_f, count_f, bound_f}
use Rattle.operators.specs.Operators.{group_of, is_in}
use Rattle.offers.specs.Numbers.{reading_row}
use lib.Dec.{leb}
use native.Mathlib.Omega.{arith}
use Rattle.offers.proofs.check_reading_row.Goals as goal

pub returns-then-not-is_in : goal.returns-then-not-is_in
unfolding reading_row
returns-then-not-is_in c = let a = c.args in let r = dec_raw a.r.now in let i : is_in (group_of (num op_f r)) ≡ false = sym (c.is_in.ensures ∙ ap is_in (c.group_of.ensures ∙ ap group_of c.byte_at-op.ensures.0)) ∙ not-true c.is_in.result c.if-not-is_in.true-raw in sym (rw i)

pub returns-then-t-bound : goal.returns-then-t-bound
unfolding reading_row
returns-then-t-bound c = let a = c.args in let r = dec_raw a.r.now in let i : is_in (group_of (num op_f r)) ≡ true = sym (c.is_in.ensures ∙ ap is_in (c.group_of.ensures ∙ ap group_of c.byte_at-op.ensures.0)) ∙ not-false c.is_in.result c.if-not-is_in.false-raw in sym (rw (i, lt-ltb a.t (num bound_f r) (omega arith)))

pub returns-then-is_full : goal.returns-then-is_full
unfolding reading_row
returns-then-is_full c = let a = c.args in let r = dec_raw a.r.now in let i : is_in (group_of (num op_f r)) ≡ true = sym (c.is_in.ensures ∙ ap is_in (c.group_of.ensures ∙ ap group_of c.byte_at-op.ensures.0)) ∙ not-false c.is_in.result c.if-not-is_in.false-raw in let f : leb room (num count_f r) ≡ true = (sym (c.is_full.ensures ∙ ap (leb room) (c.new.ensures ∙ c.byte_at-count.ensures.0)) ∙ c.if-is_full.true) in sym (rw (i, le-ltb a.t (num bound_f r) (omega arith), f))

pub returns : goal.returns
unfolding reading_row
returns c = let a = c.args in let r = dec_raw a.r.now in let i : is_in (group_of (num op_f r)) ≡ true = sym (c.is_in.ensures ∙ ap is_in (c.group_of.ensures ∙ ap group_of c.byte_at-op.ensures.0)) ∙ not-false c.is_in.result c.if-not-is_in.false-raw in let f : leb room (num count_f r) ≡ false = (sym (c.is_full.ensures ∙ ap (leb room) (c.new.ensures ∙ c.byte_at-count.ensures.0)) ∙ c.if-is_full.false) in sym (rw (i, le-ltb a.t (num bound_f r) (omega arith), f))
