use mathlib.Core.Path.{◌≡◌, sym, ap, ◌∙◌}
use mathlib.Core.Bool.{true, false}
use borrow.Author.Tests.{lt-ltb, le-ltb, leb-true, leb-false, not-true, not-false}
use Rattle.meaning.specs.Events.{horizon}
use Rattle.layout.specs.Record.{dec_raw, num, op_f, bound_f}
use Rattle.operators.specs.Operators.{group_of, is_in}
use Rattle.offers.specs.Numbers.{progress_row}
use native.Mathlib.Omega.{arith}
use Rattle.offers.proofs.check_progress_row.Goals as goal

pub returns-then-not-is_in : goal.returns-then-not-is_in
unfolding progress_row
returns-then-not-is_in c = let a = c.args in let r = dec_raw a.r.now in let i : is_in (group_of (num op_f r)) ≡ false = sym (c.is_in.ensures ∙ ap is_in (c.group_of.ensures ∙ ap group_of c.byte_at-op.ensures.0)) ∙ not-true c.is_in.result c.if-not-is_in.true-raw in sym (rw i)

pub returns-then-not-fits : goal.returns-then-not-fits
unfolding progress_row
returns-then-not-fits c = let a = c.args in let r = dec_raw a.r.now in let i : is_in (group_of (num op_f r)) ≡ true = sym (c.is_in.ensures ∙ ap is_in (c.group_of.ensures ∙ ap group_of c.byte_at-op.ensures.0)) ∙ not-false c.is_in.result c.if-not-is_in.false-raw in let h = leb-false c.new.result.stamp horizon (sym c.fits.ensures ∙ not-true c.fits.result c.if-not-fits.true-raw) in sym (rw (i, lt-ltb horizon a.y (omega (arith, c.new.ensures))))

pub returns-then-y-bound : goal.returns-then-y-bound
unfolding progress_row
returns-then-y-bound c = let a = c.args in let r = dec_raw a.r.now in let i : is_in (group_of (num op_f r)) ≡ true = sym (c.is_in.ensures ∙ ap is_in (c.group_of.ensures ∙ ap group_of c.byte_at-op.ensures.0)) ∙ not-false c.is_in.result c.if-not-is_in.false-raw in let h = leb-true c.new.result.stamp horizon (sym c.fits.ensures ∙ not-false c.fits.result c.if-not-fits.false-raw) in sym (rw (i, le-ltb horizon a.y (omega (arith, c.new.ensures)), lt-ltb a.y (num bound_f r) (omega arith)))

pub returns : goal.returns
unfolding progress_row
returns c = let a = c.args in let r = dec_raw a.r.now in let i : is_in (group_of (num op_f r)) ≡ true = sym (c.is_in.ensures ∙ ap is_in (c.group_of.ensures ∙ ap group_of c.byte_at-op.ensures.0)) ∙ not-false c.is_in.result c.if-not-is_in.false-raw in let h = leb-true c.new.result.stamp horizon (sym c.fits.ensures ∙ not-false c.fits.result c.if-not-fits.false-raw) in sym (rw (i, le-ltb horizon a.y (omega (arith, c.new.ensures)), le-ltb a.y (num bound_f r) (omega arith)))
