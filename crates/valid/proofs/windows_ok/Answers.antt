-- `valid::windows_ok` meets its contract.
use mathlib.Core.Path.{sym, ◌∙◌}
use mathlib.Core.Path.{sym, ◌∙◌}
use borrow.Author.Tests.{not-true, not-false}
use Rattle.valid.proofs.Area.{left_first, left_turn, left_end, counted_few, is_window_lem}
use native.Mathlib.Omega.{arith}
use Rattle.valid.proofs.windows_ok.Goals as goal

pub loop-i-init : goal.loop-i-init
loop-i-init c = (omega arith, left_first c.args.n c.args.state.now)

pub row_at-row-requires : goal.row_at-row-requires
row_at-row-requires c = omega arith

pub byte_at-requires : goal.byte_at-requires
byte_at-requires c = (c.row_at-row.ensures.1, omega arith)

pub window_clear-requires : goal.window_clear-requires
window_clear-requires c = (omega arith, c.loop-i.invariant.0)

pub returns-then-not-window_clear : goal.returns-then-not-window_clear
returns-then-not-window_clear c = sym (sym c.loop-i.invariant.1 ∙ left_turn c.args.n c.args.state.now c.loop-i.i c.loop-i.j c.is_window-w.result (omega arith) c.loop-i.invariant.0 (is_window_lem c.args.state.now c.loop-i.i c.row_at-row.result.now c.byte_at.result c.is_window-w.result (omega arith) c.row_at-row.ensures.0 c.byte_at.ensures.0 c.is_window-w.ensures) ∙ rw (sym c.window_clear.ensures ∙ not-true c.window_clear.result c.if-not-window_clear.true-raw))

pub counted-j-requires : goal.counted-j-requires
counted-j-requires c = c.loop-i.invariant.0

pub loop-i-preserved : goal.loop-i-preserved
loop-i-preserved c = (rw c.counted-j.ensures (counted_few c.is_window-w.result c.loop-i.j c.loop-i.i c.args.state.now (sym c.window_clear.ensures ∙ not-false c.window_clear.result c.if-not-window_clear.false-raw) c.loop-i.invariant.0), rw c.counted-j.ensures (sym (sym c.loop-i.invariant.1 ∙ left_turn c.args.n c.args.state.now c.loop-i.i c.loop-i.j c.is_window-w.result (omega arith) c.loop-i.invariant.0 (is_window_lem c.args.state.now c.loop-i.i c.row_at-row.result.now c.byte_at.result c.is_window-w.result (omega arith) c.row_at-row.ensures.0 c.byte_at.ensures.0 c.is_window-w.ensures) ∙ rw (sym c.window_clear.ensures ∙ not-false c.window_clear.result c.if-not-window_clear.false-raw))))

pub overflow_sub-state : goal.overflow_sub-state
overflow_sub-state c = omega arith

pub overflow_mul-j : goal.overflow_mul-j
overflow_mul-j c = omega (arith, c.loop-i.invariant.0)

pub overflow_add-state : goal.overflow_add-state
overflow_add-state c = omega (arith, c.loop-i.invariant.0)

pub zeros-requires : goal.zeros-requires
zeros-requires c = omega (arith, c.loop-i.invariant.0)

pub returns : goal.returns
returns c = c.zeros.ensures ∙ sym (left_end c.args.n c.args.state.now c.loop-i.i c.loop-i.j (omega arith) c.loop-i.invariant.0) ∙ c.loop-i.invariant.1
