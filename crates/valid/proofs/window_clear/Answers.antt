-- `valid::window_clear` meets its contract.
-- `valid::window_clear` meets its contract.
use Prim.Native.Nat.{◌+◌, ◌-◌}
use Rattle.valid.proofs.Area.{clear_none, clear_ninth, clear_found}
use native.Mathlib.Omega.{arith}
use Rattle.valid.proofs.window_clear.Goals as goal

pub returns-then-not-w : goal.returns-then-not-w
returns-then-not-w c = clear_none c.args.w c.args.j c.args.i c.args.state.now c.if-not-w.true-raw

pub returns-then-j-eq-WINDOWS : goal.returns-then-j-eq-WINDOWS
returns-then-j-eq-WINDOWS c = clear_ninth c.args.w c.args.j c.args.i c.args.state.now c.if-not-w.false-raw c.if-j-eq-WINDOWS.true

pub returns : goal.returns
returns c = clear_found c.args.w c.args.j c.args.i c.args.state.now c.row_at-row.result.now c.window_start-at.result (c.window_start-at.result + 512 - c.window_start-at.result) c.byte_at-fill.result c.rest_clear.result c.if-not-w.false-raw c.if-j-eq-WINDOWS.false (omega arith) (omega arith) c.row_at-row.ensures.0 c.byte_at-fill.ensures.0 c.window_start-at.ensures.0 (omega arith) c.rest_clear.ensures
