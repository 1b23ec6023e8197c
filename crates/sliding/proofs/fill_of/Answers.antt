-- `sliding::fill_of` meets its contract.
use mathlib.Core.Path.{◌≡◌, ap, ◌∙◌}
use Rattle.layout.specs.Record.{decode, num, row_at, flag_f}
use Rattle.layout.proofs.Laws.{record_row}
use native.Mathlib.Omega.{arith}
use Rattle.sliding.proofs.fill_of.Goals as goal

pub returns : goal.returns
returns c = let s = c.args.state.now in let m = record_row c.args.n s c.row_at.result.now c.args.i (omega arith) c.row_at.ensures.0 in let e : c.byte_at-fill.result ≡ num flag_f (row_at (decode c.args.n s) c.args.i) = c.byte_at-fill.ensures.0 ∙ ap (num flag_f) m in (omega arith, omega arith)
