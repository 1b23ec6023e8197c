-- `passing::none_of` meets its contract.
use mathlib.Core.Path.{◌≡◌, sym, ap, ◌∙◌}
use Rattle.machine.specs.Step.{drop_below}
use Rattle.machine.specs.Windows.{take_below}
use Rattle.layout.specs.Record.{Raw, dec_raw, decode, row_at}
use Rattle.layout.proofs.Laws.{record_row}
use Rattle.encoding.specs.Back.{held_of}
use Rattle.passing.specs.Pass.{arg_in}
use native.Mathlib.Omega.{arith}
use Rattle.passing.proofs.Counts as law
use Rattle.passing.proofs.none_of.Goals as goal

pub returns : goal.returns
returns c = let n = c.args.n in let s = c.args.state.now in let st = decode n s in let r : row_at st (arg_in n c.args.a) ≡ dec_raw c.row_at.result.now = sym (record_row n s c.row_at.result.now c.argument-i.result (omega arith) c.row_at.ensures.0 ∙ ap (row_at st) c.argument-i.ensures.0) in λ z. law.none_held n c.args.a c.args.y c.args.x st (ap (λ (w : Raw). take_below c.args.x (drop_below c.args.y (held_of w))) r ∙ c.passes_none.ensures z)
