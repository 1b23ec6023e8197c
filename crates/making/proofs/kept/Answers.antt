-- `making::kept` meets its contract.
use mathlib.Core.Path.{◌≡◌, ap, ◌∙◌}
use Rattle.machine.specs.Step.{absorb}
use Rattle.meaning.specs.Arguments.{arg_a, arg_b}
use Rattle.layout.specs.Record.{dec_raw, decode, row_at}
use Rattle.layout.proofs.Laws.{record_row}
use Rattle.encoding.specs.Back.{held_of}
use Rattle.streams.specs.Look.{look_of, equation, kept_in}
use Rattle.keeping.specs.Keep.{moved_cell}
use Rattle.passing.specs.Pass.{arg_in}
use native.Mathlib.Omega.{arith}
use Rattle.making.proofs.kept.Goals as goal

pub returns : goal.returns
returns c = let a = c.args in let n = a.n in let s = a.state.now in let st = decode n s in let e = equation a.op in let own = record_row n s c.row_at-own.result.now a.i (omega arith) c.row_at-own.ensures.0 in let ma : dec_raw c.row_at-a.result.now ≡ row_at st (arg_in n (arg_a e)) = record_row n s c.row_at-a.result.now c.argument.result (omega arith) c.row_at-a.ensures.0 ∙ ap (row_at st) (c.argument.ensures.0 ∙ ap (arg_in n) c.first.ensures) in let mb : dec_raw c.row_at-b.result.now ≡ row_at st (arg_in n (arg_b e)) = record_row n s c.row_at-b.result.now c.argument-2.result (omega arith) c.row_at-b.ensures.0 ∙ ap (row_at st) (c.argument-2.ensures.0 ∙ ap (arg_in n) c.second.ensures) in c.absorbed.ensures ∙ (λ j. absorb e (moved_cell a.y (held_of (own j)) (kept_in a.k)) (look_of (ma j)) (look_of (mb j)))
