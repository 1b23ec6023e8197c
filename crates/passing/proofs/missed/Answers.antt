-- `passing::missed` meets its contract.
use borrow.Enum.Refused.{opened}
use mathlib.Core.Path.{◌≡◌, sym, ap, ◌∙◌}
use Rattle.meaning.specs.Plan.{nil}
use Rattle.meaning.specs.Arguments.{arg_a, arg_b}
use Rattle.machine.specs.Counting.{tallied}
use Rattle.operators.specs.Operators.{value_of}
use Rattle.layout.specs.Record.{dec_raw, decode, row_at}
use Rattle.layout.proofs.Laws.{record_row}
use Rattle.encoding.specs.Back.{held_of, to_cell}
use Rattle.apply.specs.Named.{folding}
use Rattle.apply.proofs.Rows.{back}
use Rattle.streams.specs.declared.Op.{Op}
use Rattle.streams.specs.Look.{look_of, equation, plain, kept_in, own_cell, arg_cell}
use Rattle.sliding.specs.Slide.{width_in, missing_row}
use Rattle.passing.specs.Pass.{arg_in, summed_for, missed_raw}
use native.Mathlib.Omega.{arith}
use Rattle.passing.proofs.Counts as law
use Rattle.passing.proofs.missed.Goals as goal

pub returns-in-Window : goal.returns-in-Window
unfolding value_of look_of to_cell
returns-in-Window c = let n = c.args.n in let s = c.args.state.now in let st = decode n s in let ew = c.width_of.ensures.0 ∙ ap width_in (back c.in-Window.w (omega arith)) in let ea = c.argument.ensures.0 in ((λ q. c.summed.ensures.0 q ∙ (λ z. summed_for q (folding c.in-Window.f) (missing_row (ew z) c.args.i c.args.y c.args.x (held_of (row_at st (ea z))) st)) ∙ ap (λ (o : Op). missed_raw q n c.args.i (equation o) (kept_in c.args.k) c.args.y c.args.x st) (sym c.in-Window.is)), omega arith, omega arith)

pub returns : goal.returns
returns c = let n = c.args.n in let s = c.args.state.now in let st = decode n s in let e = equation c.args.op in let ma : dec_raw c.row_at-a.result.now ≡ row_at st (arg_in n (arg_a e)) = record_row n s c.row_at-a.result.now c.argument-2.result (omega arith) c.row_at-a.ensures.0 ∙ ap (row_at st) (c.argument-2.ensures.0 ∙ ap (arg_in n) c.first.ensures) in let mb : dec_raw c.row_at-b.result.now ≡ row_at st (arg_in n (arg_b e)) = record_row n s c.row_at-b.result.now c.argument-3.result (omega arith) c.row_at-b.ensures.0 ∙ ap (row_at st) (c.argument-3.ensures.0 ∙ ap (arg_in n) c.second.ensures) in ((λ q. c.missed.ensures.0 q ∙ (λ j. tallied q (plain c.args.op) (own_cell nil c.args.y (kept_in c.args.k)) (arg_cell 0 (held_of (ma j))) (arg_cell 0 (held_of (mb j))) c.args.x) ∙ law.missed_other q n c.args.i c.args.op (kept_in c.args.k) c.args.y c.args.x st (opened c.in_default.in_default-own.keys2)), omega arith, omega arith)
