-- `moves::ahead` meets its contract.
use borrow.Enum.Refused.{opened}
use Prim.Native.Nat.{max}
use mathlib.Core.Path.{◌≡◌, sym, ap, ◌∙◌}
use Rattle.meaning.specs.Arguments.{arg_a, arg_b}
use Rattle.operators.specs.Operators.{value_of}
use Rattle.layout.specs.Record.{dec_raw, decode, row_at}
use Rattle.layout.proofs.Laws.{record_row}
use Rattle.encoding.specs.Back.{held_of, to_cell}
use Rattle.apply.specs.Named.{folding}
use Rattle.apply.proofs.Rows.{back}
use Rattle.streams.specs.declared.Op.{Op}
use Rattle.streams.specs.Look.{look_of, equation, plain, own_of}
use Rattle.sliding.specs.Slide.{width_in, fit_row}
use Rattle.passing.specs.Pass.{arg_in}
use Rattle.moves.specs.Move.{found_raw}
use native.Mathlib.Omega.{arith}
use Rattle.machine.specs.Reach as machine
use Rattle.moves.proofs.Decides
use Rattle.moves.proofs.ahead.Goals as goal

pub returns-in-Window : goal.returns-in-Window
unfolding value_of look_of to_cell
returns-in-Window c = let a = c.args in let n = a.n in let s = a.state.now in let st = decode n s in let ew = c.width_of.ensures.0 ∙ ap width_in (back c.in-Window.k (omega arith)) in let ea = c.argument.ensures.0 in record { next = c.window_ahead.ensures.next ∙ (λ z. fit_row (folding c.in-Window.f) (ew z) a.i a.s.bound (max a.s.bound (look_of (row_at st (ea z))).bound) (held_of (row_at st (ea z))) st) ∙ ap (λ (o : Op). found_raw n a.i (equation o) (own_of a.s) st) (sym c.in-Window.is); known = c.window_ahead.ensures.known }

pub returns : goal.returns
returns c = let a = c.args in let n = a.n in let s = a.state.now in let st = decode n s in let e = equation a.s.op in let ma : dec_raw c.row_at-a.result.now ≡ row_at st (arg_in n (arg_a e)) = record_row n s c.row_at-a.result.now c.argument-2.result (omega arith) c.row_at-a.ensures.0 ∙ ap (row_at st) (c.argument-2.ensures.0 ∙ ap (arg_in n) c.first.ensures) in let mb : dec_raw c.row_at-b.result.now ≡ row_at st (arg_in n (arg_b e)) = record_row n s c.row_at-b.result.now c.argument-3.result (omega arith) c.row_at-b.ensures.0 ∙ ap (row_at st) (c.argument-3.ensures.0 ∙ ap (arg_in n) c.second.ensures) in record { next = c.find_next.ensures.next ∙ (λ j. machine.decide (plain a.s.op) (own_of a.s) (look_of (ma j)) (look_of (mb j))) ∙ Decides.found_other n a.i a.s.op (own_of a.s) st (opened c.in_default.in_default-own.keys2); known = c.find_next.ensures.known }
