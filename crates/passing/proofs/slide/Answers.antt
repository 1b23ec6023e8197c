-- `passing::slide` meets its contract.
use borrow.Enum.Refused.{opened}
use mathlib.Core.Path.{sym, ap, ◌∙◌}
use Rattle.operators.specs.Operators.{value_of}
use Rattle.layout.specs.Record.{encode, decode, row_at}
use Rattle.encoding.specs.Back.{held_of, to_cell}
use Rattle.apply.proofs.Rows.{back}
use Rattle.streams.specs.declared.Op.{Op}
use Rattle.streams.specs.Look.{look_of, equation}
use Rattle.sliding.specs.Slide.{width_in, slid_row}
use Rattle.passing.specs.Pass.{slid_raw}
use native.Mathlib.Omega.{arith}
use Rattle.passing.proofs.Arms
use Rattle.passing.proofs.slide.Goals as goal

pub returns-in_default : goal.returns-in_default
returns-in_default c = let a = c.args in let n = a.n in let s = a.state.now in let st = decode n s in Arms.slid_other n a.i a.op a.y a.x s (opened c.in_default.in_default-own.keys2) (omega arith) (λ j. omega (arith, c.slice_known-1.given j))

pub returns : goal.returns
unfolding value_of look_of to_cell slid_raw
returns c = let a = c.args in let n = a.n in let s = a.state.now in let st = decode n s in let ew = c.width_of.ensures.0 ∙ ap width_in (back c.in-Window.k (omega arith)) in let ea = c.argument.ensures.0 in c.slide.ensures ∙ (λ z. encode n (slid_row (ew z) a.i a.y a.x (held_of (row_at st (ea z))) st)) ∙ ap (λ (o : Op). encode n (slid_raw n a.i (equation o) a.y a.x st)) (sym c.in-Window.is)
