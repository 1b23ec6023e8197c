-- `making::absorb_row` meets its contract.
use mathlib.Core.Logic.{inl, inr}
use mathlib.Core.Bool.{false}
use mathlib.Core.Path.{◌≡◌, sym, ap, ◌∙◌}
use Rattle.layout.specs.Record.{encode, decode}
use Rattle.streams.specs.declared.Op.{Op}
use Rattle.streams.specs.Look.{equation, kept_in}
use Rattle.streams.proofs.Laws.{keeps}
use Rattle.making.specs.Make.{absorbed_raw}
use native.Mathlib.Omega.{arith}
use Rattle.making.proofs.Steps
use Rattle.making.proofs.absorb_row.Goals as goal

pub returns-in-Last : goal.returns-in-Last
returns-in-Last c = let a = c.args in let n = a.n in let s = a.state.now in let st = decode n s in let e = equation a.op in c.keep_row.ensures ∙ ap (λ (o : Op). encode n (absorbed_raw n a.i (equation o) (kept_in a.k) a.y st)) (sym c.in-Last.is)

pub returns-in-Delay : goal.returns-in-Delay
returns-in-Delay c = let a = c.args in let n = a.n in let s = a.state.now in let st = decode n s in let e = equation a.op in c.keep_row-in-Delay.ensures ∙ ap (λ (o : Op). encode n (absorbed_raw n a.i (equation o) (kept_in a.k) a.y st)) (sym c.in-Delay.is)

pub returns-in-Signal : goal.returns-in-Signal
returns-in-Signal c = let a = c.args in let n = a.n in let s = a.state.now in let st = decode n s in let e = equation a.op in c.keep_row-in-Signal.ensures ∙ ap (λ (o : Op). encode n (absorbed_raw n a.i (equation o) (kept_in a.k) a.y st)) (sym c.in-Signal.is)

pub returns-in-In : goal.returns-in-In
returns-in-In c = let a = c.args in let n = a.n in let s = a.state.now in let e = equation a.op in let k : keeps e ≡ false = elim c.in-In.is [ inl e ↦ rw e | inr (inl e) ↦ rw e | inr (inr (inl e)) ↦ rw e | inr (inr (inr (inl e))) ↦ rw e.2 | inr (inr (inr (inr (inl e)))) ↦ rw e.3 | inr (inr (inr (inr (inr e)))) ↦ rw e.3 ] in Steps.absorb_stays n a.i e (kept_in a.k) a.y s (omega arith) (λ j. omega (arith, c.slice_known-1.given j)) k
