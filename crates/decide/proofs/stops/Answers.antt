-- `decide::stops` meets its contract.
use mathlib.Core.Logic.{inl, inr}
use mathlib.Core.Path.{◌≡◌, sym, ap, ◌∙◌}
use mathlib.Core.List.{List}
use lib.Dec.{ltb}
use Rattle.meaning.specs.Events.{Event, has}
use Rattle.streams.specs.declared.Op.{Op}
use Rattle.streams.specs.Look.{plain, own_of, arg_cell, arg_of}
use native.Mathlib.Omega.{arith}
use Rattle.machine.specs.Reach as machine
use Rattle.events.proofs.Laws.{is_some_has}
use Rattle.decide.proofs.Steps as step
use Rattle.decide.proofs.stops.Goals as goal

pub returns-then-t-l : goal.returns-then-t-l
returns-then-t-l c = let x = c.args in let l = x.l in let o = own_of l.stream in let b = arg_of l.bbound x.b.now in λ (u : List Event). step.go_last o (arg_cell l.abound u) b 0 0 x.t (omega arith) ∙ ap (λ (p : Op). machine.stops (plain p) o (arg_cell l.abound u) b x.t) (sym c.in-Last.is)

pub returns-else-t-l : goal.returns-else-t-l
returns-else-t-l c = let x = c.args in let l = x.l in let o = own_of l.stream in let b = arg_of l.bbound x.b.now in λ (u : List Event). c.is_some.ensures ∙ is_some_has c.find.result ∙ ap has c.find.ensures ∙ step.stop_last o (arg_cell l.abound u) b 0 0 x.t (omega arith) ∙ ap (λ (p : Op). machine.stops (plain p) o (arg_cell l.abound u) b x.t) (sym c.in-Last.is)

pub returns-in-Delay : goal.returns-in-Delay
unfolding machine.point
returns-in-Delay c = let x = c.args in let l = x.l in let o = own_of l.stream in let b = arg_of l.bbound x.b.now in λ (u : List Event). ap (ltb l.abound) c.point.ensures ∙ ap (λ (p : Op). machine.stops (plain p) o (arg_cell l.abound u) b x.t) (sym c.in-Delay.is)

pub returns-in-In : goal.returns-in-In
returns-in-In c = let x = c.args in let l = x.l in let o = own_of l.stream in let b = arg_of l.bbound x.b.now in λ (u : List Event). let f = λ (q : Op) (e : l.stream.op ≡ q). ap (λ (p : Op). machine.stops (plain p) o (arg_cell l.abound u) b x.t) (sym e) in elim c.in-In.is [ inl e ↦ f _ e | inr (inl e) ↦ f _ e | inr (inr (inl e)) ↦ f _ e | inr (inr (inr (inl e))) ↦ f _ e.2 | inr (inr (inr (inr (inl e)))) ↦ f _ e.3 | inr (inr (inr (inr (inr (inl e))))) ↦ f _ e.3 | inr (inr (inr (inr (inr (inr e))))) ↦ f _ e.3 ]
