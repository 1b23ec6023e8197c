-- `decide::limit` meets its contract.
use Prim.Native.Nat.{ℕ, suc, ◌+◌, min}
use mathlib.Core.Logic.{inl, inr}
use mathlib.Core.Path.{◌≡◌, sym, ap, ◌∙◌}
use mathlib.Core.List.{List}
use Rattle.meaning.specs.Events.{Event, horizon}
use Rattle.streams.specs.declared.Op.{Op}
use Rattle.streams.specs.Look.{plain, own_of, arg_cell}
use native.Mathlib.Omega.{arith}
use Rattle.machine.specs.Reach as machine
use Rattle.decide.proofs.limit.Goals as goal

pub returns-in-In : goal.returns-in-In
returns-in-In c = let x = c.args in let l = x.l in let o = own_of l.stream in ((λ (u v : List Event). ap (λ (p : Op). machine.limit (plain p) o (arg_cell l.abound u) (arg_cell l.bbound v)) (sym c.in-In.is)), omega arith)

pub returns-in-One : goal.returns-in-One
returns-in-One c = let x = c.args in let l = x.l in let o = own_of l.stream in ((λ (u v : List Event). ap (λ (p : Op). machine.limit (plain p) o (arg_cell l.abound u) (arg_cell l.bbound v)) (sym c.in-One.is)), omega arith)

pub returns-in-Last : goal.returns-in-Last
returns-in-Last c = let x = c.args in let l = x.l in let o = own_of l.stream in ((λ (u v : List Event). ap (λ (p : Op). machine.limit (plain p) o (arg_cell l.abound u) (arg_cell l.bbound v)) (sym c.in-Last.is)), omega arith)

pub returns-in-Delay : goal.returns-in-Delay
returns-in-Delay c = let x = c.args in let l = x.l in let o = own_of l.stream in let w : l.bbound + 1 ≡ suc l.bbound = omega arith in ((λ (u v : List Event). c.min-in-Delay.ensures ∙ ap (λ (m : ℕ). min m horizon) w ∙ ap (λ (p : Op). machine.limit (plain p) o (arg_cell l.abound u) (arg_cell l.bbound v)) (sym c.in-Delay.is)), omega arith)

pub returns-in-Nil : goal.returns-in-Nil
returns-in-Nil c = let x = c.args in let l = x.l in let o = own_of l.stream in ((λ (u v : List Event). let f = λ (q : Op) (e : l.stream.op ≡ q). ap (λ (p : Op). machine.limit (plain p) o (arg_cell l.abound u) (arg_cell l.bbound v)) (sym e) in elim c.in-Nil.is [ inl e ↦ f _ e | inr (inl e) ↦ f _ e | inr (inr e) ↦ f _ e.3 ]), omega arith)

pub returns-in-Two : goal.returns-in-Two
returns-in-Two c = let x = c.args in let l = x.l in let o = own_of l.stream in ((λ (u v : List Event). let f = λ (q : Op) (e : l.stream.op ≡ q). ap (λ (p : Op). machine.limit (plain p) o (arg_cell l.abound u) (arg_cell l.bbound v)) (sym e) in c.min.ensures ∙ (elim c.in-Two.is [ inl e ↦ f _ e.3 | inr e ↦ f _ e.3 ])), omega arith)
