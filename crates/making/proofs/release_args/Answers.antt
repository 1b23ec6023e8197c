-- `making::release_args` meets its contract.
use mathlib.Core.Logic.{inl, inr}
use mathlib.Core.Path.{◌≡◌, sym, ap, ◌∙◌}
use Rattle.meaning.specs.Arguments.{reads}
use Rattle.layout.specs.Record.{encode, decode}
use Rattle.streams.specs.declared.Op.{Op}
use Rattle.streams.specs.Look.{equation}
use Rattle.making.specs.Make.{released_args}
use native.Mathlib.Omega.{arith}
use Rattle.making.proofs.Steps
use Rattle.making.proofs.release_args.Goals as goal

pub returns-in-In : goal.returns-in-In
returns-in-In c = let a = c.args in let n = a.n in let s = a.state.now in let f = λ (q : Op) (e : a.op ≡ q). ap (λ (p : Op). encode n (released_args n (reads (equation p)) (decode n s))) (sym e) in let z = Steps.args_none n 0 (omega arith) s (λ j. omega (arith, c.slice_known-1.given j)) (omega arith) in z ∙ (elim c.in-In.is [ inl e ↦ f _ e | inr (inl e) ↦ f _ e | inr (inr e) ↦ f _ e ])

pub returns-in-One : goal.returns-in-One
returns-in-One c = let a = c.args in let n = a.n in let s = a.state.now in let f = λ (q : Op) (e : a.op ≡ q). ap (λ (p : Op). encode n (released_args n (reads (equation p)) (decode n s))) (sym e) in c.release_one.ensures ∙ (elim c.in-One.is [ inl e ↦ f _ e.1 | inr e ↦ f _ e.2 ])

pub returns-in-Two : goal.returns-in-Two
returns-in-Two c = let a = c.args in let n = a.n in let s = a.state.now in let f = λ (q : Op) (e : a.op ≡ q). ap (λ (p : Op). encode n (released_args n (reads (equation p)) (decode n s))) (sym e) in c.release_two.ensures ∙ (elim c.in-Two.is [ inl e ↦ f _ e.1 | inr (inl e) ↦ f _ e | inr (inr (inl e)) ↦ f _ e | inr (inr (inr e)) ↦ f _ e.1 ])
