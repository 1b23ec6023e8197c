-- `decide::candidate` meets its contract.
use mathlib.Core.Logic.{inl, inr}
use mathlib.Core.Path.{◌≡◌, sym, ap, ◌∙◌}
use Rattle.streams.specs.declared.Op.{Op}
use Rattle.streams.specs.Look.{plain, own_of, arg_of}
use Rattle.decide.specs.Search.{candidate_of}
use Rattle.decide.proofs.Steps as step
use Rattle.decide.proofs.candidate.Goals as goal

pub returns-then-give : goal.returns-then-give
returns-then-give c = let x = c.args in let l = x.l in let o = own_of l.stream in let a = arg_of l.abound x.a.now in c.due_at.ensures ∙ step.candidate_give o a 0 0 x.give x.s c.if-give.true ∙ ap (λ (p : Op). candidate_of x.give (plain p) o a x.s) (sym c.in-Delay.is)

pub returns-else-give : goal.returns-else-give
returns-else-give c = let x = c.args in let l = x.l in let o = own_of l.stream in let a = arg_of l.abound x.a.now in step.candidate_stop o a 0 0 x.give x.s c.if-give.false ∙ ap (λ (p : Op). candidate_of x.give (plain p) o a x.s) (sym c.in-Delay.is)

pub returns-in-In : goal.returns-in-In
returns-in-In c = let x = c.args in let l = x.l in let o = own_of l.stream in let a = arg_of l.abound x.a.now in let f = λ (q : Op) (e : l.stream.op ≡ q). ap (λ (p : Op). candidate_of x.give (plain p) o a x.s) (sym e) in elim c.in-In.is [ inl e ↦ f _ e | inr (inl e) ↦ f _ e | inr (inr (inl e)) ↦ f _ e | inr (inr (inr (inl e))) ↦ f _ e.2 | inr (inr (inr (inr (inl e)))) ↦ f _ e.3 | inr (inr (inr (inr (inr (inl e))))) ↦ f _ e.2 | inr (inr (inr (inr (inr (inr (inl e)))))) ↦ f _ e.3 | inr (inr (inr (inr (inr (inr (inr e)))))) ↦ f _ e.3 ]
