-- `counting::missed` meets its contract.
use mathlib.Core.Logic.{inl, inr}
use mathlib.Core.Path.{◌∙◌}
use Rattle.meaning.specs.Missing.{Outside, ZeroDivisor}
use native.Mathlib.Omega.{arith}
use Rattle.counting.proofs.Laws as law
use Rattle.counting.proofs.missed.Goals as goal

pub returns-in-Signal : goal.returns-in-Signal
returns-in-Signal c = ((λ q. c.tally_both.ensures.0 q ∙ law.signal_tallied q c.args.k c.args.a.now c.args.b.now c.args.y c.args.x _ _ _ c.in-Signal.is), omega arith, omega arith)

pub returns-in-In : goal.returns-in-In
returns-in-In c = ((λ q. c.none.ensures q ∙ (elim c.in-In.is [ inl e ↦ law.tallied_arm q c.args.k c.args.a.now c.args.b.now c.args.y c.args.x e | inr (inl e) ↦ law.tallied_arm q c.args.k c.args.a.now c.args.b.now c.args.y c.args.x e | inr (inr (inl e)) ↦ law.tallied_arm q c.args.k c.args.a.now c.args.b.now c.args.y c.args.x e | inr (inr (inr (inl e))) ↦ law.tallied_arm q c.args.k c.args.a.now c.args.b.now c.args.y c.args.x e.2 | inr (inr (inr (inr (inl e)))) ↦ law.tallied_arm q c.args.k c.args.a.now c.args.b.now c.args.y c.args.x e.2 | inr (inr (inr (inr (inr e)))) ↦ law.tallied_arm q c.args.k c.args.a.now c.args.b.now c.args.y c.args.x e.3 ])), omega (arith, c.none.ensures Outside), omega (arith, c.none.ensures ZeroDivisor))

pub returns-in-One : goal.returns-in-One
returns-in-One c = ((λ q. c.tally_held.ensures.0 q ∙ (elim c.in-One.is [ inl e ↦ law.one_tallied q c.args.k c.args.a.now c.args.b.now c.args.y c.args.x _ _ e.2 | inr e ↦ law.two_tallied q c.args.k c.args.a.now c.args.b.now c.args.y c.args.x _ _ _ e.3 ])), omega arith, omega arith)
