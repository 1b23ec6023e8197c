-- `counting::lack_at` meets its contract.
use mathlib.Core.Logic.{inl, inr}
use mathlib.Core.Path.{ap, ap₂, ◌∙◌}
use Rattle.std.specs.Prelude.{Option}
use lib.IntN.{ℤ}
use Rattle.meaning.specs.Missing.{said_for, one_says, two_says}
use Rattle.apply.specs.Named.{unary, binary}
use Rattle.counting.proofs.Laws as law
use Rattle.counting.proofs.lack_at.Goals as goal

pub returns-in-One : goal.returns-in-One
returns-in-One c = λ q. c.one_lack.ensures q c.args.t ∙ ap (λ (x : Option ℤ). said_for q (one_says (unary c.in-One.f) c.args.t x)) c.find.ensures ∙ law.hears_arm q c.args.k c.args.a.now c.args.b.now c.args.t c.in-One.is

pub returns-in-Two : goal.returns-in-Two
returns-in-Two c = λ q. c.two_lack.ensures q ∙ ap₂ (λ (x y : Option ℤ). said_for q (two_says (binary c.in-Two.g) x y)) c.find-x.ensures c.find-y.ensures ∙ law.hears_arm q c.args.k c.args.a.now c.args.b.now c.args.t c.in-Two.is

pub returns-in-Signal : goal.returns-in-Signal
returns-in-Signal c = λ q. c.signal_lack.ensures q ∙ law.hears_arm q c.args.k c.args.a.now c.args.b.now c.args.t c.in-Signal.is

pub returns-in-In : goal.returns-in-In
returns-in-In c = λ q. elim c.in-In.is [ inl e ↦ law.hears_arm q c.args.k c.args.a.now c.args.b.now c.args.t e | inr (inl e) ↦ law.hears_arm q c.args.k c.args.a.now c.args.b.now c.args.t e | inr (inr (inl e)) ↦ law.hears_arm q c.args.k c.args.a.now c.args.b.now c.args.t e | inr (inr (inr (inl e))) ↦ law.hears_arm q c.args.k c.args.a.now c.args.b.now c.args.t e.2 | inr (inr (inr (inr (inl e)))) ↦ law.hears_arm q c.args.k c.args.a.now c.args.b.now c.args.t e.2 | inr (inr (inr (inr (inr e)))) ↦ law.hears_arm q c.args.k c.args.a.now c.args.b.now c.args.t e.3 ]
