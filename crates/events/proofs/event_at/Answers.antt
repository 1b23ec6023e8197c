-- `events::event_at` meets its contract.
use mathlib.Core.Logic.{inl, inr}
use mathlib.Core.Path.{ap, ap₂, ◌∙◌}
use Rattle.meaning.specs.Table.{one_at, two_at}
use Rattle.apply.specs.Named.{unary, binary}
use Rattle.machine.specs.Reach as machine
use Rattle.events.proofs.Laws as law
use Rattle.events.proofs.event_at.Goals as goal

pub returns-in-In : goal.returns-in-In
returns-in-In c = let x = c.args in let A = x.a.now in let B = x.b.now in let t = x.t in elim c.in-In.is [ inl e ↦ law.gives_arm x.l A B t e | inr (inl e) ↦ law.gives_arm x.l A B t e | inr (inr e) ↦ law.gives_arm x.l A B t e.3 ]

pub returns-in-Unit : goal.returns-in-Unit
returns-in-Unit c = let x = c.args in let A = x.a.now in let B = x.b.now in let t = x.t in c.unit_at.ensures ∙ law.gives_arm x.l A B t c.in-Unit.is

pub returns-in-One : goal.returns-in-One
returns-in-One c = let x = c.args in let A = x.a.now in let B = x.b.now in let t = x.t in c.one_at.ensures ∙ ap (one_at (unary c.in-One.f) t) c.find.ensures ∙ law.gives_arm x.l A B t c.in-One.is

pub returns-in-Two : goal.returns-in-Two
returns-in-Two c = let x = c.args in let A = x.a.now in let B = x.b.now in let t = x.t in c.two_at.ensures ∙ ap₂ (two_at (binary c.in-Two.g)) c.find-x.ensures c.find-y.ensures ∙ law.gives_arm x.l A B t c.in-Two.is

pub returns-in-Last : goal.returns-in-Last
returns-in-Last c = let x = c.args in let A = x.a.now in let B = x.b.now in let t = x.t in c.last_at.ensures ∙ law.gives_arm x.l A B t c.in-Last.is

pub returns-in-Delay : goal.returns-in-Delay
unfolding machine.point
returns-in-Delay c = let x = c.args in let A = x.a.now in let B = x.b.now in let t = x.t in c.delay_at.ensures ∙ law.gives_arm x.l A B t c.in-Delay.is

pub returns-in-Signal : goal.returns-in-Signal
returns-in-Signal c = let x = c.args in let A = x.a.now in let B = x.b.now in let t = x.t in c.signal_at.ensures ∙ law.gives_arm x.l A B t c.in-Signal.is
