-- `passing::quiet` meets its contract.
use mathlib.Core.Logic.{inl, inr}
use mathlib.Core.Path.{sym, ◌∙◌}
use mathlib.Core.Bool.{true≢false}
use Rattle.layout.specs.Record.{decode}
use Rattle.passing.proofs.Counts as law
use Rattle.passing.proofs.quiet.Goals as goal

pub returns-then-none_of : goal.returns-then-none_of
returns-then-none_of c = λ z. law.quiet_arm c.args.n c.args.y c.args.x (decode c.args.n c.args.state.now) c.in-Signal.is (c.none_of.ensures c.if-none_of.true, c.none_of-then-none_of.ensures z)

pub returns-else-none_of : goal.returns-else-none_of
returns-else-none_of c = λ z. absurd (true≢false (sym z ∙ c.if-none_of.false))

pub returns-in-In : goal.returns-in-In
returns-in-In c = λ z. elim c.in-In.is [ inl e ↦ law.quiet_arm c.args.n c.args.y c.args.x (decode c.args.n c.args.state.now) e tt | inr (inl e) ↦ law.quiet_arm c.args.n c.args.y c.args.x (decode c.args.n c.args.state.now) e tt | inr (inr (inl e)) ↦ law.quiet_arm c.args.n c.args.y c.args.x (decode c.args.n c.args.state.now) e tt | inr (inr (inr (inl e))) ↦ law.quiet_arm c.args.n c.args.y c.args.x (decode c.args.n c.args.state.now) e.2 tt | inr (inr (inr (inr e))) ↦ law.quiet_arm c.args.n c.args.y c.args.x (decode c.args.n c.args.state.now) e.2 tt ]
