-- `moves::stuck` meets its contract.
use Prim.Native.Nat.{◌≤◌, min}
use mathlib.Core.Logic.{inl, inr}
use mathlib.Core.Path.{ap}
use borrow.Author.Tests.{leb-true, ltb-true, eqb-true}
use Rattle.meaning.specs.Plan.{Eqn}
use Rattle.meaning.specs.Events.{horizon}
use Rattle.layout.specs.Record.{decode}
use Rattle.streams.specs.Look.{equation}
use Rattle.streams.proofs.Laws.{by}
use Rattle.moves.specs.Move.{limit_raw}
use native.Mathlib.Omega.{arith}
use Rattle.moves.proofs.Decides
use Rattle.moves.proofs.stuck.Goals as goal

pub returns-in-In : goal.returns-in-In
returns-in-In c = let a = c.args in let n = a.n in let y = a.bound in let st = decode n a.state.now in λ q. by (λ (e : Eqn). limit_raw n e (min y horizon) st ≤ min y horizon) (ap equation c.in-In.is) (omega arith)

pub returns-in-Delay : goal.returns-in-Delay
returns-in-Delay c = let a = c.args in let n = a.n in let y = a.bound in let st = decode n a.state.now in λ q. by (λ (e : Eqn). limit_raw n e (min y horizon) st ≤ min y horizon) (ap equation c.in-Delay.is) (Decides.low_reset _ c.bound_of.result y (Decides.other_low n _ st c.bound_of.result c.bound_of.ensures) (ltb-true c.bound_of.result y q))

pub returns-in-Nil : goal.returns-in-Nil
returns-in-Nil c = let a = c.args in let n = a.n in let y = a.bound in let st = decode n a.state.now in let P = λ (e : Eqn). limit_raw n e (min y horizon) st ≤ min y horizon in λ q. elim c.in-Nil.is [ inl e ↦ by P (ap equation e) (Decides.low_end y (eqb-true y horizon q)) | inr e ↦ by P (ap equation e) (Decides.low_end y (eqb-true y horizon q)) ]

pub returns-in-One : goal.returns-in-One
returns-in-One c = let a = c.args in let n = a.n in let y = a.bound in let st = decode n a.state.now in let P = λ (e : Eqn). limit_raw n e (min y horizon) st ≤ min y horizon in λ q. let l = Decides.low _ c.bound_of-in-One.result y (Decides.other_low n _ st c.bound_of-in-One.result c.bound_of-in-One.ensures) (leb-true c.bound_of-in-One.result y q) in elim c.in-One.is [ inl e ↦ by P (ap equation e.1) l | inr (inl e) ↦ by P (ap equation e.1) l | inr (inr e) ↦ by P (ap equation e.2) l ]

pub returns-in-Two : goal.returns-in-Two
returns-in-Two c = let a = c.args in let n = a.n in let y = a.bound in let st = decode n a.state.now in let P = λ (e : Eqn). limit_raw n e (min y horizon) st ≤ min y horizon in λ q. elim c.in-Two.is [ inl e ↦ by P (ap equation e.1) (c.not_ahead.ensures q) | inr e ↦ by P (ap equation e.1) (c.not_ahead.ensures q) ]
