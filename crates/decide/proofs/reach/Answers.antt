-- `decide::reach` meets its contract.
use Prim.Native.Nat.{max}
use mathlib.Core.Logic.{inl, inr}
use mathlib.Core.Path.{◌≡◌, ap, ◌∙◌}
use mathlib.Core.Bool.{false}
use mathlib.Core.List.{◌∷◌, map}
use Rattle.meaning.specs.Plan.{Eqn}
use Rattle.streams.specs.Look.{plain, own_of, arg_of}
use Rattle.streams.proofs.Laws.{by}
use Rattle.decide.specs.Search.{pick, stamps, candidate_of}
use Rattle.decide.specs.Near.{nearer_in}
use native.Mathlib.Omega.{arith}
use Rattle.machine.specs.Reach as machine
use Rattle.decide.proofs.Steps as step
use Rattle.decide.proofs.Searches as law
use Rattle.decide.proofs.reach.Goals as goal

pub returns-in-Last : goal.returns-in-Last
returns-in-Last c = let x = c.args in let l = x.l in let o = own_of l.stream in let a = arg_of l.abound x.a.now in let b = arg_of l.bbound x.b.now in let h = c.max-hi.result in let top = c.max-hi.ensures ∙ ap (max l.stream.bound) (c.limit.ensures.0 a.held b.held) in (c.scan.ensures.0 ∙ by (λ (e : Eqn). law.Ends o a b e h (map (candidate_of false e o a) (stamps b.held))) (ap plain c.in-Last.is) (law.reach_last o a b _ _ h) top, omega arith)

pub returns-in-Delay : goal.returns-in-Delay
unfolding pick
returns-in-Delay c = let x = c.args in let l = x.l in let o = own_of l.stream in let a = arg_of l.abound x.a.now in let b = arg_of l.bbound x.b.now in let h = c.max-hi.result in let top = c.max-hi.ensures ∙ ap (max l.stream.bound) (c.limit.ensures.0 a.held b.held) in let k = step.near_le false (plain l.stream.op) o a b l.stream.bound c.scan-best.result c.closer.result c.closer.ensures in (c.closer.ensures ∙ ap (nearer_in false l x.a.now x.b.now l.stream.bound) c.scan-best.ensures.0 ∙ by (λ (e : Eqn). law.Ends o a b e h (o.bound ∷ map (candidate_of false e o a) (stamps b.held))) (ap plain c.in-Delay.is) (law.reach_delay o a b _ _ h) top, omega arith)

pub returns-in-In : goal.returns-in-In
unfolding pick
returns-in-In c = let x = c.args in let l = x.l in let o = own_of l.stream in let a = arg_of l.abound x.a.now in let b = arg_of l.bbound x.b.now in let h = c.max-hi.result in let top = c.max-hi.ensures ∙ ap (max l.stream.bound) (c.limit.ensures.0 a.held b.held) in let P = λ (e : Eqn). h ≡ law.top o a b e → h ≡ machine.reach e o a b in (elim c.in-In.is [ inl e ↦ by P (ap plain e) (law.ends o a b _ h) top | inr (inl e) ↦ by P (ap plain e) (law.ends o a b _ h) top | inr (inr (inl e)) ↦ by P (ap plain e) (law.ends o a b _ h) top | inr (inr (inr (inl e))) ↦ by P (ap plain e.2) (law.ends o a b _ h) top | inr (inr (inr (inr (inl e)))) ↦ by P (ap plain e.3) (law.ends o a b _ h) top | inr (inr (inr (inr (inr (inl e))))) ↦ by P (ap plain e.3) (law.ends o a b _ h) top | inr (inr (inr (inr (inr (inr e))))) ↦ by P (ap plain e.3) (law.ends o a b _ h) top ], omega arith)
