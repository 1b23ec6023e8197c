-- `decide::first` meets its contract.
use mathlib.Core.Logic.{inl, inr}
use mathlib.Core.Path.{◌≡◌, ap, ap₂, ◌∙◌}
use mathlib.Core.Bool.{true}
use mathlib.Core.List.{[], ◌∷◌, map}
use Rattle.meaning.specs.Plan.{Eqn}
use Rattle.streams.specs.Look.{plain, own_of, arg_of}
use Rattle.streams.proofs.Laws.{by}
use Rattle.decide.specs.Search.{pick, stamps, candidate_of, due_at}
use Rattle.decide.specs.Near.{nearer_in}
use Rattle.machine.specs.Reach as machine
use Rattle.decide.proofs.Searches as law
use Rattle.decide.proofs.first.Goals as goal

pub returns-in-Unit : goal.returns-in-Unit
unfolding pick
returns-in-Unit c = let x = c.args in let l = x.l in let o = own_of l.stream in let a = arg_of l.abound x.a.now in let b = arg_of l.bbound x.b.now in let s = c.requires.0.since in let q = c.requires.4 in let r = x.r in c.closer.ensures ∙ by (λ (e : Eqn). law.Finds o a b e r (0 ∷ [])) (ap plain c.in-Unit.is) (law.finds o a b s _ r) q

pub returns-in-One : goal.returns-in-One
returns-in-One c = let x = c.args in let l = x.l in let o = own_of l.stream in let a = arg_of l.abound x.a.now in let b = arg_of l.bbound x.b.now in let s = c.requires.0.since in let q = c.requires.4 in let r = x.r in c.scan.ensures.0 ∙ by (λ (e : Eqn). law.Finds o a b e r (map (candidate_of true e o a) (stamps a.held))) (ap plain c.in-One.is) (law.first_one o a b s _ _ r) q

pub returns-in-Last : goal.returns-in-Last
returns-in-Last c = let x = c.args in let l = x.l in let o = own_of l.stream in let a = arg_of l.abound x.a.now in let b = arg_of l.bbound x.b.now in let s = c.requires.0.since in let q = c.requires.4 in let r = x.r in c.scan-in-Last.ensures.0 ∙ by (λ (e : Eqn). law.Finds o a b e r (map (candidate_of true e o a) (stamps b.held))) (ap plain c.in-Last.is) (law.first_last o a b s _ _ r) q

pub returns-in-Delay : goal.returns-in-Delay
unfolding pick
returns-in-Delay c = let x = c.args in let l = x.l in let o = own_of l.stream in let a = arg_of l.abound x.a.now in let b = arg_of l.bbound x.b.now in let s = c.requires.0.since in let q = c.requires.4 in let r = x.r in c.closer-in-Delay.ensures ∙ ap₂ (nearer_in true l x.a.now x.b.now) c.due_at-c.ensures c.scan-best.ensures.0 ∙ by (λ (e : Eqn). law.Finds o a b e r (due_at o a o.kept.since ∷ map (candidate_of true e o a) (stamps b.held))) (ap plain c.in-Delay.is) (law.first_delay o a b s _ _ r) q

pub returns-in-In : goal.returns-in-In
unfolding pick
returns-in-In c = let x = c.args in let l = x.l in let o = own_of l.stream in let a = arg_of l.abound x.a.now in let b = arg_of l.bbound x.b.now in let s = c.requires.0.since in let q = c.requires.4 in let r = x.r in let P = λ (e : Eqn). r ≡ machine.reach e o a b → r ≡ machine.first e o a b in elim c.in-In.is [ inl e ↦ by P (ap plain e) (law.finds o a b s _ r) q | inr (inl e) ↦ by P (ap plain e) (law.finds o a b s _ r) q | inr (inr e) ↦ by P (ap plain e.3) (law.finds o a b s _ r) q ]

pub returns-in-Two : goal.returns-in-Two
returns-in-Two c = let x = c.args in let l = x.l in let o = own_of l.stream in let a = arg_of l.abound x.a.now in let b = arg_of l.bbound x.b.now in let s = c.requires.0.since in let q = c.requires.4 in let r = x.r in let P = λ (e : Eqn). law.FindsBoth o a b s e r in c.scan_both.ensures ∙ (elim c.in-Two.is [ inl e ↦ by P (ap plain e.3) (law.first_two o a b s _ _ _ r) q | inr e ↦ by P (ap plain e.3) (law.first_signal o a b s _ _ _ r) q ])
