-- How: what an answer tells of a text, and the graph of a text that is searched for a cycle.
use Rattle.std.specs.Prelude.{ℕ, ◌<◌, ◌≡◌, true, List, Option, unwrap_or, IfSome, Ok}
use Rattle.plan.specs.Rules.{all_keep, Form, refused, formed, plan_from}
use Rattle.plan.specs.Pass.{noted_all}
use Rattle.marks.specs.Marks.{LowestTo}
use Rattle.faults.specs.declared.Fault.{Fault}
use Rattle.faults.specs.Faults.{none, Lowest, plan_of, fault_of_head}

-- an answer tells this fault: none, or one that has a number and a line
abbrev pub Tells : Option Fault → Fault → Type 0
Tells r g = (unwrap_or r none ≡ g) × IfSome r (λ f. (0 < f.number) × (0 < f.line))

-- all streams of a text that was read keep rule 5
abbrev pub Kept : ℕ → Form → Type 0
Kept n (refused r) = ⊥
Kept n (formed fs end) = all_keep n fs ≡ true

-- their graph, from stream i on
abbrev pub noted_form : ℕ → ℕ → Form → List ℕ → List ℕ
noted_form n i (refused r) g = g
noted_form n i (formed fs end) g = noted_all n i fs g

-- the lowest of them that leads to itself, or n
abbrev pub LowestIn : ℕ → Form → ℕ → Type 0
LowestIn n (refused q) r = Unit {0}
LowestIn n (formed fs end) r = LowestTo n (plan_from fs) r

-- the fault of a text whose first two lines announce n streams
pub record FoundAfter (cap : ℕ) (s : List ℕ) (n at : ℕ) (f : Fault) : Type 0 where
  pub place : f ≡ fault_of_head cap s f.stream (Ok (n, at))
  pub lowest : f.number ≡ 6 → Lowest (plan_of cap s) f.stream
