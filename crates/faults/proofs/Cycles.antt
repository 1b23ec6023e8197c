-- The search over the graph of a text finds the lowest stream that leads to itself, and finds none just where rule 6 is kept.
use Prim.Native.Nat.{ℕ, ◌*◌, ◌<◌, ◌≤◌}
use mathlib.Core.Path.{◌≡◌, refl, sym, ◌∙◌, subst}
use mathlib.Core.Bool.{Bool, true, false}
use mathlib.Core.List.Memᴰ
use mathlib.Core.List.{List, [], Memᴰ}
use native.Mathlib.Omega.{arith}
use native.Mathlib.Decide.{dec_lt}
use lib.ListN.{length, drop, replicate, length-replicate, get_or-eq_default}
use Rattle.meaning.specs.Plan.{nil, Plan, eqn_at}
use Rattle.meaning.specs.Arguments.{undelayed}
use Rattle.meaning.specs.Cycle.{Leads, step, then, Acyclic}
use Rattle.meaning.specs.CycleTest.{acyclic}
use Rattle.meaning.proofs.Each.{each_at}
use Rattle.meaning.proofs.Within.{Within}
use Rattle.meaning.proofs.CycleTest.{test_sound, test_complete}
use Rattle.operators.specs.Limits.{most_streams}
use Rattle.cycle.specs.Graph.{graph_length}
use Rattle.cycle.proofs.Tied.{args_at, Tied}
use Rattle.cycle.proofs.Graphs.{graph_tied}
use Rattle.text.specs.declared.Fields.{Fields}
use Rattle.plan.specs.Rules.{all_keep, Form, refused, formed, streams, plan_from}
use Rattle.plan.specs.Pass.{noted_all}
use Rattle.plan.proofs.Noted.{read_sound, noted_graph, all_below, plan_length}
use Rattle.marks.specs.Marks.{LowestBack, LowestTo}
use Rattle.faults.specs.Search.{Kept, noted_form, LowestIn}
use Rattle.marks.proofs.Leading.{lowest_leads}

-- a stream that the plan does not have has no arguments
no_arguments : (plan : Plan) (s a : ℕ) → length plan ≤ s → Memᴰ a (undelayed (eqn_at plan s)) → ⊥
no_arguments plan s a l h = Memᴰ.not-nil (rw (get_or-eq_default plan nil {n = s} l) at h)

pub no_way : (plan : Plan) (s : ℕ) {z : ℕ} → length plan ≤ s → Leads plan s z → ⊥
no_way plan s {z} l (step h) = no_arguments plan s z l h
no_way plan s l (then {a} h w) = no_arguments plan s a l h

-- ## The plan of a text that was read and keeps rule 5

module _ (s : List ℕ) (n at : ℕ) (fs : List Fields) (end : ℕ) (e : streams s at n ≡ formed fs end) (k : all_keep n fs ≡ true) where
  abbrev plan : Plan
  plan = plan_from fs

  size : length plan ≡ n
  size = plan_length fs ∙ (read_sound s n at fs end e).1

  within : Within plan
  within i a h = by (dec_lt i n)
    where
      by : Dec (i < n) → a < length plan
      by (yes l) = let q = size in let r = read_sound s n at fs end e in let w : a < n = each_at (λ x. x < n) (args_at plan i) (all_below n fs r.0 k i (omega arith)) h in omega arith
      by (no l) = absurd (no_arguments plan i a (omega (arith, size)) h)

  -- what the search over its graph finds
  module _ (few : n ≤ most_streams) (r : ℕ) where
    tied : Tied plan (noted_all n 0 fs (replicate graph_length 0)) (λ x. false)
    tied =
        let t = read_sound s n at fs end e in
        let g : List ℕ = replicate graph_length 0 in
        subst (λ (x : List ℕ). Tied plan x (λ y. false)) (sym (noted_graph n 0 fs t.0 k [] g refl (omega (arith, t.1, length-replicate {A = ℕ} graph_length 0)))) (graph_tied plan (drop (3 * length fs) g))

    found : LowestBack (noted_all n 0 fs (replicate graph_length 0)) n r → LowestTo n plan r
    found b = lowest_leads plan (noted_all n 0 fs (replicate graph_length 0)) tied within (omega (arith, size)) n size r b

  -- no such stream: rule 6 is kept
  module _ (cap : ℕ) (room : n ≤ cap) (r : ℕ) (w : LowestTo n plan r) where
    none_acyclic : r ≡ n → Acyclic plan
    none_acyclic q x l = by (dec_lt x n)
      where
        by : Dec (x < n) → ⊥
        by (yes h) = w.below x (omega arith) l
        by (no h) = no_way plan x (omega (arith, size)) l

    pub none_passes : r ≡ n → acyclic cap plan ≡ true
    none_passes q = test_complete cap plan (none_acyclic q) within (omega (arith, size))

    -- there is one: it is broken
    pub one_fails : (r ≡ n → ⊥) → acyclic cap plan ≡ false
    one_fails q = by (acyclic cap plan) refl
      where
        by : (b : Bool) → acyclic cap plan ≡ b → b ≡ false
        by false p = refl
        by true p = let l = w.few in absurd (test_sound cap plan p r (w.itself (omega arith)))

pub lowest_in : (s : List ℕ) (n at : ℕ) → n ≤ most_streams → Kept n (streams s at n) → (g : List ℕ) → g ≡ noted_form n 0 (streams s at n) (replicate graph_length 0) → (r : ℕ) → LowestBack g n r → LowestIn n (streams s at n) r
lowest_in s n at few k g q r b = by (streams s at n) refl k q
  where
    by : (x : Form) → streams s at n ≡ x → Kept n x → g ≡ noted_form n 0 x (replicate graph_length 0) → LowestIn n x r
    by (refused y) e k q = absurd k
    by (formed fs end) e k q = found s n at fs end e k few r (subst (λ (x : List ℕ). LowestBack x n r) q b)
