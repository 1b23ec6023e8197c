-- The test on bytes is the test of the plan: graph and marks stay tied step by step.
use Prim.Native.Nat.{ℕ, zero, suc, ◌+◌, ◌*◌, ◌<◌, ◌≤◌}
use mathlib.Core.Path.{◌≡◌, refl, sym, ap, ◌∙◌, subst}
use mathlib.Core.List.{List, [], ◌∷◌}
use mathlib.Core.Bool.{Bool, true, false, cond, ◌||◌}
use Rattle.std.specs.Prelude.{Option, None, Some}
use native.Mathlib.Omega.{arith}
use lib.ListN.{length, get_or, set, length-set}
use lib.Seq.{get_or-set_same, get_or-set_other}
use lib.Dec.{eqb}
use borrow.Author.Tests.{eq-eqb, eqb-true, eqb-false}
use Rattle.meaning.specs.Plan.{Plan, eqn_at}
use Rattle.meaning.specs.Arguments.{undelayed, AllBelow}
use Rattle.meaning.specs.CycleTest.{Marks, then_marked, visits, visit, down_from, is_some, acyclic}
use Rattle.meaning.specs.CycleTest as CycleTest
use Rattle.operators.specs.Limits.{most_streams}
use Rattle.cycle.specs.Graph.{Walk, marked, both, followed, rest, cleared}
use Rattle.cycle.proofs.Walks.{seen, stop, bare, onward}

-- how a stream stands, by its mark and its undelayed arguments
abbrev pub how_of : Bool → List ℕ → ℕ
how_of true l = 1
how_of false [] = 2
how_of false (a ∷ l) = 0

-- the two arguments in the graph
abbrev pub Args : List ℕ → ℕ → ℕ → Type 0
Args [] x y = Unit {0}
Args (a ∷ []) x y = (x ≡ a) × (y ≡ a)
Args (a ∷ b ∷ []) x y = (x ≡ a) × (y ≡ b)
Args (a ∷ b ∷ c ∷ l) x y = ⊥

abbrev pub args_at : Plan → ℕ → List ℕ
args_at plan i = undelayed (eqn_at plan i)

pub record Tied (plan : Plan) (g : List ℕ) (m : Marks) : Type 0 where
  pub size : 3 * length plan ≤ length g
  pub how : (i : ℕ) → i < length plan → get_or g (3 * i) 0 ≡ how_of (m i) (args_at plan i)
  pub args : (i : ℕ) → i < length plan → Args (args_at plan i) (get_or g (3 * i + 1) 0) (get_or g (3 * i + 2) 0)

-- both tests failed, or both passed and are tied again
abbrev pub Same : Plan → Option Marks → Walk → Type 0
Same plan None w = w.is_clear ≡ false
Same plan (Some m) w = (w.is_clear ≡ true) × Tied plan w.graph m

abbrev marks_or : Marks → Option Marks → Marks
marks_or d None = d
marks_or d (Some m) = m

abbrev is_none : Option Marks → ℕ
is_none None = 0
is_none (Some m) = 1

never : (k : Marks) → None ≡ Some k → ⊥
never k e = let z : ◌≡◌ {A = ℕ} 0 1 = ap is_none e in omega arith

module _ (plan : Plan) (few : length plan ≤ most_streams) where
  -- a stream marked in both
  mark : (s : ℕ) (g : List ℕ) (m : Marks) → s < length plan → Tied plan g m → Tied plan (set g (3 * s) 1) (CycleTest.marked s m)
  mark s g m h t = record {
    size = rw (length-set g (3 * s) 1) t.size;
    how = λ i l. how_at i l (eqb i s) refl;
    args = λ i l.
        subst (λ (x : ℕ). Args (args_at plan i) x (get_or (set g (3 * s) 1) (3 * i + 2) 0)) (sym (get_or-set_other g (3 * s) (3 * i + 1) 1 0 (λ e. omega arith)))
        (subst (λ (y : ℕ). Args (args_at plan i) (get_or g (3 * i + 1) 0) y) (sym (get_or-set_other g (3 * s) (3 * i + 2) 1 0 (λ e. omega arith))) (t.args i l));
  }
    where
      how_at : (i : ℕ) → i < length plan → (b : Bool) → eqb i s ≡ b → get_or (set g (3 * s) 1) (3 * i) 0 ≡ how_of (eqb i s || m i) (args_at plan i)
      how_at i l true e =
          let q : i ≡ s = eqb-true i s e in
          rw (e, q) (get_or-set_same g (3 * s) 1 0 (omega (arith, t.size)))
      how_at i l false e =
          let q : 3 * i ≡ 3 * s → ⊥ = λ z. eqb-false i s e (omega arith) in
          rw e (get_or-set_other g (3 * s) (3 * i) 1 0 q ∙ t.how i l)

  -- a stream that was found clear is marked
  passed : (a : ℕ) (m k : Marks) (b : Bool) (o : Option Marks) → m a ≡ b → cond b (Some m) (then_marked a o) ≡ Some k → k a ≡ true
  passed a m k true o q e = ap (λ (x : Option Marks). marks_or m x a) (sym e) ∙ q
  passed a m k false None q e = absurd (never k e)
  passed a m k false (Some j) q e = ap (λ (x : Option Marks). marks_or m x a) (sym e) ∙ rw (eq-eqb a a refl)

  found_marked : (d a : ℕ) (m k : Marks) → visit plan d a m ≡ Some k → k a ≡ true
  unfolding visit
  found_marked zero a m k e = passed a m k (m a) None refl e
  found_marked (suc d) a m k e = passed a m k (m a) (visits (λ a. visit plan d a) (args_at plan a) m) refl e

  -- and is not followed again
  again : (d a : ℕ) (m : Marks) → m a ≡ true → visit plan d a m ≡ Some m
  unfolding visit
  again zero a m e = rw e
  again (suc d) a m e = rw e

  -- a single argument that stands twice is followed once
  twice : (d a : ℕ) (o : Option Marks) → ((k : Marks) → o ≡ Some k → k a ≡ true) → (elim o [ None ↦ None | Some k ↦ visits (λ x. visit plan d x) (a ∷ []) k ]) ≡ o
  unfolding visits
  twice d a None f = refl
  twice d a (Some k) f = rw (again d a k (f k refl), visits)

  module _ (d : ℕ) (ih : (a : ℕ) (g : List ℕ) (m : Marks) → a < length plan → Tied plan g m → Same plan (visit plan d a m) (followed d a g)) (s : ℕ) (h : s < length plan) where
    second : (o : Option Marks) (w : Walk) → Same plan o w → Same plan (then_marked s o) (marked s w)
    second None w e = rw e
    second (Some k) w e = rw e.0 (refl, mark s w.graph k h e.1)

    -- the second argument after the first
    first : (b : ℕ) → b < length plan → (o : Option Marks) (w : Walk) → Same plan o w → ((k : Marks) → Tied plan w.graph k → get_or w.graph (3 * s + 2) 0 ≡ b) → Same plan (then_marked s (elim o [ None ↦ None | Some k ↦ visits (λ x. visit plan d x) (b ∷ []) k ])) (both s (followed d) w)
    unfolding visits
    first b l None w e q = rw e
    first b l (Some k) w e q = rw (e.0, q k e.1) (second (visits (λ x. visit plan d x) (b ∷ []) k) (followed d b w.graph) (alone (visit plan d b k) (followed d b w.graph) (ih b w.graph k l e.1)))
      where
        alone : (o : Option Marks) (w : Walk) → Same plan o w → Same plan (elim o [ None ↦ None | Some k ↦ visits (λ x. visit plan d x) [] k ]) w
        alone None w e = e
        alone (Some k) w e = e

    one_alone : (o : Option Marks) → (elim o [ None ↦ None | Some k ↦ visits (λ x. visit plan d x) [] k ]) ≡ o
    unfolding visits
    one_alone None = refl
    one_alone (Some k) = refl

    -- a stream with arguments: both are followed
    branch : (g : List ℕ) (m : Marks) → Tied plan g m → (a b : ℕ) → a < length plan → b < length plan → get_or g (3 * s) 0 ≡ 0 → get_or g (3 * s + 1) 0 ≡ a → ((k : Marks) (g₁ : List ℕ) → Tied plan g₁ k → get_or g₁ (3 * s + 2) 0 ≡ b) → Same plan (then_marked s (visits (λ x. visit plan d x) (a ∷ b ∷ []) m)) (followed (suc d) s g)
    unfolding visits
    branch g m t a b l k z x y =
        subst (Same plan (then_marked s (visits (λ x. visit plan d x) (a ∷ b ∷ []) m))) (sym (onward d s g (omega arith) z ∙ ap (λ (i : ℕ). both s (followed d) (followed d i g)) x))
        (first b k (visit plan d a m) (followed d a g) (ih a g m l t) (λ j u. y j (followed d a g).graph u))

    follow_all : (l : List ℕ) → args_at plan s ≡ l → AllBelow (length plan) l → (g : List ℕ) (m : Marks) → m s ≡ false → Tied plan g m → Same plan (then_marked s (visits (λ x. visit plan d x) l m)) (followed (suc d) s g)
    unfolding visits
    follow_all [] p b g m f t =
        let e : get_or g (3 * s) 0 ≡ 2 = t.how s h ∙ rw (f, p) in
        subst (Same plan (Some (CycleTest.marked s m))) (bare (suc d) s g (omega arith) (λ q. omega arith) (λ q. omega arith) e) (refl, mark s g m h t)
    follow_all (a ∷ []) p b g m f t =
        subst (λ (o : Option Marks). Same plan (then_marked s o) (followed (suc d) s g))
        (twice d a (visit plan d a m) (found_marked d a m) ∙ sym (one_alone (visit plan d a m)))
        (branch g m t a a b.0 b.0 (t.how s h ∙ rw (f, p)) (rw p at (t.args s h)).0 (λ k g₁ u. (rw p at (u.args s h)).1))
    follow_all (a ∷ c ∷ []) p b g m f t =
        branch g m t a c b.0 b.1.0 (t.how s h ∙ rw (f, p)) (rw p at (t.args s h)).0 (λ k g₁ u. (rw p at (u.args s h)).1)
    follow_all (a ∷ c ∷ e ∷ l) p b g m f t = absurd (rw p at (t.args s h))

  not_one : (l : List ℕ) → how_of false l ≡ 1 → ⊥
  not_one [] e = omega arith
  not_one (a ∷ l) e = omega arith

  module _ (bound : (i : ℕ) → i < length plan → AllBelow (length plan) (args_at plan i)) where
    last_step : (s : ℕ) (g : List ℕ) (m : Marks) → s < length plan → Tied plan g m → (b : Bool) → m s ≡ b → Same plan (visit plan zero s m) (followed zero s g)
    unfolding visit
    last_step s g m h t true e = rw e (subst (Same plan (Some m)) (seen 0 s g (omega arith) (t.how s h ∙ rw e)) (refl, t))
    last_step s g m h t false e =
        rw e (subst (Same plan None) (stop 0 s g (omega arith) (λ q. not_one (args_at plan s) (ap (λ (b : Bool). how_of b (args_at plan s)) (sym e) ∙ sym (t.how s h) ∙ q)) refl) refl)

    one_step : (d : ℕ) → ((a : ℕ) (g : List ℕ) (m : Marks) → a < length plan → Tied plan g m → Same plan (visit plan d a m) (followed d a g)) → (s : ℕ) (g : List ℕ) (m : Marks) → s < length plan → Tied plan g m → (b : Bool) → m s ≡ b → Same plan (visit plan (suc d) s m) (followed (suc d) s g)
    unfolding visit
    one_step d ih s g m h t true e = rw e (subst (Same plan (Some m)) (seen (suc d) s g (omega arith) (t.how s h ∙ rw e)) (refl, t))
    one_step d ih s g m h t false e = rw e (follow_all d ih s h (args_at plan s) refl (bound s h) g m e t)

    pub visited : (d s : ℕ) (g : List ℕ) (m : Marks) → s < length plan → Tied plan g m → Same plan (visit plan d s m) (followed d s g)
    visited zero s g m h t = last_step s g m h t (m s) refl
    visited (suc d) s g m h t = one_step d (visited d) s g m h t (m s) refl

    -- all streams below n, from the last on
    pub all_visited : (d n : ℕ) → n ≤ length plan → (g : List ℕ) (m : Marks) → Tied plan g m → Same plan (visits (visit plan d) (down_from n) m) (cleared d n g)
    unfolding visits down_from cleared
    all_visited d zero l g m t = (refl, t)
    all_visited d (suc n) l g m t = others (λ g m t. all_visited d n (omega arith) g m t) (visit plan d n m) (followed d n g) (visited d n g m l t)
      where
        others : ((g : List ℕ) (m : Marks) → Tied plan g m → Same plan (visits (visit plan d) (down_from n) m) (cleared d n g)) → (o : Option Marks) (w : Walk) → Same plan o w → Same plan (elim o [ None ↦ None | Some k ↦ visits (visit plan d) (down_from n) k ]) (rest w (cleared d n))
        others ih None w e = rw e
        others ih (Some k) w e = rw e.0 (ih w.graph k e.1)

    same_verdict : (o : Option Marks) (w : Walk) → Same plan o w → w.is_clear ≡ is_some o
    same_verdict None w e = e
    same_verdict (Some m) w e = e.0

    -- The test on bytes says what the definition says of the plan, at every depth.
    pub cleared_acyclic : (d : ℕ) (g : List ℕ) → Tied plan g (λ s. false) → (cleared d (length plan) g).is_clear ≡ acyclic d plan
    unfolding acyclic
    cleared_acyclic d g t = same_verdict (visits (visit plan d) (down_from (length plan)) (λ s. false)) (cleared d (length plan) g) (all_visited d (length plan) (omega arith) g (λ s. false) t)
