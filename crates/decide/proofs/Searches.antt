-- The searches of the code are those of the machine, group by group of operators.
use Prim.Native.Nat.{ℕ, suc, ◌-◌, ◌<◌, ◌≤◌, max}
use mathlib.Core.Path.{◌≡◌, refl, sym, ap, ap₂, ◌∙◌}
use mathlib.Core.Bool.{Bool, true, false, cond, ◌&&◌}
use Rattle.std.specs.Prelude.{Option, None}
use mathlib.Core.List.{List, [], ◌∷◌, ◌++◌, map}
use native.Mathlib.Omega.{arith}
use lib.Dec.{leb, ltb}
use lib.IntN.{ℤ}
use borrow.Author.Tests.{lt-ltb, le-ltb}
use Rattle.meaning.specs.Plan.{Unary, Binary, Calc, Eqn, input, nil, unit, one, two, last, delay, signal, window}
use Rattle.meaning.specs.Events.{has}
use Rattle.machine.specs.State.{Cell, with_passed}
use Rattle.machine.specs.Reach.{least, limit, stops, gives, reach, first, silent, next_of, decide}
use Rattle.machine.proofs.Search.{least_ge}
use Rattle.streams.specs.Look.{own_cell, arg_cell}
use Rattle.decide.specs.Search.{pick, stamps, due_at, wanted, halts, test, candidate_of, search}
use Rattle.decide.proofs.Sparse.{first_pick, reach_pick}

-- ---- lists of candidates

each_same : (xs : List ℕ) → map (λ (s : ℕ). s) xs ≡ xs
each_same [] = refl
each_same (x ∷ xs) = ap (◌∷◌ x) (each_same xs)

each_each : (f g : ℕ → ℕ) (xs : List ℕ) → map (λ (s : ℕ). f (g s)) xs ≡ map f (map g xs)
each_each f g [] = refl
each_each f g (x ∷ xs) = ap (◌∷◌ (f (g x))) (each_each f g xs)

pick_append : (f : ℕ → Bool) (lo hi : ℕ) (xs ys : List ℕ) → pick f lo (pick f lo hi ys) xs ≡ pick f lo hi (xs ++ ys)
unfolding pick
pick_append f lo hi [] ys = refl
pick_append f lo hi (x ∷ xs) ys = ap (λ (m : ℕ). cond (leb lo x && ltb x m && f x) x m) (pick_append f lo hi xs ys)

least_none : (f : ℕ → Bool) (lo n : ℕ) → n ≡ 0 → least f lo n ≡ lo
unfolding least
least_none f lo n e = rw e

module _ (o a b : Cell) where
  -- ---- no argument ahead: the equation stays
  reach_stays : (e : Eqn) → limit e o a b ≤ o.bound → reach e o a b ≡ o.bound
  unfolding reach
  reach_stays e h = least_none (stops e o a b) o.bound (limit e o a b - o.bound) (omega arith)

  first_stays : (e : Eqn) → reach e o a b ≡ o.bound → first e o a b ≡ o.bound
  unfolding first
  first_stays e r = least_none (λ t. has (gives e o a b t)) o.bound (reach e o a b - o.bound) (omega arith)

  pub decide_stays : (e : Eqn) → limit e o a b ≤ o.bound → decide e o a b ≡ silent o.bound
  unfolding decide
  decide_stays e h =
      let r : reach e o a b ≡ o.bound = reach_stays e h in
      rw (first_stays e r, r, le-ltb o.bound o.bound (omega arith))

  -- ---- the reach

  abbrev pub top : Eqn → ℕ
  top e = max o.bound (limit e o a b)

  abbrev pub Ends : Eqn → ℕ → List ℕ → Type 0
  Ends e hi cs = hi ≡ top e → pick (test false e o a b) o.bound hi cs ≡ reach e o a b

  -- where there is no candidate, and in general
  pub ends : (e : Eqn) (hi : ℕ) → Ends e hi (halts e o a b)
  unfolding test
  ends e hi q = ap (λ (h : ℕ). pick (stops e o a b) o.bound h (halts e o a b)) q ∙ sym (reach_pick e o a b)

  pub reach_last : (x y hi : ℕ) → Ends (last x y) hi (map (candidate_of false (last x y) o a) (stamps b.held))
  reach_last x y hi q = ap (pick (test false (last x y) o a b) o.bound hi) (each_same (stamps b.held)) ∙ ends (last x y) hi q

  pub reach_delay : (x y hi : ℕ) → Ends (delay x y) hi (o.bound ∷ map (candidate_of false (delay x y) o a) (stamps b.held))
  reach_delay x y hi = ends (delay x y) hi

  -- ---- the first event

  abbrev pub Finds : Eqn → ℕ → List ℕ → Type 0
  Finds e r cs = r ≡ reach e o a b → pick (test true e o a b) o.bound r cs ≡ first e o a b

  module _ (since : o.kept.since ≤ o.bound) where
    pub finds : (e : Eqn) (r : ℕ) → Finds e r (wanted e o a b)
    unfolding test
    finds e r q = ap (λ (h : ℕ). pick (λ t. has (gives e o a b t)) o.bound h (wanted e o a b)) q ∙ sym (first_pick e o a b since)

    pub first_one : (f : Unary) (x r : ℕ) → Finds (one f x) r (map (candidate_of true (one f x) o a) (stamps a.held))
    first_one f x r q = ap (pick (test true (one f x) o a b) o.bound r) (each_same (stamps a.held)) ∙ finds (one f x) r q

    -- an equation that can have an event only where one of its arguments has one
    abbrev pub FindsBoth : Eqn → ℕ → Type 0
    FindsBoth e r = r ≡ reach e o a b → search true e o a b (search true e o a b r b.held) a.held ≡ first e o a b

    first_both : (e : Eqn) (r : ℕ) → wanted e o a b ≡ stamps a.held ++ stamps b.held → ((xs : List ℕ) → map (candidate_of true e o a) xs ≡ xs) → FindsBoth e r
    first_both e r w same q =
        ap₂ (λ (u v : List ℕ). pick (test true e o a b) o.bound (pick (test true e o a b) o.bound r v) u) (same (stamps a.held)) (same (stamps b.held))
        ∙ pick_append (test true e o a b) o.bound r (stamps a.held) (stamps b.held)
        ∙ ap (pick (test true e o a b) o.bound r) (sym w)
        ∙ finds e r q

    pub first_two : (g : Binary) (x y r : ℕ) → FindsBoth (two g x y) r
    first_two g x y r = first_both (two g x y) r refl each_same

    pub first_signal : (c : Calc) (x y r : ℕ) → FindsBoth (signal c x y) r
    first_signal c x y r = first_both (signal c x y) r refl each_same

    pub first_last : (x y r : ℕ) → Finds (last x y) r (map (candidate_of true (last x y) o a) (stamps b.held))
    first_last x y r q = ap (pick (test true (last x y) o a b) o.bound r) (each_same (stamps b.held)) ∙ finds (last x y) r q

    pub first_delay : (x y r : ℕ) → Finds (delay x y) r (due_at o a o.kept.since ∷ map (candidate_of true (delay x y) o a) (stamps b.held))
    first_delay x y r q =
        ap (λ (cs : List ℕ). pick (test true (delay x y) o a b) o.bound r (due_at o a o.kept.since ∷ cs)) (each_each (due_at o a) suc (stamps b.held))
        ∙ finds (delay x y) r q

  pub first_from : (e : Eqn) (t : ℕ) → t ≡ first e o a b → o.bound ≤ t
  unfolding first
  first_from e t q = rw q (least_ge (λ t. has (gives e o a b t)) o.bound (reach e o a b - o.bound))

  -- ---- the answer

  module _ (e : Eqn) (t r : ℕ) (et : t ≡ first e o a b) (er : r ≡ reach e o a b) where
    pub next_silent : r ≤ t → silent r ≡ decide e o a b
    unfolding decide
    next_silent h =
        ap silent er
        ∙ sym (ap (λ (c : Bool). next_of (first e o a b) (reach e o a b) (cond c (gives e o a b (first e o a b)) None)) (le-ltb (first e o a b) (reach e o a b) (rw (et, er) at h)))

    pub next_shown : (x : Option ℤ) → t < r → x ≡ gives e o a b t → next_of t r x ≡ decide e o a b
    unfolding decide
    next_shown x h w =
        ap₂ (λ (t r : ℕ). next_of t r x) et er
        ∙ ap (next_of (first e o a b) (reach e o a b)) (w ∙ ap (gives e o a b) et)
        ∙ sym (ap (λ (c : Bool). next_of (first e o a b) (reach e o a b) (cond c (gives e o a b (first e o a b)) None)) (lt-ltb (first e o a b) (reach e o a b) (rw (et, er) at h)))

-- ---- a move looks at no more of the cells than this

pub decide_near : (e : Eqn) (o a b : Cell) → decide e (with_passed o.passed (own_cell o.eqn o.bound o.kept)) (arg_cell a.bound a.held) (arg_cell b.bound b.held) ≡ decide e o a b
unfolding decide
decide_near input o a b = refl
decide_near nil o a b = refl
decide_near unit o a b = refl
decide_near (one f _) o a b = refl
decide_near (two g _ _) o a b = refl
decide_near (last _ _) o a b = refl
decide_near (delay _ _) o a b = refl
decide_near (signal c _ _) o a b = refl
decide_near (window f k _) o a b = refl
