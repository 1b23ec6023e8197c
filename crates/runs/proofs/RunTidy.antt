-- Every state of a run is tidy, and each move and each accepted reading leaves what tidying all streams would leave.
use mathlib.Core.Path.{◌≡◌, refl, subst}
use mathlib.Core.List.{List, [], ◌∷◌}
use Prim.Native.Nat.{ℕ, suc, ◌≤◌, ◌<◌, ◌^◌}
use native.Mathlib.Omega.{arith}
use lib.Dec.{T, leb, ltb, nltb→le}
use lib.ListN.{length, set}
use lib.IntN.{ℤ}
use Rattle.meaning.specs.Plan.{is_input}
use Rattle.meaning.specs.Events.{ev, Streams, found, horizon}
use Rattle.meaning.specs.Meaning.{meaning}
use Rattle.meaning.proofs.Tests.{not_twice}
use Rattle.meaning.proofs.Solution.{solution_exists}
use Rattle.machine.specs.State.{Declared, State, cell_at, room, declared_plan}
use Rattle.machine.specs.Step.{passes, advance, can_move, comes_in, move, raise}
use Rattle.machine.specs.Calls.{Call, Outcome, no_input, offer_reading}
use Rattle.machine.proofs.Moves.{goal}
use Rattle.machine.proofs.Outcomes.{unless_cases}
use Rattle.runs.specs.Seen.{AllTyped}
use Rattle.runs.specs.Claim.{readings, final, Keeps}
use Rattle.runs.proofs.World.{World, Agrees, Good}
use Rattle.runs.proofs.Offers as offers
use Rattle.runs.proofs.Move.{rise}
use Rattle.runs.proofs.Claimed.{W, good, state_is, tracks}
use Rattle.runs.proofs.Tidy.{tidied, stale, tracks_tidy}
use Rattle.runs.proofs.Local.{step_tidies}

module _ (ds : List Declared) (keeps : Keeps ds) where
  -- of what holds so far
  moved_tidily : (X : World) → Good ds X → (s : ℕ) → s < length X.state → T (can_move s X.state) → (i : ℕ)
      → cell_at (move s X.state) i ≡ tidied (set X.state s (stale (advance (goal s X.state) (comes_in s X.state) (passes s (goal s X.state) X.state) (cell_at X.state s)))) i
  unfolding move
  moved_tidily X g s l can i =
      let rd : Streams = λ j. found (X.accepted j) in
      let S = meaning (declared_plan ds) rd in
      let sol = solution_exists (declared_plan ds) rd keeps.acyclic horizon in
      let r = g.right rd S sol (record { below = λ j h t k. refl }) in
      step_tidies S X.state r.tracks s (goal s X.state) (comes_in s X.state) (rise ds rd S sol X.state g.shape r.tracks s l can) i

  read_tidily : (X : World) → Good ds X → (s t : ℕ) (v : ℤ) → T (is_input (cell_at X.state s).eqn) → (cell_at X.state s).bound ≤ t → t < horizon → (i : ℕ)
      → cell_at (raise s (suc t) (ev t v ∷ []) X.state) i ≡ tidied (set X.state s (stale (advance (suc t) (ev t v ∷ []) (passes s (suc t) X.state) (cell_at X.state s)))) i
  read_tidily X g s t v is_in l h i =
      let Y = offers.Y ds X g s is_in t v l h in
      let rd : Streams = λ j. found (Y.accepted j) in
      let S = meaning (declared_plan ds) rd in
      let sol = solution_exists (declared_plan ds) rd keeps.acyclic horizon in
      let a : Agrees ds rd Y = record { below = λ j h t k. refl } in
      let r = g.right rd S sol (offers.before ds X g s is_in t v l h rd a) in
      step_tidies S X.state r.tracks s (suc t) (ev t v ∷ []) (offers.rise ds X g s is_in t v l h rd S sol a) i

  module _ (cs : List Call) (typed : AllTyped cs) where
    abbrev M : State
    M = final ds cs

    -- tidying changes nothing in a state of a run
    pub run_is_tidy : (i : ℕ) → tidied M i ≡ cell_at M i
    run_is_tidy =
        let S = meaning (declared_plan ds) (readings ds cs) in
        tracks_tidy S M (tracks ds keeps cs typed S (solution_exists (declared_plan ds) (readings ds cs) keeps.acyclic horizon))

    -- a move that can be made
    pub move_tidies : (s : ℕ) → s < length M → T (can_move s M) → (i : ℕ) → cell_at (move s M) i ≡ tidied (set M s (stale (advance (goal s M) (comes_in s M) (passes s (goal s M) M) (cell_at M s)))) i
    move_tidies =
        subst (λ N. (s : ℕ) → s < length N → T (can_move s N) → (i : ℕ) → cell_at (move s N) i ≡ tidied (set N s (stale (advance (goal s N) (comes_in s N) (passes s (goal s N) N) (cell_at N s)))) i)
        (state_is ds keeps cs typed) (moved_tidily (W ds keeps cs typed) (good ds keeps cs typed))

    -- a reading that is accepted
    pub reading_tidies : (s t : ℕ) (v : ℤ) → t < 2 ^ 32 → (offer_reading s t v M).number ≡ 0 → (i : ℕ)
        → cell_at (offer_reading s t v M).state i ≡ tidied (set M s (stale (advance (suc t) (ev t v ∷ []) (passes s (suc t) M) (cell_at M s)))) i
    unfolding offer_reading
    reading_tidies s t v h =
        unless_cases P (no_input s M) 7 M _ (λ b q. let z : ◌≡◌ {A = ℕ} 0 1 = cc in absurd (omega arith)) (λ b.
        unless_cases P (ltb t (cell_at M s).bound) 8 M _ (λ c q. let z : ◌≡◌ {A = ℕ} 0 1 = cc in absurd (omega arith)) (λ c.
        unless_cases P (leb room (length (cell_at M s).held)) 9 M _ (λ d q. let z : ◌≡◌ {A = ℕ} 0 1 = cc in absurd (omega arith)) (λ d q.
        run_read s t v (not_twice (is_input (cell_at M s).eqn) b) (nltb→le t (cell_at M s).bound c) h)))
      where
        P : Outcome → Type 0
        P o = o.number ≡ 0 → (i : ℕ) → cell_at o.state i ≡ tidied (set M s (stale (advance (suc t) (ev t v ∷ []) (passes s (suc t) M) (cell_at M s)))) i

        run_read : (s t : ℕ) (v : ℤ) → T (is_input (cell_at M s).eqn) → (cell_at M s).bound ≤ t → t < horizon → (i : ℕ) → cell_at (raise s (suc t) (ev t v ∷ []) M) i ≡ tidied (set M s (stale (advance (suc t) (ev t v ∷ []) (passes s (suc t) M) (cell_at M s)))) i
        run_read =
            subst (λ N. (s t : ℕ) (v : ℤ) → T (is_input (cell_at N s).eqn) → (cell_at N s).bound ≤ t → t < horizon → (i : ℕ) → cell_at (raise s (suc t) (ev t v ∷ []) N) i ≡ tidied (set N s (stale (advance (suc t) (ev t v ∷ []) (passes s (suc t) N) (cell_at N s)))) i)
            (state_is ds keeps cs typed) (read_tidily (W ds keeps cs typed) (good ds keeps cs typed))
