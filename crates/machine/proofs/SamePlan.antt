-- No call changes the plan: every stream keeps its equation and whether it is an output, in every state, of a run or not.
use Prim.Native.Nat.{ℕ, zero, suc, ◌<◌}
use mathlib.Core.Path.{◌≡◌, refl, ap, ◌∙◌}
use mathlib.Core.Bool.{not}
use Rattle.std.specs.Prelude.{Option, None, Some}
use mathlib.Core.List.{List, [], ◌∷◌}
use native.Mathlib.Omega.{arith}
use lib.Dec.{T, ltb, leb, ltb→lt}
use lib.IntN.{ℤ}
use lib.ListN.{length, set, length-set}
use Rattle.meaning.specs.Plan.{is_input}
use Rattle.meaning.proofs.Tests.{Is, yes!, no!, look, not_twice}
use Rattle.meaning.specs.Events.{Event, ev, horizon}
use Rattle.machine.specs.State.{Cell, State, Declared, declares, declared_in, loaded, cell_at, room, with_bound, with_next}
use Rattle.machine.specs.Step.{raise, release, can_move, ahead, new_bound, comes_in, move}
use Rattle.machine.specs.Calls.{Call, reading, progress, moving, running, collecting, Outcome, no_input, no_equation, lowest, run, oldest, hand_out, offer_reading, offer_progress, move_one, collect, call}
use Rattle.machine.proofs.Cells.{set_cases}
use Rattle.machine.proofs.Release.{release_looser}
use Rattle.machine.proofs.Frame.{raise_size, raise_eqn, raise_out, input_there, output_there}
use Rattle.machine.proofs.Outcomes.{unless_cases, equation_there, run_more, run_ends}

-- stream by stream
record Same (M N : State) : Type 0 where
  size : length N ≡ length M
  eqns : (i : ℕ) → (cell_at N i).eqn ≡ (cell_at M i).eqn
  outs : (i : ℕ) → (cell_at N i).out ≡ (cell_at M i).out

same_streams : (M N : State) → Same M N → declared_in N ≡ declared_in M
same_streams [] [] h = refl
same_streams [] (d ∷ N) h = absurd (omega (arith, h.size))
same_streams (c ∷ M) [] h = absurd (omega (arith, h.size))
same_streams (c ∷ M) (d ∷ N) h =
    let e : declares d ≡ declares c = λ i. record { eqn = h.eqns 0 i; out = h.outs 0 i } in
    let r : declared_in N ≡ declared_in M = same_streams M N (record { size = omega (arith, h.size); eqns = λ i. h.eqns (suc i); outs = λ i. h.outs (suc i) }) in
    λ i. e i ∷ r i

-- one cell changed, but for its equation and whether it is an output
set_same : (M : State) (s : ℕ) (c : Cell) → s < length M → c.eqn ≡ (cell_at M s).eqn → c.out ≡ (cell_at M s).out → Same M (set M s c)
set_same M s c l e o = record {
  size = length-set M s c;
  eqns = set_cases (λ i c. c.eqn ≡ (cell_at M i).eqn) M s c l (λ i n. refl) e;
  outs = set_cases (λ i c. c.out ≡ (cell_at M i).out) M s c l (λ i n. refl) o;
}

raise_plan : (s y : ℕ) (new : List Event) (M : State) → s < length M → declared_in (raise s y new M) ≡ declared_in M
raise_plan s y new M l = same_streams M (raise s y new M) (record { size = raise_size s y new M l; eqns = raise_eqn s y new M l; outs = raise_out s y new M l })

release_plan : (s : ℕ) (M : State) → declared_in (release s M) ≡ declared_in M
release_plan s M =
    let r = release_looser s M in
    same_streams M (release s M) (record { size = r.size; eqns = λ i. ap (λ c. c.eqn) (r.cells i); outs = λ i. ap (λ c. c.out) (r.cells i) })

move_plan : (s : ℕ) (M : State) → s < length M → declared_in (move s M) ≡ declared_in M
unfolding move
move_plan s M l = raise_plan s (new_bound (ahead s M) (cell_at M s).held) (comes_in s M) M l

-- a load leaves the streams that the text declares
pub loaded_plan : (ds : List Declared) → declared_in (loaded ds) ≡ ds
unfolding loaded
loaded_plan [] = refl
loaded_plan (d ∷ ds) = ap (λ (l : List Declared). d ∷ l) (loaded_plan ds)

-- ---- the calls

abbrev Keeps : State → Outcome → Type 0
Keeps M o = declared_in o.state ≡ declared_in M

input_in : (s : ℕ) (M : State) → T (not (no_input s M)) → s < length M
input_in s M h = input_there M s (not_twice (is_input (cell_at M s).eqn) h)

reading_plan : (s t : ℕ) (v : ℤ) (M : State) → Keeps M (offer_reading s t v M)
unfolding offer_reading
reading_plan s t v M =
    unless_cases (Keeps M) (no_input s M) 7 M _ (λ x. refl)
    (λ x. unless_cases (Keeps M) (ltb t (cell_at M s).bound) 8 M _ (λ y. refl)
    (λ y. unless_cases (Keeps M) (leb room (length (cell_at M s).held)) 9 M _ (λ z. refl)
    (λ z. raise_plan s (suc t) (ev t v ∷ []) M (input_in s M x))))

progress_plan : (s y : ℕ) (M : State) → Keeps M (offer_progress s y M)
unfolding offer_progress
progress_plan s y M =
    unless_cases (Keeps M) (no_input s M) 7 M _ (λ x. refl)
    (λ x. unless_cases (Keeps M) (ltb horizon y) 10 M _ (λ z. refl)
    (λ z. unless_cases (Keeps M) (ltb y (cell_at M s).bound) 8 M _ (λ w. refl)
    (λ w. same_streams M (set M s (with_bound y (cell_at M s))) (set_same M s (with_bound y (cell_at M s)) (input_in s M x) refl refl))))

moving_plan : (s : ℕ) (M : State) → Keeps M (move_one s M)
unfolding move_one
moving_plan s M =
    unless_cases (Keeps M) (no_equation s M) 11 M _ (λ x. refl)
    (λ x. unless_cases (Keeps M) (not (can_move s M)) 12 M _ (λ y. refl)
    (λ y. move_plan s M (equation_there s M x)))

run_plan : (n : ℕ) (M : State) → Keeps M (run n M)
unfolding run
run_plan zero M = refl
run_plan (suc n) M = go (look (ltb (lowest M) (length M))) (run_plan n (move (lowest M) M))
  where
    go : Is (ltb (lowest M) (length M)) → Keeps (move (lowest M) M) (run n (move (lowest M) M)) → Keeps M (run (suc n) M)
    go (yes! e x) ih = rw (run_more n M e) (ih ∙ move_plan (lowest M) M (ltb→lt (lowest M) (length M) x))
    go (no! e x) ih = rw (run_ends n M e)

collect_plan : (s : ℕ) (M : State) → Keeps M (collect s M)
unfolding collect
collect_plan s M = unless_cases (Keeps M) (not (cell_at M s).out) 13 M _ (λ x. refl) (λ x. handed (output_there M s (not_twice (cell_at M s).out x)) (oldest (cell_at M s).next (cell_at M s).held))
  where
    handed : s < length M → (e : Option Event) → Keeps M (hand_out e s M)
    handed l None = refl
    handed l (Some e) =
        let N = set M s (with_next (suc e.stamp) (cell_at M s)) in
        release_plan s N ∙ same_streams M N (set_same M s (with_next (suc e.stamp) (cell_at M s)) l refl refl)

-- every call, of any state
pub call_plan : (c : Call) (M : State) → declared_in (call c M).state ≡ declared_in M
unfolding call
call_plan (reading s t v) M = reading_plan s t v M
call_plan (progress s y) M = progress_plan s y M
call_plan (moving s) M = moving_plan s M
call_plan (running n) M = run_plan n M
call_plan (collecting s) M = collect_plan s M
