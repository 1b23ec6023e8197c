-- No call makes a stream hold more than 16 events.
use mathlib.Core.Path.{◌≡◌, refl, ap}
use mathlib.Core.Bool.{Bool, true, false, not, cond}
use Rattle.std.specs.Prelude.{Option, None, Some}
use mathlib.Core.List.{List, [], ◌∷◌}
use Prim.Native.Nat.{ℕ, zero, suc, ◌+◌, ◌≤◌, ◌<◌}
use native.Mathlib.Omega.{arith}
use lib.Dec.{T, leb, ltb, ltb→lt, nleb→lt}
use lib.ListN.{length, set, length-append, length-set}
use Rattle.meaning.specs.Plan.{is_input}
use Rattle.meaning.specs.Arguments.{reads, arg_a, arg_b}
use Rattle.meaning.specs.Events.{Event, ev, horizon}
use Rattle.meaning.proofs.Tests.{Is, yes!, no!, look, not_twice}
use Rattle.machine.specs.State.{Cell, State, cell_at, room, with_kept, with_bound, with_next}
use Rattle.machine.specs.Reach.{Next, event, silent}
use Rattle.machine.specs.Step.{passes, advance, absorb, absorbed, write, told, tell, drop_below, least_waiting, releases, raise, ahead, new_bound, added, can_move, comes_in, move}
use Rattle.machine.specs.Calls.{Call, reading, progress, moving, running, collecting, no_input, no_equation, offer_reading, offer_progress, move_one, lowest, run, oldest, hand_out, collect, call}
use Rattle.machine.proofs.Cells.{set_cases, told_at}
use Rattle.machine.proofs.Rising.{drop_shorter}
use Rattle.machine.proofs.Release.{among, releases_at}
use Rattle.machine.proofs.Outcomes.{unless_cases, equation_there}
use Rattle.machine.proofs.Frame.{input_there, output_there}

abbrev pub Small : State → Type 0
Small M = (s : ℕ) → length (cell_at M s).held ≤ room

cond_le : (b : Bool) (x y : List Event) (n : ℕ) → length x ≤ n → length y ≤ n → length (cond b x y) ≤ n
cond_le true x y n a c = a
cond_le false x y n a c = c

tell_held : (s : ℕ) (es : List Event) (M : State) (i : ℕ) → (cell_at (tell s es M) i).held ≡ (cell_at M i).held
unfolding tell told
tell_held s [] M i = refl
tell_held s (e ∷ es) M i = ap (λ c. c.held) (told_at s e.stamp e.value M i)

write_small : (s y : ℕ) (new : List Event) (M : State) → s < length M → Small M → length (cell_at M s).held + length new ≤ room → Small (write s y new M)
unfolding write absorbed
write_small s y new M l h k =
    set_cases (λ i c. length c.held ≤ room) M₁ s (with_kept (absorb o.eqn o (cell_at M₁ (arg_a o.eqn)) (cell_at M₁ (arg_b o.eqn))) o) (let e = length-set M s (advance y new (passes s y M) (cell_at M s)) in omega arith)
    (λ i n. up i) (up s)
  where
    M₁ : State
    M₁ = set M s (advance y new (passes s y M) (cell_at M s))

    o : Cell
    o = cell_at M₁ s

    up : (i : ℕ) → length (cell_at M₁ i).held ≤ room
    up = set_cases (λ i c. length c.held ≤ room) M s (advance y new (passes s y M) (cell_at M s)) l (λ i n. h i) (rw length-append k)

releases_small : (ss : List ℕ) (M : State) → Small M → Small (releases ss M)
releases_small ss M h i =
    rw (ap (λ c. c.held) (releases_at ss M i))
    (cond_le (among i ss) (drop_below (least_waiting i M) (cell_at M i).held) (cell_at M i).held room (let a = drop_shorter (least_waiting i M) (cell_at M i).held in let b = h i in omega arith) (h i))

pub raise_small : (s y : ℕ) (new : List Event) (M : State) → s < length M → Small M → length (cell_at M s).held + length new ≤ room → Small (raise s y new M)
unfolding raise
raise_small s y new M l h k =
    releases_small (s ∷ reads (cell_at M s).eqn) (tell s new (write s y new M)) (λ i. rw (tell_held s new (write s y new M) i) (write_small s y new M l h k i))

-- "A stream that holds 16 events takes no more"
added_room : (n : Next) (held : List Event) → length held ≤ room → length held + length (added n held) ≤ room
added_room (silent r) held h = omega arith
added_room (event t v) held h = go (look (leb room (length held)))
  where
    go : Is (leb room (length held)) → length held + length (cond (leb room (length held)) [] (ev t v ∷ [])) ≤ room
    go (yes! e x) = rw e (omega arith)
    go (no! e x) = let l = nleb→lt room (length held) x in rw e (omega arith)

pub move_small : (s : ℕ) (M : State) → s < length M → Small M → Small (move s M)
unfolding move comes_in
move_small s M l h = raise_small s (new_bound (ahead s M) (cell_at M s).held) (added (ahead s M) (cell_at M s).held) M l h (added_room (ahead s M) (cell_at M s).held (h s))

run_small : (n : ℕ) (M : State) → Small M → Small (run n M).state
unfolding run
run_small zero M h = h
run_small (suc n) M h = go (look (ltb (lowest M) (length M))) (λ k. run_small n (move (lowest M) M) k)
  where
    go : Is (ltb (lowest M) (length M)) → (Small (move (lowest M) M) → Small (run n (move (lowest M) M)).state) → Small (run (suc n) M).state
    go (yes! e x) rec = rw (e, run) (rec (move_small (lowest M) M (ltb→lt (lowest M) (length M) x) h))
    go (no! e x) rec = rw (e, run) h

pub call_small : (c : Call) (M : State) → Small M → Small (call c M).state
unfolding call offer_reading offer_progress move_one collect
call_small (reading s t v) M h =
    unless_cases (λ o. Small o.state) (no_input s M) 7 M _ (λ b. h) (λ b.
    unless_cases (λ o. Small o.state) (ltb t (cell_at M s).bound) 8 M _ (λ c. h) (λ c.
    unless_cases (λ o. Small o.state) (leb room (length (cell_at M s).held)) 9 M _ (λ d. h) (λ d.
    raise_small s (suc t) (ev t v ∷ []) M (input_there M s (not_twice (is_input (cell_at M s).eqn) b)) h (let l = nleb→lt room (length (cell_at M s).held) d in omega arith))))
call_small (progress s y) M h =
    unless_cases (λ o. Small o.state) (no_input s M) 7 M _ (λ b. h) (λ b.
    unless_cases (λ o. Small o.state) (ltb horizon y) 10 M _ (λ c. h) (λ c.
    unless_cases (λ o. Small o.state) (ltb y (cell_at M s).bound) 8 M _ (λ d. h) (λ d.
    set_cases (λ i c. length c.held ≤ room) M s (with_bound y (cell_at M s)) (input_there M s (not_twice (is_input (cell_at M s).eqn) b)) (λ i n. h i) (h s))))
call_small (moving s) M h =
    unless_cases (λ o. Small o.state) (no_equation s M) 11 M _ (λ b. h) (λ b.
    unless_cases (λ o. Small o.state) (not (can_move s M)) 12 M _ (λ c. h) (λ c.
    move_small s M (equation_there s M b) h))
call_small (running n) M h = run_small n M h
call_small (collecting s) M h = unless_cases (λ o. Small o.state) (not (cell_at M s).out) 13 M _ (λ b. h) (λ b. given (not_twice (cell_at M s).out b) (oldest (cell_at M s).next (cell_at M s).held))
  where
    given : T (cell_at M s).out → (o : Option Event) → Small (hand_out o s M).state
    given o None = h
    given o (Some e) = releases_small (s ∷ []) (set M s (with_next (suc e.stamp) (cell_at M s)))
        (set_cases (λ i c. length c.held ≤ room) M s (with_next (suc e.stamp) (cell_at M s)) (output_there M s o) (λ i n. h i) (h s))
