-- No call changes how many streams a state has.
use Prim.Native.Nat.{ℕ, zero, suc}
use mathlib.Core.Path.{◌≡◌, refl, ◌∙◌}
use mathlib.Core.Bool.{Bool, true, false, not}
use Rattle.std.specs.Prelude.{Option, None, Some}
use mathlib.Core.List.{List, [], ◌∷◌}
use lib.Dec.{leb, ltb}
use lib.ListN.{length, set, length-set, length-map}
use Rattle.meaning.specs.Arguments.{reads}
use Rattle.meaning.specs.Events.{Event, ev, horizon}
use Rattle.meaning.proofs.Tests.{Is, yes!, no!, look}
use Rattle.machine.specs.State.{State, cell_at, room, with_bound, with_next}
use Rattle.machine.specs.Step.{passes, advance, absorbed, write, told, tell, release, releases, raise, new_bound, ahead, can_move, comes_in, move}
use Rattle.machine.specs.Calls.{Call, reading, progress, moving, running, collecting, Outcome, done, unless, arrivals, no_input, offer_reading, offer_progress, no_equation, move_one, lowest, run, oldest, hand_out, collect, call}
use Rattle.machine.proofs.Outcomes.{run_more, run_ends}

release_length : (i : ℕ) (M : State) → length (release i M) ≡ length M
unfolding release
release_length i M = length-set M i _

releases_length : (l : List ℕ) (M : State) → length (releases l M) ≡ length M
unfolding releases
releases_length [] M = refl
releases_length (i ∷ l) M = releases_length l (release i M) ∙ release_length i M

tell_length : (i : ℕ) (new : List Event) (M : State) → length (tell i new M) ≡ length M
unfolding tell
tell_length i [] M = refl
tell_length i (x ∷ new) M = length-map M (told i x.stamp x.value)

write_length : (i y : ℕ) (new : List Event) (M : State) → length (write i y new M) ≡ length M
unfolding write absorbed
write_length i y new M = length-set (set M i (advance y new (passes i y M) (cell_at M i))) i _ ∙ length-set M i (advance y new (passes i y M) (cell_at M i))

pub raise_length : (i y : ℕ) (new : List Event) (M : State) → length (raise i y new M) ≡ length M
unfolding raise
raise_length i y new M =
    releases_length (i ∷ reads (cell_at M i).eqn) (tell i new (write i y new M)) ∙ tell_length i new (write i y new M) ∙ write_length i y new M

pub move_length : (i : ℕ) (M : State) → length (move i M) ≡ length M
unfolding move
move_length i M = raise_length i (new_bound (ahead i M) (cell_at M i).held) (comes_in i M) M

abbrev Same : State → Outcome → Type 0
Same M o = length o.state ≡ length M

same : (b : Bool) (n : ℕ) (M : State) (o : Outcome) → Same M o → Same M (unless b n M o)
same true n M o h = refl
same false n M o h = h

run_length : (n : ℕ) (M : State) → Same M (run n M)
run_length zero M = unfold run in refl
run_length (suc n) M = go (look (ltb (lowest M) (length M))) (run_length n (move (lowest M) M))
  where
    go : Is (ltb (lowest M) (length M)) → Same (move (lowest M) M) (run n (move (lowest M) M)) → Same M (run (suc n) M)
    go (yes! e x) h = rw (run_more n M e) (h ∙ move_length (lowest M) M)
    go (no! e x) h = rw (run_ends n M e)

hand_length : (o : Option Event) (i : ℕ) (M : State) → Same M (hand_out o i M)
hand_length None i M = refl
hand_length (Some e) i M = release_length i (set M i (with_next (suc e.stamp) (cell_at M i))) ∙ length-set M i (with_next (suc e.stamp) (cell_at M i))

pub call_length : (c : Call) (M : State) → length (call c M).state ≡ length M
unfolding call offer_reading offer_progress move_one collect
call_length (reading i t v) M =
    let o₃ = done (arrivals i (ev t v ∷ [])) (raise i (suc t) (ev t v ∷ []) M) in
    let o₂ = unless (leb room (length (cell_at M i).held)) 9 M o₃ in
    let o₁ = unless (ltb t (cell_at M i).bound) 8 M o₂ in
    same (no_input i M) 7 M o₁ (same (ltb t (cell_at M i).bound) 8 M o₂ (same (leb room (length (cell_at M i).held)) 9 M o₃ (raise_length i (suc t) (ev t v ∷ []) M)))
call_length (progress i y) M =
    let o₃ = done [] (set M i (with_bound y (cell_at M i))) in
    let o₂ = unless (ltb y (cell_at M i).bound) 8 M o₃ in
    let o₁ = unless (ltb horizon y) 10 M o₂ in
    same (no_input i M) 7 M o₁ (same (ltb horizon y) 10 M o₂ (same (ltb y (cell_at M i).bound) 8 M o₃ (length-set M i (with_bound y (cell_at M i)))))
call_length (moving i) M =
    let o₂ = done (arrivals i (comes_in i M)) (move i M) in
    same (no_equation i M) 11 M (unless (not (can_move i M)) 12 M o₂) (same (not (can_move i M)) 12 M o₂ (move_length i M))
call_length (running n) M = run_length n M
call_length (collecting i) M =
    let o = oldest (cell_at M i).next (cell_at M i).held in
    same (not (cell_at M i).out) 13 M (hand_out o i M) (hand_length o i M)
