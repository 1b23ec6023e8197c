-- Every call keeps a sound state sound, in whatever state.
use Prim.Native.Nat.{ℕ, zero, suc, ◌-◌, ◌<◌, ◌≤◌}
use mathlib.Core.Path.{◌≡◌, refl, sym}
use mathlib.Core.Bool.{Bool, true, false, not, cond}
use Rattle.std.specs.Prelude.{Option, None, Some}
use mathlib.Core.List.{List, [], ◌∷◌}
use native.Mathlib.Omega.{arith}
use native.Mathlib.Decide.{dec_lt}
use lib.Dec.{T, ltb, leb, nltb→le, nleb→lt}
use lib.IntN.{ℤ}
use lib.ListN.{length, set}
use borrow.Author.Tests.{ltb-true}
use Rattle.meaning.specs.Plan.{Eqn, input, nil, unit, one, two, last, delay, signal, window, is_input}
use Rattle.meaning.specs.Arguments.{arg_a, arg_b}
use Rattle.meaning.specs.Events.{Event, ev, horizon}
use Rattle.meaning.proofs.Inputs.{input_is}
use Rattle.meaning.proofs.Tests.{Is, yes!, no!, look}
use Rattle.machine.specs.State.{Cell, State, cell_at, room, with_next}
use Rattle.machine.specs.Reach.{stops, limit, reach, first, gives, Next, event, next_of, decide}
use Rattle.machine.specs.Step.{new_bound, added, ahead, can_move, comes_in, move}
use Rattle.machine.specs.Calls.{Call, reading, progress, moving, running, collecting, no_input, no_equation, offer_reading, offer_progress, move_one, lowest, run, oldest, hand_out, collect, call}
use Rattle.machine.proofs.Search.{least_le}
use Rattle.machine.proofs.Cells.{beyond}
use Rattle.machine.proofs.Frame.{input_there, output_there}
use Rattle.machine.proofs.Moves.{first_ge, can_up, lowest_can}
use Rattle.machine.proofs.Outcomes.{unless_cases, equation_there, run_more, run_ends}
use Rattle.encoding.specs.Sound.{IsValue, IsOptional, Rising, Sound}
use Rattle.preserve.proofs.Values.{gives_value}
use Rattle.preserve.proofs.Steps.{cell_holds, Comes, silence, one_event, raise_sound, bound_sound, next_sound, release_sound}

-- ---- a move

bound_top : {cap : ℕ} (M : State) → Sound cap M → (i : ℕ) → (cell_at M i).bound ≤ horizon
bound_top M ok i = go (dec_lt i (length M))
  where
    go : Dec (i < length M) → (cell_at M i).bound ≤ horizon
    go (yes h) = (ok.each i h).bound
    go (no h) = rw (beyond M i (omega arith)) (omega arith)

limit_top : (e : Eqn) (o a b : Cell) → o.bound ≤ horizon → a.bound ≤ horizon → b.bound ≤ horizon → limit e o a b ≤ horizon
limit_top input o a b h k l = h
limit_top nil o a b h k l = omega arith
limit_top unit o a b h k l = omega arith
limit_top (one f _) o a b h k l = k
limit_top (two g _ _) o a b h k l = omega arith
limit_top (last _ _) o a b h k l = l
limit_top (delay _ _) o a b h k l = omega arith
limit_top (signal c _ _) o a b h k l = omega arith
limit_top (window f n _) o a b h k l = k

reach_top : (e : Eqn) (o a b : Cell) → o.bound ≤ horizon → a.bound ≤ horizon → b.bound ≤ horizon → reach e o a b ≤ horizon
unfolding reach
reach_top e o a b h k l =
    let m = limit_top e o a b h k l in
    let q = least_le (stops e o a b) o.bound (limit e o a b - o.bound) in
    omega arith

-- what a move finds can come in
module _ {cap : ℕ} (M : State) (ok : Sound cap M) (s : ℕ) (l : s < length M) where
  abbrev o : Cell
  o = cell_at M s

  abbrev a : Cell
  a = cell_at M (arg_a (cell_at M s).eqn)

  abbrev b : Cell
  b = cell_at M (arg_b (cell_at M s).eqn)

  abbrev e : Eqn
  e = (cell_at M s).eqn

  top : reach e o a b ≤ horizon
  top = reach_top e o a b (bound_top M ok s) (bound_top M ok (arg_a e)) (bound_top M ok (arg_b e))

  found_at : (t : ℕ) → t < horizon → IsOptional (gives e o a b t)
  found_at t h = gives_value (length M) e o a b t h (ok.each s l).kept (ok.each s l).passed (ok.each s l).value (cell_holds M ok (arg_a e)) (cell_holds M ok (arg_b e))

  abbrev Fine : Next → Type 0
  Fine x = (new_bound x o.held ≤ horizon) × Comes (new_bound x o.held) o (added x o.held)

  decide_fine : Fine (decide e o a b)
  unfolding decide
  decide_fine = go (ltb (first e o a b) (reach e o a b)) refl
    where
      t : ℕ
      t = first e o a b

      event_fine : t < reach e o a b → (v : ℤ) → gives e o a b t ≡ Some v → Fine (event t v)
      event_fine h v q = room_left (look (leb room (length o.held)))
        where
          room_left : Is (leb room (length o.held)) → Fine (event t v)
          room_left (yes! r x) = rw r (omega (arith, top), silence)
          room_left (no! r x) = rw r (omega (arith, top), one_event t v (first_ge e o a b) refl value (nleb→lt room (length o.held) x))
            where
              value : IsValue v
              value = rw q at (found_at t (omega (arith, top)))

      with_some : t < reach e o a b → (x : Option ℤ) → gives e o a b t ≡ x → Fine (next_of t (reach e o a b) x)
      with_some h None q = (top, silence)
      with_some h (Some v) q = event_fine h v q

      go : (p : Bool) → ltb t (reach e o a b) ≡ p → Fine (next_of t (reach e o a b) (cond p (gives e o a b t) None))
      go true q = with_some (ltb-true t (reach e o a b) q) (gives e o a b t) refl
      go false q = (top, silence)

  pub ahead_fine : (new_bound (ahead s M) (cell_at M s).held ≤ horizon) × Comes (new_bound (ahead s M) (cell_at M s).held) (cell_at M s) (added (ahead s M) (cell_at M s).held)
  unfolding ahead
  ahead_fine = decide_fine

  pub move_sound : T (can_move s M) → Sound cap (move s M)
  unfolding move comes_in ahead
  move_sound can = raise_sound s (new_bound (decide e o a b) o.held) (added (decide e o a b) o.held) M ok l up decide_fine.0 decide_fine.1
    where
      up : o.bound < new_bound (decide e o a b) o.held
      up = unfold ahead in can_up s M can

-- ---- the calls

twice : (p : Bool) → T (not (not p)) → T p
twice true t = tt
twice false t = t

pub reading_sound : {cap : ℕ} (i t : ℕ) (v : ℤ) (M : State) → Sound cap M → t < horizon → IsValue v → Sound cap (offer_reading i t v M).state
unfolding offer_reading
reading_sound {cap} i t v M ok h k =
    unless_cases (λ o. Sound cap o.state) (no_input i M) 7 M _ (λ x. ok) (λ x.
    unless_cases (λ o. Sound cap o.state) (ltb t (cell_at M i).bound) 8 M _ (λ y. ok) (λ y.
    unless_cases (λ o. Sound cap o.state) (leb room (length (cell_at M i).held)) 9 M _ (λ z. ok) (λ z.
    let p = nltb→le t (cell_at M i).bound y in
    raise_sound i (suc t) (ev t v ∷ []) M ok (input_there M i (twice (is_input (cell_at M i).eqn) x)) (omega arith) (omega arith)
    (one_event t v p refl k (nleb→lt room (length (cell_at M i).held) z)))))

pub progress_sound : {cap : ℕ} (i y : ℕ) (M : State) → Sound cap M → Sound cap (offer_progress i y M).state
unfolding offer_progress
progress_sound {cap} i y M ok =
    unless_cases (λ o. Sound cap o.state) (no_input i M) 7 M _ (λ x. ok) (λ x.
    unless_cases (λ o. Sound cap o.state) (ltb horizon y) 10 M _ (λ z. ok) (λ z.
    unless_cases (λ o. Sound cap o.state) (ltb y (cell_at M i).bound) 8 M _ (λ w. ok) (λ w.
    let e = input_is (cell_at M i).eqn (twice (is_input (cell_at M i).eqn) x) in
    bound_sound i y M ok (input_there M i (rw e tt)) e (nltb→le y (cell_at M i).bound w) (nltb→le horizon y z))))

pub move_one_sound : {cap : ℕ} (s : ℕ) (M : State) → Sound cap M → Sound cap (move_one s M).state
unfolding move_one
move_one_sound {cap} s M ok =
    unless_cases (λ o. Sound cap o.state) (no_equation s M) 11 M _ (λ x. ok) (λ x.
    unless_cases (λ o. Sound cap o.state) (not (can_move s M)) 12 M _ (λ y. ok) (λ y.
    move_sound M ok s (equation_there s M x) (twice (can_move s M) y)))
  where
    twice : (p : Bool) → T (not (not p)) → T p
    twice true t = tt
    twice false t = t

pub run_sound : {cap : ℕ} (n : ℕ) (M : State) → Sound cap M → Sound cap (run n M).state
run_sound zero M ok = unfold run in ok
run_sound {cap} (suc n) M ok = go (ltb (lowest M) (length M)) refl (λ h. run_sound n (move (lowest M) M) h)
  where
    go : (b : Bool) → ltb (lowest M) (length M) ≡ b → (Sound cap (move (lowest M) M) → Sound cap (run n (move (lowest M) M)).state) → Sound cap (run (suc n) M).state
    go true e rec = rw (run_more n M e) (let l = ltb-true (lowest M) (length M) e in rec (move_sound M ok (lowest M) l (lowest_can M l)))
    go false e rec = rw (run_ends n M e) ok

pub stamp_below : (w lo top : ℕ) (es : List Event) (x : Event) → Rising lo top es → oldest w es ≡ Some x → suc x.stamp ≤ top
stamp_below w lo top [] x r q = let z : ◌≡◌ {A = ℕ} 0 1 = cc in absurd (omega arith)
stamp_below w lo top (y ∷ es) x r q = go (leb w y.stamp) q (λ h. stamp_below w (suc y.stamp) top es x r.2 h)
  where
    top_of : (l : ℕ) (xs : List Event) → Rising l top xs → l ≤ top
    top_of l [] q = q
    top_of l (z ∷ xs) q = let u = top_of (suc z.stamp) xs q.2 in let v = q.0 in omega arith

    go : (p : Bool) → cond p (Some y) (oldest w es) ≡ Some x → (oldest w es ≡ Some x → suc x.stamp ≤ top) → suc x.stamp ≤ top
    go true h rec = let i : y ≡ x = cc in rw (sym i) (top_of (suc y.stamp) es r.2)
    go false h rec = rec h

pub collect_sound : {cap : ℕ} (i : ℕ) (M : State) → Sound cap M → Sound cap (collect i M).state
unfolding collect
collect_sound {cap} i M ok =
    unless_cases (λ o. Sound cap o.state) (not (cell_at M i).out) 13 M _ (λ x. ok) (λ x.
    let t = twice (cell_at M i).out x in
    go (oldest (cell_at M i).next (cell_at M i).held) refl (output_there M i t) (is_true (cell_at M i).out t))
  where
    twice : (p : Bool) → T (not (not p)) → T p
    twice true t = tt
    twice false t = t

    is_true : (p : Bool) → T p → p ≡ true
    is_true true t = refl
    is_true false t = absurd t

    go : (x : Option Event) → oldest (cell_at M i).next (cell_at M i).held ≡ x → i < length M → (cell_at M i).out ≡ true → Sound cap (hand_out x i M).state
    go None q l t = ok
    go (Some e) q l t =
        release_sound i (set M i (with_next (suc e.stamp) (cell_at M i)))
        (next_sound i (suc e.stamp) M ok l t (stamp_below (cell_at M i).next 0 (cell_at M i).bound (cell_at M i).held e (ok.each i l).held q))

-- an offered reading is a 32-bit stamp and a 64-bit value
abbrev pub Offered : Call → Type 0
Offered (reading s t v) = (t < horizon) × IsValue v
Offered (progress s y) = Unit {0}
Offered (moving s) = Unit {0}
Offered (running n) = Unit {0}
Offered (collecting s) = Unit {0}

-- no state left by the calls is unsound
pub call_sound : {cap : ℕ} (c : Call) (M : State) → Offered c → Sound cap M → Sound cap (call c M).state
unfolding call
call_sound (reading s t v) M h ok = reading_sound s t v M ok h.0 h.1
call_sound (progress s y) M h ok = progress_sound s y M ok
call_sound (moving s) M h ok = move_one_sound s M ok
call_sound (running n) M h ok = run_sound n M ok
call_sound (collecting s) M h ok = collect_sound s M ok
