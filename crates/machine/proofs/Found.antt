-- States that no call leaves: a delay ahead of its second argument, or with events of its own, and a signal form ahead of an
-- argument. The steps from them, computed by the checker.
use mathlib.Core.Path.{◌≡◌, refl}
use mathlib.Core.Bool.{true, false}
use Rattle.std.specs.Prelude.{Option, None, Some}
use mathlib.Core.List.{List, [], ◌∷◌, map}
use Prim.Native.Nat.{ℕ}
use lib.IntN.{ℤ, pos, negsuc}
use Rattle.meaning.specs.Plan.{sub, input, delay, signal}
use Rattle.meaning.specs.Events.{Event, ev}
use Rattle.meaning.specs.Table.{latest, delay_at, signal_at}
use Rattle.machine.specs.State.{Kept, Cell, State, no_kept, no_passed, cell_at}
use Rattle.machine.specs.Calls.{Call, reading, progress, moving}
use Rattle.machine.proofs.Worked.{Result, said, results, bounds, after_all}

abbrev input_to : ℕ → List Event → Cell
input_to y es = record { eqn = input; out = false; bound = y; held = es; next = 0; kept = no_kept; passed = no_passed }

abbrev delay_to : ℕ → List Event → Kept → Cell
delay_to y es k = record { eqn = delay 0 1; out = true; bound = y; held = es; next = 0; kept = k; passed = no_passed }

abbrev kept : ℕ → (value prior : Option ℤ) → Kept
kept z v p = record { prev = None; prev_b = None; since = z; value = v; prior = p }

abbrev signal_to : ℕ → Kept → Cell
signal_to y k = record { eqn = signal sub 0 1; out = true; bound = y; held = []; next = 0; kept = k; passed = no_passed }

abbrev signal_kept : (a b : Option ℤ) → Kept
signal_kept a b = record { prev = a; prev_b = b; since = 0; value = None; prior = None }

pub record Found : Type 0 where
  pub state : State
  pub calls : List Call
  pub answers : List Result
  -- of all streams, after the last call
  pub reached : List ℕ
  -- what stream 2 then keeps and holds
  pub keeps : Kept
  pub holds : List Event

abbrev pub founds : List Found
founds =
    -- b's reading below the bound is the latest set point, with no event of a: the firing at 20 is off
    record {
      state = input_to 30 [] ∷ input_to 5 [] ∷ delay_to 10 [] (kept 1 (Some (pos 20)) (Some (pos 4))) ∷ [];
      calls = reading 1 6 (pos 1) ∷ progress 1 30 ∷ moving 2 ∷ moving 2 ∷ [];
      answers = said 0 ∷ said 0 ∷ said 0 ∷ said 12 ∷ [];
      reached = 30 ∷ 30 ∷ 31 ∷ [];
      keeps = kept 7 None None;
      holds = [];
    }
    -- just below the bound a's event is known: it fires at 9 + 4
    ∷ record {
      state = input_to 30 [] ∷ input_to 5 [] ∷ delay_to 10 [] (kept 1 (Some (pos 20)) (Some (pos 4))) ∷ [];
      calls = reading 1 9 (pos 1) ∷ progress 1 30 ∷ moving 2 ∷ [];
      answers = said 0 ∷ said 0 ∷ said 0 ∷ [];
      reached = 30 ∷ 30 ∷ 14 ∷ [];
      keeps = kept 14 None None;
      holds = ev 13 (pos 0) ∷ [];
    }
    -- before the latest set point it changes nothing: it fires at 8 + 12
    ∷ record {
      state = input_to 30 [] ∷ input_to 5 [] ∷ delay_to 10 [] (kept 9 (Some (pos 12)) None) ∷ [];
      calls = reading 1 7 (pos 1) ∷ progress 1 30 ∷ moving 2 ∷ [];
      answers = said 0 ∷ said 0 ∷ said 0 ∷ [];
      reached = 30 ∷ 30 ∷ 21 ∷ [];
      keeps = kept 21 None None;
      holds = ev 20 (pos 0) ∷ [];
    }
    -- its own event at 9 is a set point, and a is not known there: it cannot move, and then is silent
    ∷ record {
      state = input_to 5 [] ∷ input_to 20 [] ∷ delay_to 10 (ev 9 (pos 0) ∷ []) (kept 10 None None) ∷ [];
      calls = moving 2 ∷ progress 0 10 ∷ moving 2 ∷ [];
      answers = said 12 ∷ said 0 ∷ said 0 ∷ [];
      reached = 10 ∷ 20 ∷ 21 ∷ [];
      keeps = kept 10 None None;
      holds = ev 9 (pos 0) ∷ [];
    }
    -- a has 5 there: it fires at 9 + 5
    ∷ record {
      state = input_to 10 (ev 9 (pos 5) ∷ []) ∷ input_to 20 [] ∷ delay_to 10 (ev 9 (pos 0) ∷ []) (kept 10 None None) ∷ [];
      calls = moving 2 ∷ moving 2 ∷ [];
      answers = said 0 ∷ said 12 ∷ [];
      reached = 10 ∷ 20 ∷ 15 ∷ [];
      keeps = kept 15 None None;
      holds = ev 9 (pos 0) ∷ ev 14 (pos 0) ∷ [];
    }
    -- what is kept stands for all set points below the bound: the one at 3, whose event of a would lead to 11, is not looked at
    ∷ record {
      state = input_to 20 (ev 3 (pos 8) ∷ []) ∷ input_to 20 (ev 3 (pos 1) ∷ []) ∷ delay_to 6 (ev 5 (pos 0) ∷ []) (kept 6 None None) ∷ [];
      calls = moving 2 ∷ moving 2 ∷ [];
      answers = said 0 ∷ said 12 ∷ [];
      reached = 20 ∷ 20 ∷ 21 ∷ [];
      keeps = kept 6 None None;
      holds = ev 5 (pos 0) ∷ [];
    }
    -- a signal form ahead of its argument is not told of the argument's event: 1 − 3, not 9 − 3
    ∷ record {
      state = input_to 5 [] ∷ input_to 30 [] ∷ signal_to 10 (signal_kept (Some (pos 1)) (Some (pos 2))) ∷ [];
      calls = reading 0 6 (pos 9) ∷ progress 0 40 ∷ reading 1 35 (pos 3) ∷ moving 2 ∷ moving 2 ∷ [];
      answers = said 0 ∷ said 0 ∷ said 0 ∷ said 0 ∷ said 12 ∷ [];
      reached = 40 ∷ 36 ∷ 36 ∷ [];
      keeps = signal_kept (Some (pos 1)) (Some (pos 3));
      holds = ev 35 (negsuc 1) ∷ [];
    }
    -- one with a bound above the reach stays, and keeps what it kept
    ∷ record {
      state = input_to 5 [] ∷ input_to 8 (ev 3 (pos 4) ∷ []) ∷ signal_to 10 (signal_kept (Some (pos 1)) None) ∷ [];
      calls = moving 2 ∷ [];
      answers = said 12 ∷ [];
      reached = 5 ∷ 8 ∷ 10 ∷ [];
      keeps = signal_kept (Some (pos 1)) None;
      holds = [];
    }
    ∷ []

abbrev after : Found → Cell
after f = cell_at (after_all f.calls f.state) 2

pub answers_computed : map (λ f. results f.calls f.state) founds ≡ map (λ f. f.answers) founds
unfolding results latest delay_at signal_at
answers_computed = refl

pub bounds_computed : map (λ f. bounds f.calls f.state) founds ≡ map (λ f. f.reached) founds
unfolding bounds latest delay_at signal_at
bounds_computed = refl

pub kept_computed : map (λ f. (after f).kept) founds ≡ map (λ f. f.keeps) founds
unfolding after_all latest delay_at signal_at
kept_computed = refl

pub held_computed : map (λ f. (after f).held) founds ≡ map (λ f. f.holds) founds
unfolding after_all latest delay_at signal_at
held_computed = refl
