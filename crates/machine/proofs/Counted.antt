-- Small runs in which events are missing, and the counts that are read after each call, computed by the checker. Each row is
-- there for an error that is easily made.
use mathlib.Core.Path.{◌≡◌, refl}
use mathlib.Core.List.{List, [], ◌∷◌, map}
use Prim.Native.Nat.{ℕ}
use lib.IntN.{ℤ, pos, negsuc}
use Rattle.meaning.specs.Plan.{time, neg, plus, add, sub, mul, div, rem, lt, calc, keep, merge, input, one, two, last, signal, window, wsum}
use Rattle.meaning.specs.Table.{last_at, latest, one_at, two_at, signal_at, window_at_lem, latest_of}
use Rattle.meaning.specs.Missing.{one_says, two_says, signal_says, window_says, tally}
use Rattle.machine.specs.State.{State, loaded, fresh, with_passed}
use Rattle.machine.specs.Calls.{Call, reading, progress, moving, running, collecting, call, Missing, missing}
use Rattle.machine.proofs.Worked.{inner, outer, fill, after_all}

-- the counts of these streams after each call
unfoldable pub read : List ℕ → List Call → State → List (List Missing)
unfolding call missing
read ss [] M = []
read ss (c ∷ cs) M = let N = (call c M).state in map (λ s. missing s N) ss ∷ read ss cs N

pub record Row : Type 0 where
  pub begun : State
  -- made first, and not looked at
  pub before : List Call
  pub calls : List Call
  pub asked : List ℕ
  pub counts : List (List Missing)

-- so many results outside the range, and so many zero divisors
abbrev lacks : ℕ → ℕ → Missing
lacks o d = record { number = 0; outside = o; divisors = d }

abbrev not_there : Missing
not_there = record { number = 11; outside = 0; divisors = 0 }

abbrev greatest : ℤ
greatest = pos 9223372036854775807

abbrev least_value : ℤ
least_value = negsuc 9223372036854775807

-- a division with these counts, and its two arguments
abbrev dividing : ℕ → ℕ → State
dividing o d = fresh (inner input) ∷ fresh (inner input) ∷ with_passed (record { window = []; outside = o; divisors = d }) (fresh (outer (two (calc div) 0 1))) ∷ []

abbrev pub rows : List Row
rows =
    -- one of each reason, and one value
    record {
      begun = loaded (inner input ∷ inner input ∷ outer (two (calc div) 0 1) ∷ []);
      before = reading 0 1 (pos 6) ∷ reading 1 1 (pos 0) ∷ reading 0 2 least_value ∷ reading 1 2 (negsuc 0) ∷ reading 0 3 (pos 6) ∷ reading 1 3 (pos 2) ∷ [];
      calls = running 9 ∷ [];
      asked = 2 ∷ [];
      counts = (lacks 1 1 ∷ []) ∷ [];
    }
    -- where both could be said, the zero divisor is
    ∷ record {
      begun = loaded (inner input ∷ inner input ∷ outer (signal div 0 1) ∷ []);
      before = reading 0 1 least_value ∷ reading 1 1 (pos 0) ∷ progress 0 9 ∷ progress 1 9 ∷ [];
      calls = running 9 ∷ [];
      asked = 2 ∷ [];
      counts = (lacks 0 1 ∷ []) ∷ [];
    }
    -- operators of one argument
    ∷ record {
      begun = loaded (inner input ∷ inner (one (plus (pos 1)) 0) ∷ inner (one neg 0) ∷ inner (window wsum (pos 2) 0) ∷ []);
      before = reading 0 1 greatest ∷ reading 0 2 greatest ∷ reading 0 3 least_value ∷ [];
      calls = running 99 ∷ [];
      asked = 1 ∷ 2 ∷ 3 ∷ [];
      counts = (lacks 2 0 ∷ lacks 1 0 ∷ lacks 1 0 ∷ []) ∷ [];
    }
    -- counted when the bound passes the stamp, not when the events come in; the move adds no event
    ∷ record {
      begun = loaded (inner input ∷ inner input ∷ outer (two (calc add) 0 1) ∷ []);
      before = [];
      calls = reading 0 1 greatest ∷ reading 1 1 (pos 1) ∷ progress 0 9 ∷ progress 1 9 ∷ moving 2 ∷ [];
      asked = 2 ∷ [];
      counts = (lacks 0 0 ∷ []) ∷ (lacks 0 0 ∷ []) ∷ (lacks 0 0 ∷ []) ∷ (lacks 0 0 ∷ []) ∷ (lacks 1 0 ∷ []) ∷ [];
    }
    -- streams that never count, and one that is not there
    ∷ record {
      begun = loaded (inner input ∷ inner input ∷ inner (two (calc lt) 0 1) ∷ inner (two keep 0 1) ∷ inner (two merge 0 1) ∷ inner (last 0 1) ∷ []);
      before = reading 0 1 (pos 5) ∷ reading 1 1 (pos 0) ∷ [];
      calls = running 99 ∷ [];
      asked = 0 ∷ 2 ∷ 3 ∷ 4 ∷ 5 ∷ 6 ∷ [];
      counts = (lacks 0 0 ∷ lacks 0 0 ∷ lacks 0 0 ∷ lacks 0 0 ∷ lacks 0 0 ∷ not_there ∷ []) ∷ [];
    }
    -- one move passes sixteen such stamps
    ∷ record {
      begun = loaded (inner input ∷ inner (two (calc mul) 0 0) ∷ []);
      before = map {A = ℕ} (λ t. reading 0 t (pos 1099511627776)) (0 ∷ 1 ∷ 2 ∷ 3 ∷ 4 ∷ 5 ∷ 6 ∷ 7 ∷ 8 ∷ 9 ∷ 10 ∷ 11 ∷ 12 ∷ 13 ∷ 14 ∷ 15 ∷ []);
      calls = moving 1 ∷ [];
      asked = 1 ∷ [];
      counts = (lacks 16 0 ∷ []) ∷ [];
    }
    -- a signal form counts where either argument has an event, not between
    ∷ record {
      begun = loaded (inner input ∷ inner input ∷ inner (signal mul 0 1) ∷ []);
      before = reading 0 1 greatest ∷ reading 1 2 (pos 2) ∷ reading 1 3 (pos 3) ∷ reading 0 4 (pos 1) ∷ progress 1 9 ∷ progress 0 9 ∷ [];
      calls = running 9 ∷ [];
      asked = 2 ∷ [];
      counts = (lacks 2 0 ∷ []) ∷ [];
    }
    -- a stream by itself
    ∷ record {
      begun = loaded (inner input ∷ inner (two (calc rem) 0 0) ∷ inner (two (calc sub) 0 0) ∷ []);
      before = reading 0 1 (pos 0) ∷ reading 0 2 least_value ∷ [];
      calls = running 9 ∷ [];
      asked = 1 ∷ 2 ∷ [];
      counts = (lacks 0 1 ∷ lacks 0 0 ∷ []) ∷ [];
    }
    -- a count goes on from move to move, with an event between; the events stay held, since another reader stands still
    ∷ record {
      begun = loaded (inner input ∷ outer (one (plus (pos 1)) 0) ∷ inner (one time 0) ∷ []);
      before = reading 0 1 greatest ∷ [];
      calls = moving 1 ∷ reading 0 2 greatest ∷ reading 0 3 (pos 5) ∷ reading 0 4 greatest ∷ moving 1 ∷ moving 1 ∷ [];
      asked = 1 ∷ [];
      counts = (lacks 1 0 ∷ []) ∷ (lacks 1 0 ∷ []) ∷ (lacks 1 0 ∷ []) ∷ (lacks 1 0 ∷ []) ∷ (lacks 2 0 ∷ []) ∷ (lacks 3 0 ∷ []) ∷ [];
    }
    -- a full stream goes up to the event that waits: what it passes is counted then, and not again with the event
    ∷ record {
      begun = loaded (inner input ∷ outer (one (plus (pos 1)) 0) ∷ inner (one time 0) ∷ []);
      before = fill 0 1 16 (running 99 ∷ []);
      calls = reading 0 18 greatest ∷ reading 0 20 (pos 1) ∷ moving 1 ∷ collecting 1 ∷ moving 1 ∷ [];
      asked = 1 ∷ [];
      counts = (lacks 0 0 ∷ []) ∷ (lacks 0 0 ∷ []) ∷ (lacks 1 0 ∷ []) ∷ (lacks 1 0 ∷ []) ∷ (lacks 1 0 ∷ []) ∷ [];
    }
    -- each count stops at its limit by itself
    ∷ record {
      begun = dividing 4294967294 7;
      before = reading 0 1 least_value ∷ reading 1 1 (negsuc 0) ∷ reading 0 2 least_value ∷ reading 1 2 (negsuc 0) ∷ reading 0 3 (pos 6) ∷ reading 1 3 (pos 0) ∷ [];
      calls = moving 2 ∷ reading 0 4 least_value ∷ reading 1 4 (negsuc 0) ∷ reading 0 5 (pos 6) ∷ reading 1 5 (pos 0) ∷ moving 2 ∷ [];
      asked = 2 ∷ [];
      counts = (lacks 4294967295 8 ∷ []) ∷ (lacks 4294967295 8 ∷ []) ∷ (lacks 4294967295 8 ∷ []) ∷ (lacks 4294967295 8 ∷ []) ∷ (lacks 4294967295 8 ∷ []) ∷ (lacks 4294967295 9 ∷ []) ∷ [];
    }
    ∷ []

pub counts_computed : map (λ r. read r.asked r.calls (after_all r.before r.begun)) rows ≡ map (λ r. r.counts) rows
unfolding read after_all loaded last_at latest one_at two_at signal_at window_at_lem latest_of one_says two_says signal_says window_says tally
counts_computed = refl
