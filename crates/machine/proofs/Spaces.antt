-- Readers with given bounds, worked out by hand and computed by the checker: the least of the bounds, and whether some reader
-- waits for an event at a stamp.
use Prim.Native.Nat.{ℕ, ◌≤◌, ◌<◌}
use mathlib.Core.Path.{◌≡◌, refl}
use mathlib.Core.Bool.{false}
use mathlib.Core.List.{List, [], ◌∷◌, map}
use native.Mathlib.Omega.{arith}
use lib.Dec.{lit≤, lit<}
use Rattle.meaning.specs.Plan.{Eqn, input, one, neg, last}
use Rattle.meaning.specs.Events.{horizon}
use Rattle.machine.specs.State.{Cell, State, no_kept, no_passed}
use Rattle.machine.specs.Step.{least_reader}
use Rattle.machine.specs.Waiting.{SomeReaderWaits}
use Rattle.machine.proofs.Waiting.{space_test}

abbrev at : Eqn → ℕ → Cell
at e y = record { eqn = e; out = false; bound = y; held = []; next = 0; kept = no_kept; passed = no_passed }

-- an input, stream 0, and readers of it with these bounds
abbrev read_by : List ℕ → State
read_by ys = at input 10 ∷ map (at (one neg 0)) ys

-- the number w, and by the theorem that some reader waits at t, or that none does
module _ (M : State) (w t : ℕ) (e : least_reader 0 M ≡ w) (h : t < horizon) where
  yes_waits : w ≤ t → (least_reader 0 M ≡ w) × SomeReaderWaits M 0 t
  yes_waits l = (e, (space_test.holds M 0).needed t h (omega arith))

  none_waits : t < w → (least_reader 0 M ≡ w) × (SomeReaderWaits M 0 t → ⊥)
  none_waits l = (e, λ x. let k = (space_test.holds M 0).enough t h x in omega arith)

at_the_least : (least_reader 0 (read_by (5 ∷ 3 ∷ 9 ∷ [])) ≡ 3) × SomeReaderWaits (read_by (5 ∷ 3 ∷ 9 ∷ [])) 0 3
unfolding least_reader
at_the_least = yes_waits (read_by (5 ∷ 3 ∷ 9 ∷ [])) 3 3 refl (lit< tt) (lit≤ tt)

below_the_least : (least_reader 0 (read_by (5 ∷ 3 ∷ 9 ∷ [])) ≡ 3) × (SomeReaderWaits (read_by (5 ∷ 3 ∷ 9 ∷ [])) 0 2 → ⊥)
unfolding least_reader
below_the_least = none_waits (read_by (5 ∷ 3 ∷ 9 ∷ [])) 3 2 refl (lit< tt) (lit< tt)

-- nobody reads: nobody waits at any stamp, the last one among them
no_reader : (least_reader 0 (read_by []) ≡ 4294967296) × (SomeReaderWaits (read_by []) 0 4294967295 → ⊥)
unfolding least_reader
no_reader = none_waits (read_by []) 4294967296 4294967295 refl (lit< tt) (lit< tt)

to_the_end : (least_reader 0 (read_by (4294967296 ∷ [])) ≡ 4294967296) × (SomeReaderWaits (read_by (4294967296 ∷ [])) 0 4294967295 → ⊥)
unfolding least_reader
to_the_end = none_waits (read_by (4294967296 ∷ [])) 4294967296 4294967295 refl (lit< tt) (lit< tt)

from_the_start : (least_reader 0 (read_by (0 ∷ [])) ≡ 0) × SomeReaderWaits (read_by (0 ∷ [])) 0 0
unfolding least_reader
from_the_start = yes_waits (read_by (0 ∷ [])) 0 0 refl (lit< tt) (lit≤ tt)

-- a last reads its delayed argument as well
by_delayed : (least_reader 0 (at input 10 ∷ at (one neg 0) 9 ∷ at (last 0 1) 4 ∷ []) ≡ 4) × SomeReaderWaits (at input 10 ∷ at (one neg 0) 9 ∷ at (last 0 1) 4 ∷ []) 0 5
unfolding least_reader
by_delayed = yes_waits (at input 10 ∷ at (one neg 0) 9 ∷ at (last 0 1) 4 ∷ []) 4 5 refl (lit< tt) (lit≤ tt)
