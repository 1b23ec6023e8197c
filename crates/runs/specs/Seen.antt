-- Believe: what the caller of a list of calls sees: each call with the number and the results that it returned. From that
-- alone: the accepted readings of an input, the stamp to which it is known, and the events handed out of an output.
use Rattle.std.specs.Prelude.{ℕ, suc, ◌<◌, ◌^◌, Bool, false, cond, ◌&&◌, List, [], ◌∷◌, ◌++◌, eqb, ℤ}
use Rattle.std.specs.Int.Signed.{mag}
use Rattle.meaning.specs.Events.{Event, ev}
use Rattle.machine.specs.Calls.{Call, reading, progress, moving, running, collecting}

-- what is seen of one call
pub record Seen : Type 0 where
  pub made : Call
  pub number : ℕ
  pub moves : ℕ
  pub stamp : ℕ
  pub value : ℤ

-- "The accepted readings of an input are the stamps and values of its offers in the list that returned 0."
abbrev pub reading_of : ℕ → Call → List Event
reading_of i (reading s t v) = cond (eqb s i) (ev t v ∷ []) []
reading_of i (progress s y) = []
reading_of i (moving s) = []
reading_of i (running n) = []
reading_of i (collecting s) = []

unfoldable pub accepted : ℕ → List Seen → List Event
accepted i [] = []
accepted i (x ∷ rest) = cond (eqb x.number 0) (reading_of i x.made) [] ++ accepted i rest

-- "The input is known to the bound set by the last of its offers, of either kind, that returned 0 (stamp + 1, or the new
-- bound), to 0 if there was none."
abbrev pub bound_of : ℕ → Call → ℕ → ℕ
bound_of i (reading s t v) y = cond (eqb s i) (suc t) y
bound_of i (progress s z) y = cond (eqb s i) z y
bound_of i (moving s) y = y
bound_of i (running n) y = y
bound_of i (collecting s) y = y

unfoldable pub known_from : ℕ → ℕ → List Seen → ℕ
known_from y i [] = y
known_from y i (x ∷ rest) = known_from (cond (eqb x.number 0) (bound_of i x.made y) y) i rest

abbrev pub known : ℕ → List Seen → ℕ
known i l = known_from 0 i l

-- "Handed out of an output are the events that collects of it in the list gave with a 0, in that order."
abbrev pub is_collect : ℕ → Call → Bool
is_collect i (reading s t v) = false
is_collect i (progress s y) = false
is_collect i (moving s) = false
is_collect i (running n) = false
is_collect i (collecting s) = eqb s i

unfoldable pub handed : ℕ → List Seen → List Event
handed i [] = []
handed i (x ∷ rest) = cond (eqb x.number 0 && is_collect i x.made) (ev x.stamp x.value ∷ handed i rest) (handed i rest)

-- the arguments are numbers of the types that the calls take: 32 bits for streams, stamps and counts, 64 for bounds and values
abbrev pub Typed : Call → Type 0
Typed (reading s t v) = (s < 2 ^ 32) × (t < 2 ^ 32) × (mag v < 2 ^ 63)
Typed (progress s y) = (s < 2 ^ 32) × (y < 2 ^ 64)
Typed (moving s) = s < 2 ^ 32
Typed (running n) = n < 2 ^ 32
Typed (collecting s) = s < 2 ^ 32

abbrev pub AllTyped : List Call → Type 0
AllTyped [] = Unit {0}
AllTyped (c ∷ cs) = Typed c × AllTyped cs
