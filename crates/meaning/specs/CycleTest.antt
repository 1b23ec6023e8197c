-- How: the test of the cycle rule, as load makes it.
use Rattle.std.specs.Prelude.{ℕ, zero, suc, Bool, true, false, cond, ◌||◌, List, [], ◌∷◌, eqb, length, Option, None, Some}
use Rattle.meaning.specs.Plan.{Plan, eqn_at}
use Rattle.meaning.specs.Arguments.{undelayed}

-- "This is tested by following undelayed arguments from stream to stream, at most 32 deep. A stream once found clear is
-- not followed again." The streams found clear are marked.
abbrev pub Marks : Type 0
Marks = ℕ → Bool

abbrev pub marked : ℕ → Marks → Marks
marked s m i = eqb i s || m i

abbrev pub then_marked : ℕ → Option Marks → Option Marks
then_marked s None = None
then_marked s (Some m) = Some (marked s m)

-- one stream after the other; none: a stream was not found clear
unfoldable pub visits : (ℕ → Marks → Option Marks) → List ℕ → Marks → Option Marks
visits f [] m = Some m
visits f (a ∷ rest) m = elim (f a m) [ None ↦ None | Some k ↦ visits f rest k ]

-- stream s is followed, with this depth left
unfoldable pub visit : Plan → ℕ → ℕ → Marks → Option Marks
unfolding visits
visit plan zero s m = cond (m s) (Some m) None
visit plan (suc d) s m = cond (m s) (Some m) (then_marked s (visits (λ a. visit plan d a) (undelayed (eqn_at plan s)) m))

-- the streams below n, from the last on
unfoldable pub down_from : ℕ → List ℕ
down_from zero = []
down_from (suc n) = n ∷ down_from n

abbrev pub is_some : Option Marks → Bool
is_some None = false
is_some (Some m) = true

-- the test of a whole plan, this deep
unfoldable pub acyclic : ℕ → Plan → Bool
unfolding visit visits down_from
acyclic depth plan = is_some (visits (visit plan depth) (down_from (length plan)) (λ s. false))
