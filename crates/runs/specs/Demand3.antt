-- Believe: Demand 3, of a plan, what the caller of a list of calls has seen, and the numbers that a next call would return.
use Rattle.std.specs.Prelude.{ℕ, ◌≤◌, ◌<◌, ◌≡◌, Bool, false, not, List, ◌++◌, T, length, get_or, ℤ}
use Rattle.meaning.specs.Plan.{nil, eqn_at, is_input}
use Rattle.meaning.specs.Events.{Event, Streams, found, events, horizon}
use Rattle.machine.specs.State.{Declared, declared_plan}
use Rattle.machine.specs.Calls.{Call, reading, moving, collecting}
use Rattle.runs.specs.Seen.{Seen, accepted, known, handed}

-- the inputs, the equations and the outputs of a plan
abbrev pub IsInput : List Declared → ℕ → Type 0
IsInput ds s = (s < length ds) × T (is_input (eqn_at (declared_plan ds) s))

abbrev pub IsEquation : List Declared → ℕ → Type 0
IsEquation ds s = (s < length ds) × T (not (is_input (eqn_at (declared_plan ds) s)))

-- a stream that the plan does not have is none
abbrev pub is_out : List Declared → ℕ → Bool
is_out ds s = (get_or ds s (record { eqn = nil; out = false })).out

abbrev pub IsOutput : List Declared → ℕ → Type 0
IsOutput ds s = T (is_out ds s)

-- "The definition is fed the plan and the accepted readings"
abbrev pub readings_seen : List Seen → Streams
readings_seen seen i = found (accepted i seen)

-- "They are a beginning if, n in number, they equal in stamp and value the first n of the definition's events of that
-- output by rising stamp."
abbrev pub Beginning : List Event → List Event → Type 0
Beginning given all = (rest : List Event) × (all ≡ given ++ rest)

-- "Furthest behind is any input known no further than each of the others."
pub record FurthestBehind (ds : List Declared) (seen : List Seen) (i : ℕ) : Type 0 where
  pub is_input : IsInput ds i
  pub least : (j : ℕ) → IsInput ds j → known i seen ≤ known j seen

-- "No equation can move and all is collected if, on the state after the list, a move of each equation would return 12 and a
-- collect of each output 14."
pub record AtRest (ds : List Declared) (number : Call → ℕ) : Type 0 where
  pub moved : (s : ℕ) → IsEquation ds s → number (moving s) ≡ 12
  pub collected : (s : ℕ) → IsOutput ds s → number (collecting s) ≡ 14

-- of the solution S for the accepted readings; `number` is what a call on the state after the list would return
pub record Demand3 (ds : List Declared) (seen : List Seen) (number : Call → ℕ) (S : Streams) : Type 0 where
  -- "After the list the events handed out of each output are a beginning of what the definition gives for the accepted
  -- readings"
  pub beginning : (s : ℕ) → IsOutput ds s → Beginning (handed s seen) (events (S s) horizon)
  -- "Whenever no equation can then move and all is collected, every event that the definition gives of each output below the
  -- stamp to which the input furthest behind is known has been handed out"
  pub complete : AtRest ds number → (i : ℕ) → FurthestBehind ds seen i → (s : ℕ) → IsOutput ds s → Beginning (events (S s) (known i seen)) (handed s seen)
  -- "and no reading offered next to that input is refused for lack of space": "never 9"
  pub space : AtRest ds number → (i : ℕ) → FurthestBehind ds seen i → (t : ℕ) (v : ℤ) → number (reading i t v) ≡ 9 → ⊥
  -- "With no inputs, every event of each output up to the last stamp has then been handed out."
  pub alone : AtRest ds number → ((i : ℕ) → IsInput ds i → ⊥) → (s : ℕ) → IsOutput ds s → handed s seen ≡ events (S s) horizon
