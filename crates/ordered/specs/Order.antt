-- Believe: the trace that `./order` makes of readings, by rising stamp and then by input, and that its replay loses nothing.
use Rattle.std.specs.Prelude.{ℕ, zero, suc, ◌≤◌, ◌≡◌, Bool, not, cond, ◌&&◌, List, [], ◌∷◌, ◌++◌, ltb, ℤ, length, Option, None, Some}
use Rattle.meaning.specs.Plan.{eqn_at, is_input}
use Rattle.meaning.specs.Events.{Streams, events, has}
use Rattle.machine.specs.State.{Declared, declared_plan}
use Rattle.runs.specs.Seen.{accepted, known}
use Rattle.runs.specs.Demand3.{IsInput}
use Rattle.runs.specs.Claim.{seen}
use Rattle.trace.specs.declared.Record.{Record}
use Rattle.trace.specs.declared.Record.TheVariants.{Reading, Progress}
use Rattle.ordered.specs.Ordered.{raised, Taken}

-- how far each input is known after some records
abbrev pub known_after : (ℕ → ℕ) → List Record → ℕ → ℕ
known_after to [] = to
known_after to (Reading s t v ∷ rs) = known_after (raised to s (suc t)) rs
known_after to (Progress s y ∷ rs) = known_after (raised to s y) rs

abbrev pub is_in : List Declared → ℕ → Bool
is_in ds s = is_input (eqn_at (declared_plan ds) s)

-- a reading, if there is one
abbrev pub given : (s t : ℕ) → Option ℤ → List Record
given s t None = []
given s t (Some v) = Reading s t v ∷ []

-- readings with progress before them, if there are any
abbrev pub led : (progress readings : List Record) → List Record
led progress [] = []
led progress (r ∷ rs) = progress ++ (r ∷ rs)

-- of the streams ds of a plan, with the readings rd of its inputs, at most one at each stamp
module _ (ds : List Declared) (rd : Streams) where
  -- the readings at stamp t, of the n streams from s on
  abbrev pub readings_at : (t s n : ℕ) → List Record
  readings_at t s zero = []
  readings_at t s (suc n) = cond (is_in ds s) (given s t (rd s t)) [] ++ readings_at t (suc s) n

  -- progress to t, of those of them that have none there and are not known so far
  abbrev pub lacks : (ℕ → ℕ) → (t s : ℕ) → Bool
  lacks to t s = is_in ds s && (not (has (rd s t)) && ltb (to s) t)

  abbrev pub progress_at : (ℕ → ℕ) → (t s n : ℕ) → List Record
  progress_at to t s zero = []
  progress_at to t s (suc n) = cond (lacks to t s) (Progress s t ∷ progress_at (raised to s t) t (suc s) n) (progress_at to t (suc s) n)

  -- the lines of a stamp: first progress of the other inputs to it
  abbrev pub stamp_at : (ℕ → ℕ) → ℕ → List Record
  stamp_at to t = led (progress_at to t 0 (length ds)) (readings_at t 0 (length ds))

  -- the lines of all stamps below t
  unfoldable pub trace_to : ℕ → List Record
  trace_to zero = []
  trace_to (suc t) = trace_to t ++ stamp_at (known_after (λ i. 0) (trace_to t)) t

-- the trace of the readings below stamp n, with progress of all inputs to y at the end
abbrev pub order_of : List Declared → Streams → (n y : ℕ) → List Record
order_of ds rd n y = trace_to ds rd n ++ progress_at ds (λ s t. None) (known_after (λ i. 0) (trace_to ds rd n)) y 0 (length ds)

-- what is printed of it comes from a replay that loses nothing
pub record Lossless (ds : List Declared) (rd : Streams) (n y : ℕ) (printed : List ℕ) : Type 1 where
  -- no line is refused
  pub taken : Taken ds (order_of ds rd n y) printed
  -- each input's accepted readings are all its readings below n, and it is known to y or further
  pub readings : (i : ℕ) → IsInput ds i → accepted i (seen ds taken.told.calls) ≡ events (rd i) n
  pub bounds : (i : ℕ) → IsInput ds i → y ≤ known i (seen ds taken.told.calls)
