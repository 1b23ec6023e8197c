-- Believe: a trace in an order that loses nothing, as `./order` makes it, and what its replay is worth: no line of it is refused.
use Rattle.std.specs.Prelude.{ℕ, suc, ◌+◌, ◌≤◌, ◌<◌, ◌≡◌, cond, List, [], ◌∷◌, ◌++◌, map, eqb, ℤ}
use Rattle.meaning.specs.Events.{Event, horizon}
use Rattle.machine.specs.State.{Declared, room}
use Rattle.machine.specs.Calls.{Call, reading, progress, moving, running, collecting}
use Rattle.runs.specs.Seen.{Seen, reading_of, bound_of, accepted, known}
use Rattle.runs.specs.Demand3.{IsInput}
use Rattle.runs.specs.Claim.{seen}
use Rattle.trace.specs.declared.Record.{Record}
use Rattle.trace.specs.declared.Record.TheVariants.{Reading, Progress}
use Rattle.printer.specs.Print.{event_text}
use Rattle.replaying.specs.Replay.{call_of}
use Rattle.replaying.specs.Session.{Told}

-- ## In order, of the streams ds of a plan, where each input is known as far as `to` says

-- input s is known to y, the others as before
abbrev pub raised : (ℕ → ℕ) → (s y : ℕ) → ℕ → ℕ
raised to s y i = cond (eqb s i) y (to i)

-- no input is 16 stamps or more behind s: at rest s holds only events that some input is not known past, so fewer than 16
abbrev pub Near : List Declared → (ℕ → ℕ) → ℕ → Type 0
Near ds to s = (j : ℕ) → IsInput ds j → to s < to j + room

abbrev pub Ordered : List Declared → (ℕ → ℕ) → List Record → Type 0
Ordered ds to [] = Unit {0}
-- a reading comes no earlier than its input is known to, and with all other inputs near
Ordered ds to (Reading s t v ∷ rs) = IsInput ds s × (to s ≤ t) × Near ds to s × Ordered ds (raised to s (suc t)) rs
-- progress does not go back, nor past the horizon
Ordered ds to (Progress s y ∷ rs) = IsInput ds s × (to s ≤ y) × (y ≤ horizon) × Ordered ds (raised to s y) rs

-- from the first line on: nothing is known
abbrev pub InOrder : List Declared → List Record → Type 0
InOrder ds rs = Ordered ds (λ i. 0) rs

-- ## What is printed of it

-- the readings that offers bring to input i, and how far they take it from y
abbrev pub readings_of : ℕ → List Call → List Event
readings_of i [] = []
readings_of i (c ∷ cs) = reading_of i c ++ readings_of i cs

abbrev pub bound_from : ℕ → ℕ → List Call → ℕ
bound_from y i [] = y
bound_from y i (c ∷ cs) = bound_from (bound_of i c y) i cs

-- an offer is done
abbrev pub DoneIn : Call → ℕ → Type 0
DoneIn (reading s t v) number = number ≡ 0
DoneIn (progress s y) number = number ≡ 0
DoneIn (moving s) number = Unit {0}
DoneIn (running n) number = Unit {0}
DoneIn (collecting s) number = Unit {0}

abbrev pub OffersDone : List Seen → Type 0
OffersDone [] = Unit {0}
OffersDone (x ∷ xs) = DoneIn x.made x.number × OffersDone xs

-- the lines of events alone
pub data EventLines : List ℕ → Type 0 where
  none : EventLines []
  event : (s t : ℕ) (v : ℤ) {w : List ℕ} → EventLines w → EventLines (event_text s t v ++ w)

-- a replay of the records that takes them all
pub record Taken (ds : List Declared) (rs : List Record) (printed : List ℕ) : Type 1 where
  pub told : Told ds rs printed
  -- no offer of it is refused
  pub done : OffersDone (seen ds told.calls)
  -- so all readings are accepted, in their order, and each input is known as far as the records tell
  pub readings : (i : ℕ) → accepted i (seen ds told.calls) ≡ readings_of i (map call_of rs)
  pub bounds : (i : ℕ) → known i (seen ds told.calls) ≡ bound_from 0 i (map call_of rs)
  -- and no line that is printed is a refusal
  pub lines : EventLines printed
