-- Believe: a whole replay: the calls that it makes, what it prints of them, and what the printed lines are worth.
use Rattle.std.specs.Prelude.{ℕ, ◌≡◌, cond, List, [], ◌∷◌, ◌++◌, map, eqb}
use Rattle.machine.specs.State.{Declared, loaded}
use Rattle.machine.specs.Calls.{Call, reading, progress, moving, running, collecting}
use Rattle.runs.specs.Seen.{Seen, AllTyped}
use Rattle.runs.specs.Demand3.{AtRest}
use Rattle.runs.specs.History.{log}
use Rattle.runs.specs.Claim.{next_number, Claim}
use Rattle.calls.specs.Reply.{reply}
use Rattle.trace.specs.declared.Record.{Record}
use Rattle.printer.specs.Print.{event_text}
use Rattle.replaying.specs.declared.Place.TheVariants.{Rest}
use Rattle.replaying.specs.Replay.{call_of, refusal, Prints, start}

-- "Before the first line and after each one it runs to rest, collects all outputs [..]": from a state and the records of a
-- trace, the bytes that are printed and the state at the end; n streams are gone through
pub data Replays (n : ℕ) : List ℕ → List Record → List ℕ → List ℕ → Type 0 where
  ends : {s w t : List ℕ} → Prints n start s w Rest t → Replays n s [] w t
  goes : {s w t : List ℕ} {r : Record} {rs : List Record} {v u : List ℕ} → Prints n start s w Rest t → Replays n (reply (call_of r) t).buffer rs v u
      → Replays n s (r ∷ rs) (w ++ refusal (reply (call_of r) t).number ++ v) u

-- the line that is printed of a call: an event that it handed out, or the number of an offer's refusal
abbrev pub line_in : Call → Seen → List ℕ
line_in (reading s t v) x = refusal x.number
line_in (progress s y) x = refusal x.number
line_in (moving s) x = []
line_in (running n) x = []
line_in (collecting s) x = cond (eqb x.number 0) (event_text s x.stamp x.value) []

unfoldable pub printed_of : List Seen → List ℕ
printed_of [] = []
printed_of (x ∷ xs) = line_in x.made x ++ printed_of xs

-- the calls that are neither a run nor a collect
abbrev pub other_in : Call → List Call
other_in (reading s t v) = reading s t v ∷ []
other_in (progress s y) = progress s y ∷ []
other_in (moving s) = moving s ∷ []
other_in (running n) = []
other_in (collecting s) = []

unfoldable pub others_of : List Call → List Call
others_of [] = []
others_of (c ∷ cs) = other_in c ++ others_of cs

-- What a replay of the records on a plan has printed comes from calls
pub record Told (ds : List Declared) (rs : List Record) (printed : List ℕ) : Type 1 where
  pub calls : List Call
  pub typed : AllTyped calls
  -- that are the offers of the records, each once and in their order, with runs and collects between and nothing else
  pub offers : others_of calls ≡ map call_of rs
  -- whose answers are the printed lines: one for each event handed out and each refused offer, and none besides
  pub lines : printed ≡ printed_of (log calls (loaded ds))
  -- of which demands 2 and 3 hold, and that end at rest: so the events printed of an output are a beginning of the truth, and
  -- are complete as far as the input furthest behind is known
  pub claim : Claim ds calls
  pub rest : AtRest ds (next_number ds calls)
