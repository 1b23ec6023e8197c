-- Believe: what a replay of a plan text and a trace text prints, whole.
use Rattle.std.specs.Prelude.{ℕ, suc, ◌≡◌, List, [], ◌∷◌, ◌++◌, length, drop, Option, Some, None}
use Rattle.operators.specs.Limits.{capacity}
use Rattle.calls.specs.Reply.{reply}
use Rattle.engine.specs.Load.{load_reply}
use Rattle.trace.specs.declared.Record.{Record}
use Rattle.trace.specs.Trace.{line}
use Rattle.printer.specs.Print.{refused_text}
use Rattle.replaying.specs.Replay.{call_of, refusal}
use Rattle.replaying.specs.Session.{Replays}

-- the number of what reading a line finds
abbrev pub line_number : Option (Record × ℕ) → ℕ
line_number (Some (r, next)) = 0
line_number None = 16

-- what is printed of a line, on a state, and the state that it leaves: "Each record goes on to an offer only where its line could
-- be read"
abbrev pub line_text : Option (Record × ℕ) → List ℕ → List ℕ
line_text (Some (r, next)) s = refusal (reply (call_of r) s).number
line_text None s = refused_text (line_number None)

abbrev pub line_state : Option (Record × ℕ) → List ℕ → List ℕ
line_state (Some (r, next)) s = (reply (call_of r) s).buffer
line_state None s = s

-- a trace, the records of its first lines in their order, and what stands behind those lines
pub data Lines : List ℕ → List Record → List ℕ → Type 0 where
  none : {rest : List ℕ} → Lines rest [] rest
  more : {trace : List ℕ} {r : Record} {next : ℕ} {rs : List Record} {rest : List ℕ} → line trace 0 ≡ Some (r, next) → Lines (drop next trace) rs rest → Lines trace (r ∷ rs) rest

-- where a replay stops, and what it prints there: nothing at the trace's end; "a bad line prints `refused=16` and ends"
pub data Stops : List ℕ → List ℕ → Type 0 where
  end : Stops [] []
  bad : {c : ℕ} {rest : List ℕ} → line (c ∷ rest) 0 ≡ None → Stops (c ∷ rest) (refused_text (line_number None))

-- of a plan and a trace, with a buffer for the state: the bytes that are printed, and the state at the end
pub data Printed (plan trace s : List ℕ) : List ℕ → List ℕ → Type 0 where
  -- "A refused plan prints its number so and ends"
  refused : {n : ℕ} → (load_reply plan s).number ≡ suc n → Printed plan trace s (refused_text (suc n)) (load_reply plan s).buffer
  -- else it settles, and settles after each record, up to where the lines stop
  played : {rs : List Record} {rest w t v : List ℕ} → (load_reply plan s).number ≡ 0 → Lines trace rs rest → Replays (capacity (length s)) (load_reply plan s).buffer rs w t → Stops rest v → Printed plan trace s (w ++ v) t
