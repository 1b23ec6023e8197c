-- Believe: what the replay program prints and which state it leaves, call by call.
use Rattle.std.specs.Prelude.{ℕ, zero, suc, ◌+◌, ◌-◌, ◌*◌, ◌^◌, ◌≡◌, Bool, true, false, not, cond, List, [], ◌++◌, eqb, ltb}
use Rattle.le.specs.Bytes.{part}
use Rattle.layout.specs.Record.{num, out_f, dec_raw}
use Rattle.machine.specs.Reach.{least}
use Rattle.machine.specs.Calls.{Call, reading, progress, running, collecting}
use Rattle.calls.specs.Reply.{Reply, reply}
use Rattle.trace.specs.declared.Record.{Record}
use Rattle.trace.specs.declared.Record.TheVariants.{Reading, Progress}
use Rattle.decimal.specs.Put.{Put}
use Rattle.printer.specs.Print.{event_text, refused_text}
use Rattle.replaying.specs.declared.Place.{Place}
use Rattle.replaying.specs.declared.Place.TheVariants.{Run, Collect, Rest}
use Rattle.replaying.specs.declared.Stand.{Stand}

-- ## A line: "Each record goes on to an offer"

abbrev pub call_of : Record → Call
call_of (Reading stream stamp value) = reading stream stamp value
call_of (Progress stream bound) = progress stream bound

-- "a refused offer prints it and goes on"
abbrev pub refusal : ℕ → List ℕ
refusal zero = []
refusal (suc n) = refused_text (suc n)

-- ## After a line: "it runs to rest, collects all outputs, lowest stream first and oldest first, printing each event, and
-- repeats until nothing moves or waits"

-- what one call leads to: where the replay stands, what is printed, and the state that is left
pub record Turn : Type 0 where
  pub place : Place
  pub printed : List ℕ
  pub state : List ℕ

abbrev pub turn : Place → List ℕ → List ℕ → Turn
turn place printed state = record { place = place; printed = printed; state = state }

-- whether stream i is an output, by the state's byte `out` (docs/LAYOUT.md)
abbrev pub is_output : List ℕ → ℕ → Bool
is_output s i = not (eqb (num out_f (dec_raw (part s (i * 256) 256))) 0)

-- of n streams the lowest output at or above a stream, n if there is none
unfoldable pub next_output : ℕ → ℕ → List ℕ → ℕ
unfolding least
next_output n from s = least (is_output s) from (n - from)

-- past the last output, "repeats until nothing moves or waits": after a round that handed out something
abbrev pub round_after : Bool → Place
round_after true = Run
round_after false = Rest

-- "collects all outputs, lowest stream first": goes to the next one from a stream on
unfoldable pub to_output : ℕ → ℕ → Bool → List ℕ → Place
unfolding next_output
to_output n from busy s = cond (ltb (next_output n from s) n) (Collect (next_output n from s) busy) (round_after busy)

-- the most moves that one run is asked for
abbrev pub all_moves : ℕ
all_moves = 2 ^ 32 - 1

-- "runs to rest": until a run makes fewer moves than it was asked for
abbrev pub ran : ℕ → Reply → Turn
ran n r = cond (ltb r.moves all_moves) (turn (to_output n 0 false r.buffer) [] r.buffer) (turn Run [] r.buffer)

-- "oldest first, printing each event": until nothing waits
unfoldable pub collected : ℕ → ℕ → Bool → Reply → Turn
collected n stream busy r =
    cond (eqb r.number 0)
    (turn (Collect stream true) (event_text stream r.stamp r.value) r.buffer)
    (turn (to_output n (stream + 1) busy r.buffer) [] r.buffer)

unfoldable pub step : ℕ → Place → List ℕ → Turn
step n Run s = ran n (reply (running all_moves) s)
step n (Collect stream busy) s = collected n stream busy (reply (collecting stream) s)
step n Rest s = turn Rest [] s

-- from a place and a state, the bytes that are printed on the way to another
pub data Prints (n : ℕ) : Place → List ℕ → List ℕ → Place → List ℕ → Type 0 where
  here : {p : Place} {s : List ℕ} → Prints n p s [] p s
  on : {p : Place} {s w : List ℕ} {q : Place} {t : List ℕ} → Prints n (step n p s).place (step n p s).state w q t → Prints n p s ((step n p s).printed ++ w) q t

-- "Before the first line and after each one"
abbrev pub start : Place
start = Run

-- ## What a function that makes one call is promised to do with the lent buffers: o and o' hold what is printed, s' the state

pub record Turned (x : Turn) (o : List ℕ) (at : ℕ) (r : Stand) (o' s' : List ℕ) : Type 0 where
  pub place : r.place ≡ x.place
  pub put : Put o at x.printed r.end o'
  pub state : s' ≡ x.state
