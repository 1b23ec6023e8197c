-- Believe: a state copied into a longer buffer goes on there from the same point: whatever is then done to both, they answer alike.
use Rattle.std.specs.Prelude.{ℕ, ◌≡◌, true, List, [], ◌∷◌, length, Option}
use Rattle.le.specs.Bytes.{Bytes}
use Rattle.machine.specs.State.{State}
use Rattle.machine.specs.Calls.{Call}
use Rattle.operators.specs.Limits.{state_length, long_length, stream_limit}
use Rattle.encoding.specs.View.{bytes_of}
use Rattle.encoding.specs.Sound.{Sound}
use Rattle.valid.specs.Valid.{valid}
use Rattle.plan.specs.Rules.{number}
use Rattle.calls.specs.Reply.{reply}
use Rattle.writing.specs.Text.{plan_text}
use Rattle.counts.specs.Missing.{missing_reply}
use Rattle.widen.specs.Widen.{widen_reply}
use Rattle.registers.specs.Write.{write}
use Rattle.engine.specs.Load.{load_reply}
use Rattle.histories.specs.Demands.{Act, load, make, ask_text, ask_missing, widen, write_to, put_back, Course, Point, seen_in, point_from, AllTypedActs}

-- the shorter bytes s and the longer bytes w are those of one state of the machine
pub record Longer (s w : List ℕ) : Type 0 where
  pub state : State
  pub sound : Sound stream_limit state
  pub short : s ≡ bytes_of state_length state
  pub long : w ≡ bytes_of long_length state

-- the number and the results of every call but a further copy, which takes the shorter alone, are the same on both
pub record Alike (s w : List ℕ) : Type 0 where
  pub calls : (c : Call) → seen_in c (reply c s) ≡ seen_in c (reply c w)
  pub text : (lent : List ℕ) → plan_text s lent ≡ plan_text w lent
  pub counts : (i : ℕ) → missing_reply i s ≡ missing_reply i w
  pub writes : (b : List ℕ) (at x : ℕ) → Bytes b → ((write s b at x).number ≡ (write w b at x).number) × ((write s b at x).block ≡ (write w b at x).block)
  -- of a load too, unless the shorter has no room for the streams of its text: 3
  pub loads : (text : List ℕ) → ((load_reply text s).number ≡ 3 → ⊥) → (load_reply text s).number ≡ (load_reply text w).number

-- what may be done to both: all but a load that the shorter refuses 3, whatever it holds, and a copy of the shorter alone
abbrev pub OnBoth : Act → Type 0
OnBoth (load text) = number stream_limit text ≡ 3 → ⊥
OnBoth (make c) = Unit {0}
OnBoth (ask_text b) = Unit {0}
OnBoth (ask_missing i) = Unit {0}
OnBoth (widen t) = ⊥
OnBoth (write_to b at x) = Unit {0}
OnBoth (put_back k) = Unit {0}

abbrev pub AllOnBoth : List Act → Type 0
AllOnBoth [] = Unit {0}
AllOnBoth (a ∷ acts) = OnBoth a × AllOnBoth acts

-- a history that goes on with the bytes s, the list so far being o
abbrev pub going : List Act → List ℕ → Option Course → Point
going acts s o = point_from acts [] (record { bytes = s; course = o })

pub record GoesOn : Type 0 where
  -- every state of the shorter length can be copied into every buffer of the longer
  pub taken : (s t : List ℕ) → length s ≡ state_length → valid s ≡ true → length t ≡ long_length → (widen_reply s t).number ≡ 0
  -- "goes on from the same point"
  pub same : (s t : List ℕ) → Bytes s → (widen_reply s t).number ≡ 0 → Longer s (widen_reply s t).buffer
  -- and whatever is done to both then, they stay two forms of one state and answer alike
  pub still : (s w : List ℕ) (o : Option Course) → Longer s w → (acts : List Act) → AllTypedActs acts → AllOnBoth acts → Longer (going acts s o).bytes (going acts w o).bytes
  pub course : (s w : List ℕ) (o : Option Course) → Longer s w → (acts : List Act) → AllTypedActs acts → AllOnBoth acts → (going acts s o).course ≡ (going acts w o).course
  pub alike : (s w : List ℕ) → Longer s w → Alike s w
