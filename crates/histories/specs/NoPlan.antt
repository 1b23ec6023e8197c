-- Believe: a card without a plan: what the text of no bytes leaves, and what every call on that answers.
use Rattle.std.specs.Prelude.{ℕ, ◌≡◌, List, [], length, get_or, replicate}
use Rattle.machine.specs.Calls.{Call, reading, progress, moving, running, collecting, no_counts}
use Rattle.calls.specs.Reply.{plain, not_state, reply}
use Rattle.counts.specs.Missing.{missing_reply}
use Rattle.engine.specs.Load.{load_reply}

-- so many bytes, each 0
abbrev pub zeros : ℕ → List ℕ
zeros size = replicate size 0

-- "Offers then give 7, moves 11, collecting 13."; a run is done and makes no move, "at rest from the start"
abbrev pub answer : Call → ℕ
answer (reading s t v) = 7
answer (progress s y) = 7
answer (moving s) = 11
answer (running n) = 0
answer (collecting s) = 13

-- of a buffer of so many bytes, a length that states have
pub record NoPlan (size : ℕ) : Type 0 where
  -- "An empty plan text now means a plan of no streams": load takes it and leaves zeros, whatever was there
  pub loads : (s : List ℕ) → length s ≡ size → load_reply [] s ≡ plain 0 (zeros size)
  -- and no other text that load takes leaves zeros
  pub text_alone : (text s : List ℕ) → length s ≡ size → load_reply text s ≡ plain 0 (zeros size) → text ≡ []
  -- every call leaves the zeros, and all its results are 0
  pub answers : (c : Call) → reply c (zeros size) ≡ plain (answer c) (zeros size)
  -- no stream is there to have counts
  pub counts : (i : ℕ) → missing_reply i (zeros size) ≡ no_counts 11
  -- any other bytes that begin with 0 are no state: 15
  pub zeros_alone : (c : Call) (s : List ℕ) → length s ≡ size → get_or s 0 0 ≡ 0 → (s ≡ zeros size → ⊥) → reply c s ≡ not_state s
