-- Believe: the same histories with the machine: which state the bytes are, and demand 2 of it.
use Rattle.std.specs.Prelude.{ℕ, ◌≡◌, List, map, length, Option, None, Some}
use Rattle.machine.specs.State.{Declared, loaded}
use Rattle.machine.specs.Calls.{Call, call, missing}
use Rattle.runs.specs.Seen.{Seen}
use Rattle.runs.specs.History.{log}
use Rattle.runs.specs.Claim.{final, Claim}
use Rattle.operators.specs.Limits.{capacity}
use Rattle.encoding.specs.View.{bytes_of}
use Rattle.plan.specs.Taken.{KeepsRules}
use Rattle.calls.specs.Reply.{reply_of, reply}
use Rattle.counts.specs.Missing.{missing_reply}
use Rattle.histories.specs.Demands.{Course}

-- the calls of a list
abbrev pub calls_of : List Seen → List Call
calls_of seen = map (λ y. y.made) seen

-- of the calls cs after a load of the streams ds, what was seen of them, and the bytes that they left
pub record Inside (ds : List Declared) (cs : List Call) (seen : List Seen) (b : List ℕ) : Type 1 where
  pub rules : KeepsRules (capacity (length b)) ds
  -- the bytes are the machine's state after the calls, and what was seen is what the machine's calls give
  pub bytes : b ≡ bytes_of (length b) (final ds cs)
  pub logged : seen ≡ log cs (loaded ds)
  -- the next call is answered from that state
  pub answers : (c : Call) → reply c b ≡ reply_of (length b) (call c (final ds cs))
  -- and so are the counts of each stream
  pub counts : (s : ℕ) → missing_reply s b ≡ missing s (final ds cs)
  -- demands 2 and 3 of these calls
  pub claim : Claim ds cs

abbrev pub InsideAt : Option Course → List ℕ → Type 1
InsideAt None b = Unit {1}
InsideAt (Some x) b = Inside x.plan (calls_of x.seen) x.seen b
