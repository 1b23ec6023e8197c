-- Believe: the plan text of any state, of a run or not, read again: load takes it and leaves the fresh state of the same plan.
use Rattle.std.specs.Prelude.{ℕ, ◌≤◌, ◌≡◌, true, List, length, take}
use Rattle.le.specs.Bytes.{Bytes}
use Rattle.machine.specs.State.{declared_in, loaded}
use Rattle.operators.specs.Limits.{text_limit}
use Rattle.encoding.specs.View.{bytes_of}
use Rattle.valid.specs.Valid.{valid}
use Rattle.roundtrip.specs.In.{state_in}
use Rattle.writing.specs.Text.{TextReply, plan_text}
use Rattle.engine.specs.Load.{load_reply}

-- what the call wrote: as many bytes of the buffer as it says
abbrev pub written : TextReply → List ℕ
written r = take r.length r.buffer

-- "Reading that text gives the same plan": by a load of the text w, written for the state s, into the buffer t
pub record Reads (s w t : List ℕ) : Type 0 where
  pub taken : (load_reply w t).number ≡ 0
  -- "a fresh state, all bounds 0"
  pub fresh : (load_reply w t).buffer ≡ bytes_of (length s) (loaded (declared_in (state_in s)))
  pub same : declared_in (state_in (load_reply w t).buffer) ≡ declared_in (state_in s)
  -- and what is written for it is what was written for s
  pub again : (lent : List ℕ) → plan_text (load_reply w t).buffer lent ≡ plan_text s lent

pub record ReadsBack : Type 0 where
  pub reads : (s lent t : List ℕ) → Bytes s → (plan_text s lent).number ≡ 0 → length t ≡ length s → Reads s (written (plan_text s lent)) t
  -- a buffer as long as a plan text may be is long enough for every state
  pub fits : (s lent : List ℕ) → Bytes s → valid s ≡ true → text_limit ≤ length lent → (plan_text s lent).number ≡ 0
