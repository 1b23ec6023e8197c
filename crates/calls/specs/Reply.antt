-- Believe: what every call but load answers, and the buffer that it leaves: 15, or the machine's outcome on the state that the
-- bytes give.
use Rattle.std.specs.Prelude.{ℕ, cond, List, [], ◌∷◌, ℤ, pos, length}
use Rattle.machine.specs.Calls.{Call, Outcome, call}
use Rattle.encoding.specs.View.{bytes_of}
use Rattle.valid.specs.Valid.{valid}
use Rattle.roundtrip.specs.In.{state_in}

-- the number and the results that a call returns, and the buffer that it leaves
pub record Reply : Type 0 where
  pub number : ℕ
  pub moves : ℕ
  pub stamp : ℕ
  pub value : ℤ
  pub buffer : List ℕ

-- a number alone: all results are 0
abbrev pub plain : ℕ → List ℕ → Reply
plain k s = record { number = k; moves = 0; stamp = 0; value = pos 0; buffer = s }

-- done, with an event handed out
abbrev pub handing : ℕ → ℤ → List ℕ → Reply
handing t v s = record { number = 0; moves = 0; stamp = t; value = v; buffer = s }

-- the machine's outcome, in a buffer of this many bytes
abbrev pub reply_of : ℕ → Outcome → Reply
reply_of size o = record { number = o.number; moves = o.moves; stamp = o.stamp; value = o.value; buffer = bytes_of size o.state }

-- what a call answers on bytes that are a state
unfoldable pub reply_in : Call → List ℕ → Reply
reply_in c s = reply_of (length s) (call c (state_in s))

-- "Number 15 comes before the others": all results are 0, and the buffer stays
abbrev pub not_state : List ℕ → Reply
not_state s = plain 15 s

unfoldable pub reply : Call → List ℕ → Reply
reply c s = cond (valid s) (reply_in c s) (not_state s)

-- ---- calls one after the other

-- the bytes that they leave
unfoldable pub left_by : List ℕ → List Call → List ℕ
left_by s [] = s
left_by s (c ∷ cs) = left_by (reply c s).buffer cs

-- the numbers that they return
unfoldable pub numbers_by : List ℕ → List Call → List ℕ
numbers_by s [] = []
numbers_by s (c ∷ cs) = (reply c s).number ∷ numbers_by (reply c s).buffer cs
