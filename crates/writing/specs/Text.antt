-- Believe: the plan of a state as text in a lent buffer: the number, the length, and the buffer that is left.
use Rattle.std.specs.Prelude.{ℕ, cond, List, ◌++◌, ltb, length, drop}
use Rattle.machine.specs.State.{declared_in}
use Rattle.render.specs.Render.{render}
use Rattle.valid.specs.Valid.{valid}
use Rattle.roundtrip.specs.In.{state_in}

-- the number and the length that the call returns, and the buffer that it leaves
pub record TextReply : Type 0 where
  pub number : ℕ
  pub length : ℕ
  pub buffer : List ℕ

-- a refusal: the length is 0, and the buffer stays
abbrev pub no_text : ℕ → List ℕ → TextReply
no_text k b = record { number = k; length = 0; buffer = b }

-- the text from the first byte on: "Bytes after the text stay."
abbrev pub text_there : List ℕ → List ℕ → TextReply
text_there w b = record { number = 0; length = length w; buffer = w ++ drop (length w) b }

-- "19, buffer too short for this text"
unfoldable pub given : List ℕ → List ℕ → TextReply
given w b = cond (ltb (length b) (length w)) (no_text 19 b) (text_there w b)

-- "the plan of a state as text"
abbrev pub text_in : List ℕ → List ℕ
text_in s = render (declared_in (state_in s))

-- 15 comes first: "after 15"
unfoldable pub plan_text : List ℕ → List ℕ → TextReply
plan_text s b = cond (valid s) (given (text_in s) b) (no_text 15 b)
