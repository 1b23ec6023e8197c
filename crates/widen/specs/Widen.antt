-- Believe: what the call that copies a state into a longer buffer answers, and what it leaves there.
use Rattle.std.specs.Prelude.{ℕ, Bool, cond, ◌&&◌, List, eqb, length}
use Rattle.operators.specs.Limits.{state_length, long_length}
use Rattle.encoding.specs.View.{bytes_of}
use Rattle.valid.specs.Valid.{valid}
use Rattle.roundtrip.specs.In.{state_in}

-- its number, and the bytes of the buffer that was to be filled. The source is lent for reading alone.
pub record WidenReply : Type 0 where
  pub number : ℕ
  pub buffer : List ℕ

-- a state of the shorter length, and a buffer of the longer, whatever it holds: "15 for other lengths"
abbrev pub can_widen : List ℕ → List ℕ → Bool
can_widen s t = eqb (length s) state_length && (eqb (length t) long_length && valid s)

-- "a call copies one into a 20,480-byte buffer where it goes on from the same point": the bytes of the same state of the machine
unfoldable pub widen_reply : List ℕ → List ℕ → WidenReply
widen_reply s t =
    cond (can_widen s t)
    (record { number = 0; buffer = bytes_of long_length (state_in s) })
    (record { number = 15; buffer = t })
