-- Believe: "Any sequence of register writes leaves the engine as the same direct calls would."
use Rattle.std.specs.Prelude.{ℕ, ◌≡◌, cond, List, [], ◌∷◌, ◌++◌}
use Rattle.machine.specs.Calls.{Call}
use Rattle.calls.specs.Reply.{left_by, numbers_by}
use Rattle.registers.specs.Write.{call_in, write, starts}

-- one write: its place and its byte
pub record Byte : Type 0 where
  pub at : ℕ
  pub byte : ℕ

-- of writes one after the other, on the state s and the block b: the state that they leave,
unfoldable pub state_after : List Byte → List ℕ → List ℕ → List ℕ
state_after [] s b = s
state_after (x ∷ xs) s b = let w = write s b x.at x.byte in state_after xs w.state w.block

-- the calls that they start, each with the numbers of the block as it then is,
unfoldable pub calls_of : List Byte → List ℕ → List ℕ → List Call
calls_of [] s b = []
calls_of (x ∷ xs) s b =
    let w = write s b x.at x.byte in
    cond (starts b x.at x.byte) (call_in b x.byte ∷ []) [] ++ calls_of xs w.state w.block

-- and the numbers that the commands among them return
unfoldable pub numbers_of : List Byte → List ℕ → List ℕ → List ℕ
numbers_of [] s b = []
numbers_of (x ∷ xs) s b =
    let w = write s b x.at x.byte in
    cond (starts b x.at x.byte) (w.number ∷ []) [] ++ numbers_of xs w.state w.block

-- any writes, on any state bytes and any block
pub record SameAsCalls : Type 0 where
  pub state : (xs : List Byte) (s b : List ℕ) → state_after xs s b ≡ left_by s (calls_of xs s b)
  pub numbers : (xs : List Byte) (s b : List ℕ) → numbers_of xs s b ≡ numbers_by s (calls_of xs s b)
