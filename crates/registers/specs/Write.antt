-- Believe: what the write of one byte to the reader board's block does: the number that it returns, the block and the state that
-- it leaves.
use Rattle.std.specs.Prelude.{ℕ, Bool, false, cond, ◌&&◌, ◌||◌, List, eqb, ltb, leb, length, set}
use Rattle.meaning.specs.Table.{any_below}
use Rattle.machine.specs.Calls.{Call, reading, running, collecting}
use Rattle.operators.specs.Limits.{most_streams}
use Rattle.block.specs.Block.{block_length, stream_in, stamp_in, value_in, command_at, flags_at, mask_at, flags_in, filled, cleared, ended}
use Rattle.calls.specs.Reply.{Reply, reply}

-- the number that a write returns, and the block and the state that it leaves
pub record Written : Type 0 where
  pub number : ℕ
  pub block : List ℕ
  pub state : List ℕ

-- ---- a command

-- "a command other than 1 to 3" is refused
abbrev pub is_command : ℕ → Bool
is_command x = leb 1 x && leb x 3

-- "Command 1 offers the reading, 2 collects (value and reply stamp are filled, or stay if refused), 3 runs 64 moves": the call, with
-- the block's numbers
unfoldable pub call_in : List ℕ → ℕ → Call
call_in b x = cond (eqb x 1) (reading (stream_in b) (stamp_in b) (value_in b)) (cond (eqb x 2) (collecting (stream_in b)) (running 64))

-- what the call's answer puts into the block
unfoldable pub answered : ℕ → Reply → List ℕ → List ℕ
answered x r b = cond (eqb x 2 && eqb r.number 0) (filled r.stamp r.value b) b

-- an output waits: some collect would be done. In bytes that are no state none would, each is 15
unfoldable pub waiting : List ℕ → Bool
waiting s = any_below most_streams (λ i. eqb (reply (collecting i) s).number 0)

-- "status takes the call's number, which the write returns too"
unfoldable pub commanded : List ℕ → List ℕ → ℕ → Written
commanded s b x =
    let r = reply (call_in b x) s in
    record { number = r.number; block = ended r.number (waiting r.buffer) (set (answered x r b) command_at x); state = r.buffer }

-- ---- a write

-- "only status and flag bit 0 change"
abbrev pub refused : List ℕ → List ℕ → Written
refused s b = record { number = 17; block = ended 17 false b; state = s }

-- "any other that starts no command 0"
abbrev pub stored : List ℕ → List ℕ → Written
stored s b = record { number = 0; block = b; state = s }

abbrev pub write_in : List ℕ → List ℕ → ℕ → ℕ → Written
write_in s b at x =
    cond (eqb at command_at) (cond (is_command x) (commanded s b x) (refused s b))
    (cond (eqb at flags_at) (stored s (set b flags_at (cleared (flags_in b) x)))
    (cond (ltb at command_at || eqb at mask_at) (stored s (set b at x))
    (refused s b)))

-- "17, a block not 24 bytes long (it stays unchanged)"
unfoldable pub write : List ℕ → List ℕ → ℕ → ℕ → Written
write s b at x = cond (eqb (length b) block_length) (write_in s b at x) (record { number = 17; block = b; state = s })

-- whether a write starts a command: then it counts as that call, and else as none
abbrev pub starts : List ℕ → ℕ → ℕ → Bool
starts b at x = eqb (length b) block_length && (eqb at command_at && is_command x)
