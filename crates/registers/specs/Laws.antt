-- Believe: what a write sets, clears and leaves: the flags, and all else after a refusal.
use Rattle.std.specs.Prelude.{ℕ, ◌≤◌, ◌<◌, ◌≡◌, ◌↔◌, true, false, List, length, get_or}
use Rattle.le.specs.Bytes.{Bytes}
use Rattle.machine.specs.Calls.{collecting}
use Rattle.block.specs.Block.{block_length, command_at, status_at, flags_at, flags_in, value_in, reply_stamp_in, bit}
use Rattle.calls.specs.Reply.{reply}
use Rattle.registers.specs.Write.{Written, call_in, waiting, write, starts}

-- some stream has an event to be collected
abbrev pub Waits : List ℕ → Type 0
Waits s = (i : ℕ) × ((reply (collecting i) s).number ≡ 0)

-- the flags of a block of 24 bytes after a write, w being what it gives
pub record Flags (b : List ℕ) (at x : ℕ) (w : Written) : Type 0 where
  -- "When a command or a refused write ends, flag bit 0 is set if status isn't 0."
  pub failed : (w.number ≡ 0 → ⊥) → bit 0 (flags_in w.block) ≡ true
  -- "When a command from 1 to 3 ends, bit 1 is set if an output waits in a state that is not refused 15."
  pub waits : starts b at x ≡ true → Waits w.state → bit 1 (flags_in w.block) ≡ true
  -- "Nothing else sets a flag."
  pub failed_only : bit 0 (flags_in b) ≡ false → bit 0 (flags_in w.block) ≡ true → w.number ≡ 0 → ⊥
  pub waits_only : bit 1 (flags_in b) ≡ false → bit 1 (flags_in w.block) ≡ true → (starts b at x ≡ true) × Waits w.state
  -- "Writing a 1 to a flag clears it."
  pub clears : at ≡ flags_at → (i : ℕ) → i < 2 → bit i x ≡ true → bit i (flags_in w.block) ≡ false
  -- and nothing else does
  pub clears_only : (i : ℕ) → bit i (flags_in b) ≡ true → bit i (flags_in w.block) ≡ false → (at ≡ flags_at) × (bit i x ≡ true)
  -- "Flags are bits 0 and 1 alone; the other bits of byte 18 stay."
  pub others : (i : ℕ) → 2 ≤ i → bit i (flags_in w.block) ≡ bit i (flags_in b)

-- "Of all lent buffers the block alone is changed by a refusal, and only as said here."
pub record Refusal (s b : List ℕ) (at x : ℕ) (w : Written) : Type 0 where
  pub same_state : (w.number ≡ 0 → ⊥) → w.state ≡ s
  -- "a block not 24 bytes long (it stays unchanged)"
  pub other_length : (length b ≡ block_length → ⊥) → (w.number ≡ 17) × (w.block ≡ b)
  -- status takes the number, of a refused write and of a call that is refused
  pub status : length b ≡ block_length → (w.number ≡ 0 → ⊥) → get_or w.block status_at 0 ≡ w.number
  -- "only status and flag bit 0 change"
  pub same_bit : w.number ≡ 17 → bit 1 (flags_in w.block) ≡ bit 1 (flags_in b)
  pub same_bytes : w.number ≡ 17 → (i : ℕ) → (i ≡ status_at → ⊥) → (i ≡ flags_at → ⊥) → get_or w.block i 0 ≡ get_or b i 0
  -- of a call that is refused the command too; value and reply stamp "stay if refused"
  pub others_same : (w.number ≡ 0 → ⊥) → (i : ℕ) → (i ≡ command_at → ⊥) → (i ≡ status_at → ⊥) → (i ≡ flags_at → ⊥) → get_or w.block i 0 ≡ get_or b i 0

-- "2 collects (value and reply stamp are filled …": they are the event of the call
pub record Collected (s b : List ℕ) (w : Written) : Type 0 where
  pub stamp : reply_stamp_in w.block ≡ (reply (call_in b 2) s).stamp
  pub value : value_in w.block ≡ (reply (call_in b 2) s).value

pub record Laws : Type 0 where
  pub waiting : (s : List ℕ) → (waiting s ≡ true) ↔ Waits s
  pub flags : (s b : List ℕ) (at x : ℕ) → length b ≡ block_length → Flags b at x (write s b at x)
  pub refusal : (s b : List ℕ) (at x : ℕ) → Bytes s → Refusal s b at x (write s b at x)
  pub collected : (s b : List ℕ) → Bytes s → length b ≡ block_length → (write s b command_at 2).number ≡ 0 → Collected s b (write s b command_at 2)
