-- Believe: the reader board's block of 24 bytes: its registers, its interrupt flags, and the line.
use Rattle.std.specs.Prelude.{ℕ, ◌+◌, ◌*◌, ◌/◌, ◌%◌, ◌^◌, Bool, not, cond, ◌&&◌, ◌||◌, List, eqb, ℤ, length, get_or, set}
use Rattle.std.proofs.lemmas.List.Edits.{sets}
use Rattle.std.specs.Int.{w64}
use Rattle.std.proofs.Common.{to_z, of_z}
use Rattle.le.specs.Bytes.{le, enc, part}

-- "a 24-byte block, least byte first: stream (bytes 0 to 3), stamp (4 to 7), value (8 to 15), command (16), status (17), interrupt
-- flags (18), interrupt mask (19), reply stamp (20 to 23)"
abbrev pub block_length : ℕ
block_length = 24

abbrev pub stream_in : List ℕ → ℕ
stream_in b = le (part b 0 4)

abbrev pub stamp_in : List ℕ → ℕ
stamp_in b = le (part b 4 4)

abbrev pub value_in : List ℕ → ℤ
value_in b = to_z w64 (le (part b 8 8))

abbrev pub command_at : ℕ
command_at = 16

abbrev pub status_at : ℕ
status_at = 17

abbrev pub flags_at : ℕ
flags_at = 18

abbrev pub mask_at : ℕ
mask_at = 19

abbrev pub reply_stamp_in : List ℕ → ℕ
reply_stamp_in b = le (part b 20 4)

abbrev pub flags_in : List ℕ → ℕ
flags_in b = get_or b flags_at 0

abbrev pub mask_in : List ℕ → ℕ
mask_in b = get_or b mask_at 0

-- "value and reply stamp are filled"
unfoldable pub filled : ℕ → ℤ → List ℕ → List ℕ
filled stamp value b = sets (sets b 8 (enc 8 (of_z w64 value))) 20 (enc 4 stamp)

-- ---- the interrupt flags

-- bit i of a byte
abbrev pub bit : ℕ → ℕ → Bool
bit i f = eqb (f / 2 ^ i % 2) 1

-- "Flags are bits 0 and 1 alone; the other bits of byte 18 stay": the byte with these two
unfoldable pub with_flags : ℕ → Bool → Bool → ℕ
with_flags f zero one = f / 4 * 4 + (cond one 2 0 + cond zero 1 0)

-- "Writing a 1 to a flag clears it."
unfoldable pub cleared : ℕ → ℕ → ℕ
cleared f x = with_flags f (bit 0 f && not (bit 0 x)) (bit 1 f && not (bit 1 x))

-- "flag bit 0 is set if status isn't 0", bit 1 if an output waits
unfoldable pub raised : ℕ → ℕ → Bool → ℕ
raised f number waits = with_flags f (bit 0 f || not (eqb number 0)) (bit 1 f || waits)

-- a command or a refused write ends: status and flags
unfoldable pub ended : ℕ → Bool → List ℕ → List ℕ
ended number waits b = set (set b status_at number) flags_at (raised (flags_in b) number waits)

-- ---- the line

-- "a flag and its mask bit are both set"
unfoldable pub line_up : List ℕ → Bool
line_up b = (bit 0 (flags_in b) && bit 0 (mask_in b)) || (bit 1 (flags_in b) && bit 1 (mask_in b))

-- the number that the call on the block returns, and what it gives beside
pub record Line : Type 0 where
  pub number : ℕ
  pub up : ℕ

-- "a block not 24 bytes long" is refused 17
unfoldable pub line : List ℕ → Line
line b = cond (eqb (length b) block_length) (record { number = 0; up = cond (line_up b) 1 0 }) (record { number = 17; up = 0 })
