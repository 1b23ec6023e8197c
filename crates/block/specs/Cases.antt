-- Cases: flags and lines, worked out by hand from document 02's sentences.
use Rattle.std.specs.Prelude.{ℕ, Bool, true, false, List, [], ◌∷◌, replicate, set}
use Rattle.block.specs.Block.{block_length, flags_at, mask_at}

-- a byte is written to the flags: the flags before, the byte, the flags after
pub record Clearing : Type 0 where
  pub before : ℕ
  pub byte : ℕ
  pub after : ℕ

abbrev pub clearing : ℕ → ℕ → ℕ → Clearing
clearing f x g = record { before = f; byte = x; after = g }

unfoldable pub clearings : List Clearing
clearings = clearing 255 255 252 ∷ clearing 255 0 255 ∷ clearing 3 1 2 ∷ clearing 3 2 1 ∷ clearing 0 3 0 ∷ clearing 252 255 252 ∷ clearing 6 2 4 ∷ []

-- a command or a refused write ends: the flags before, its number, whether an output waits, the flags after
pub record Ending : Type 0 where
  pub before : ℕ
  pub number : ℕ
  pub waits : Bool
  pub after : ℕ

abbrev pub ending : ℕ → ℕ → Bool → ℕ → Ending
ending f k w g = record { before = f; number = k; waits = w; after = g }

unfoldable pub endings : List Ending
endings =
    ending 0 0 false 0 ∷ ending 0 0 true 2 ∷ ending 0 14 false 1 ∷ ending 0 7 true 3 ∷ ending 0 17 false 1 ∷ ending 3 0 false 3 ∷ ending 1 0 false 1 ∷ ending 252 15 false 253
    ∷ ending 253 0 true 255 ∷ []

-- the flags, the mask, and 1 if the line is up
pub record Level : Type 0 where
  pub flags : ℕ
  pub mask : ℕ
  pub up : ℕ

abbrev pub level : ℕ → ℕ → ℕ → Level
level f m u = record { flags = f; mask = m; up = u }

unfoldable pub levels : List Level
levels = level 0 255 0 ∷ level 255 0 0 ∷ level 1 1 1 ∷ level 2 2 1 ∷ level 1 2 0 ∷ level 2 1 0 ∷ level 3 2 1 ∷ level 252 255 0 ∷ level 255 252 0 ∷ level 1 255 1 ∷ []

-- a block of zeros with these flags and this mask
abbrev pub block_with : ℕ → ℕ → List ℕ
block_with f m = set (set (replicate block_length 0) flags_at f) mask_at m
