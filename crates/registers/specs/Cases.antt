-- Cases: writes that start no command, worked out by hand from document 02's sentences, on any state.
use Rattle.std.specs.Prelude.{ℕ, List, [], ◌∷◌, replicate, set}

-- the block before, the place and the byte; the number returned and the block after
pub record Case : Type 0 where
  pub before : List ℕ
  pub at : ℕ
  pub byte : ℕ
  pub number : ℕ
  pub after : List ℕ

abbrev pub zeros : ℕ → List ℕ
zeros n = replicate n 0

abbrev pub case : List ℕ → ℕ → ℕ → ℕ → List ℕ → Case
case b at x k c = record { before = b; at = at; byte = x; number = k; after = c }

-- a block of zeros after a refused write: status 17 and flag bit 0
abbrev pub told : List ℕ
told = set (set (zeros 24) 17 17) 18 1

unfoldable pub cases : List Case
cases =
    -- plain writes, the mask with all eight bits, and a byte to the flags
    case (zeros 24) 0 5 0 (set (zeros 24) 0 5) ∷ case (zeros 24) 15 255 0 (set (zeros 24) 15 255) ∷ case (zeros 24) 19 255 0 (set (zeros 24) 19 255)
    ∷ case (set (zeros 24) 18 255) 18 255 0 (set (zeros 24) 18 252) ∷ case (zeros 24) 18 255 0 (zeros 24)
    -- places that are refused, and bytes that are no command; the command byte stays
    ∷ case (zeros 24) 17 0 17 told ∷ case (zeros 24) 20 1 17 told ∷ case (zeros 24) 23 1 17 told ∷ case (zeros 24) 24 1 17 told ∷ case (zeros 24) 4294967295 1 17 told
    ∷ case (set (zeros 24) 16 2) 16 0 17 (set told 16 2) ∷ case (set (zeros 24) 16 2) 16 4 17 (set told 16 2) ∷ case (set (zeros 24) 16 2) 16 255 17 (set told 16 2)
    -- blocks of other lengths stay
    ∷ case (zeros 23) 0 1 17 (zeros 23) ∷ case (zeros 25) 16 1 17 (zeros 25) ∷ case [] 99 1 17 [] ∷ []
