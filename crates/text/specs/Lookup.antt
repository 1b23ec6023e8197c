-- How: a name looked up: its bytes as one number, the first the lowest.
use Rattle.std.specs.Prelude.{ℕ, zero, suc, ◌+◌, ◌*◌, cond, List, [], ◌∷◌, map, eqb, length, Option, Some, None}
use Rattle.text.specs.declared.Packed.{Packed}
use Rattle.text.specs.Grammar.{name_at, names}

-- the bytes of a name as one number, the first the lowest
unfoldable pub pack : List ℕ → ℕ
pack [] = 0
pack (c ∷ w) = c + 256 * pack w

abbrev pub packed : ℕ → List ℕ → Packed
packed at w = record { code = pack w; next = at + length w }

unfoldable pub packed_at : List ℕ → ℕ → Packed
packed_at s at = packed at (name_at s at 5)

unfoldable pub place_packed : ℕ → List ℕ → ℕ → ℕ
place_packed x [] n = 0
place_packed x (y ∷ l) n = cond (eqb x y) n (place_packed x l (n + 1))

unfoldable pub number_packed : ℕ → ℕ
number_packed x = place_packed x (map pack names) 0

-- none if it is 0
abbrev pub unless_zero : ℕ → Option ℕ
unless_zero zero = None
unless_zero (suc n) = Some (suc n)

abbrev pub operator_packed : ℕ → Option ℕ
operator_packed x = unless_zero (number_packed x)
