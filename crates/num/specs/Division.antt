-- Believe: the two laws of a division with a remainder, which fix both numbers.
use Rattle.std.specs.Prelude.{◌≡◌, ◌⊎◌, ℤ, pos, ◌+ℤ◌, ◌*ℤ◌, ◌≤ℤ◌, ◌<ℤ◌}

-- 0, or with y's sign and below y in magnitude: 0 ≤ r < y or y < r ≤ 0
abbrev pub Below : (y r : ℤ) → Type 0
Below y r = ((pos 0 ≤ℤ r) × (r <ℤ y)) ⊎ ((y <ℤ r) × (r ≤ℤ pos 0))

-- y goes q times into x, and r is left
pub record Divides (x y q r : ℤ) : Type 0 where
  pub parts : x ≡ q *ℤ y +ℤ r
  pub below : Below y r
