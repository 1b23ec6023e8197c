-- Signed numbers and their two's complement bits.
use Prim.Native.Nat.{ℕ, suc, ◌-◌, ◌^◌, ◌<◌, ◌≤◌}
use mathlib.Core.Path.{◌≡◌, refl}
use mathlib.Core.Bool.{true, false}
use native.Mathlib.Omega.{arith}
use lib.IntN.{ℤ, pos, negsuc}
use lib.Signed.{lt_z}
use lib.Dec.{eqb}
use borrow.Author.Tests.{ltb-true, le-ltb, eq-eqb, ne_eqb}
use native.Mathlib.Decide.{ℕ_discrete}
use mir.Syntax.{w64}
use mir.Val.{SFits, to_z, of_z}
use Rattle.num.specs.Arithmetic.{same}

-- what the test x < 0 tells of the bits
neg_of : (x : ℤ) → SFits w64 x → lt_z x (pos 0) ≡ true → (2 ^ 63 ≤ of_z w64 x) × (of_z w64 x < 2 ^ 64)
neg_of (pos n) f e = absurd (not_lt (ltb-true n 0 e))
  where
    not_lt : n < 0 → ⊥
    not_lt h = omega arith
neg_of (negsuc n) f e = let h : n < 2 ^ 63 = f.sfits in (omega arith, omega arith)

pos_of : (x : ℤ) → SFits w64 x → lt_z x (pos 0) ≡ false → of_z w64 x < 2 ^ 63
pos_of (pos n) f e = f.sfits
pos_of (negsuc n) f e = let z : ◌≡◌ {A = ℕ} 0 1 = cc in omega arith

-- bits from half the power on are read as a negative number
pub to_z_high : (u : ℕ) → 2 ^ 63 ≤ u → to_z w64 u ≡ negsuc (2 ^ 64 - suc u)
to_z_high u h = rw (le-ltb u (2 ^ 63) h)

-- two values are equal exactly if their bits are
pub same_bits : (x y : ℤ) → SFits w64 x → SFits w64 y → eqb (of_z w64 x) (of_z w64 y) ≡ same x y
unfolding same
same_bits (pos m) (pos n) f g = refl
same_bits (pos m) (negsuc n) f g = let h : m < 2 ^ 63 = f.sfits in let k : n < 2 ^ 63 = g.sfits in ne_eqb m (2 ^ 64 - suc n) (λ e. omega arith)
same_bits (negsuc m) (pos n) f g = let h : m < 2 ^ 63 = f.sfits in let k : n < 2 ^ 63 = g.sfits in ne_eqb (2 ^ 64 - suc m) n (λ e. omega arith)
same_bits (negsuc m) (negsuc n) f g = let h : m < 2 ^ 63 = f.sfits in let k : n < 2 ^ 63 = g.sfits in go (ℕ_discrete m n)
  where
    go : Dec (m ≡ n) → eqb (2 ^ 64 - suc m) (2 ^ 64 - suc n) ≡ eqb m n
    go (yes e) = rw (e, eq-eqb n n refl, eq-eqb (2 ^ 64 - suc n) (2 ^ 64 - suc n) refl)
    go (no e) = let h : m < 2 ^ 63 = f.sfits in let k : n < 2 ^ 63 = g.sfits in rw (ne_eqb m n e, ne_eqb (2 ^ 64 - suc m) (2 ^ 64 - suc n) (λ q. e (omega arith)))
