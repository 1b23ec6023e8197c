-- Which answers are values: whatever an operation answers is one; a remainder is always one; of the quotients of values all but one.
use Prim.Native.Nat.{ℕ, zero, suc, ◌-◌, ◌/◌, ◌^◌, ◌<◌}
use mathlib.Core.Path.{◌≡◌, refl, ap}
use mathlib.Core.Logic.{inl, inr}
use mathlib.Core.Bool.{Bool, true, false, cond}
use native.Mathlib.Omega.{arith}
use native.Mathlib.Nat.{div-le_self, div-one, div-lt_self}
use lib.IntN.{ℤ, pos, negsuc, neg_ℤ, ◌+ℤ◌, ◌-ℤ◌, ◌*ℤ◌}
use lib.Signed.{mag, lt_z, le_z}
use lib.Dec.{ltb, leb, lit<, leb→le, ltb→lt}
use native.Mathlib.Decide.{ℕ_discrete}
use borrow.Author.Tests.{ltb-true, leb-true}
use Rattle.std.specs.Prelude.{Ok, Err}
use Rattle.num.specs.declared.Reason.TheVariants.{Outside, ZeroDivisor}
use Rattle.num.specs.Arithmetic.{Answer, least_value, fit, is_zero, truth, same, negated, added, subtracted, multiplied, quotient, down, rest, divided, remainder, less, at_most, equal}
use Rattle.num.specs.Division.{Below}
use Rattle.num.proofs.Arith.{fit_pos, fit_neg, zero_not}
use Rattle.num.proofs.Division.{divides}

-- ---- whatever an operation answers is a value

-- the number of an answer that has one lies in the range of the values
abbrev pub InRange : Answer → Type 0
InRange (Ok v) = mag v < 2 ^ 63
InRange (Err r) = Unit {0}

fit_in : (z : ℤ) → InRange (fit z)
unfolding fit
fit_in (pos n) = go (ltb n (2 ^ 63)) refl
  where
    go : (b : Bool) → ltb n (2 ^ 63) ≡ b → InRange (cond b (Ok (pos n)) (Err Outside))
    go true e = ltb-true n (2 ^ 63) e
    go false e = tt
fit_in (negsuc n) = go (leb n (2 ^ 63 - 1)) refl
  where
    go : (b : Bool) → leb n (2 ^ 63 - 1) ≡ b → InRange (cond b (Ok (negsuc n)) (Err Outside))
    go true e = let h = leb-true n (2 ^ 63 - 1) e in omega arith
    go false e = tt

truth_in : (b : Bool) → InRange (truth b)
unfolding truth
truth_in true = lit< tt
truth_in false = lit< tt

unless_zero : (b : Bool) (z : ℤ) → InRange (cond b (Err ZeroDivisor) (fit z))
unless_zero true z = tt
unless_zero false z = fit_in z

pub negated_in : (x : ℤ) → InRange (negated x)
unfolding negated
negated_in x = fit_in (neg_ℤ x)

pub added_in : (x y : ℤ) → InRange (added x y)
unfolding added
added_in x y = fit_in (x +ℤ y)

pub subtracted_in : (x y : ℤ) → InRange (subtracted x y)
unfolding subtracted
subtracted_in x y = fit_in (x -ℤ y)

pub multiplied_in : (x y : ℤ) → InRange (multiplied x y)
unfolding multiplied
multiplied_in x y = fit_in (x *ℤ y)

pub divided_in : (x y : ℤ) → InRange (divided x y)
unfolding divided
divided_in x y = unless_zero (is_zero y) (quotient x y)

pub remainder_in : (x y : ℤ) → InRange (remainder x y)
unfolding remainder
remainder_in x y = unless_zero (is_zero y) (rest x y)

pub less_in : (x y : ℤ) → InRange (less x y)
unfolding less
less_in x y = truth_in (lt_z x y)

pub at_most_in : (x y : ℤ) → InRange (at_most x y)
unfolding at_most
at_most_in x y = truth_in (le_z x y)

pub equal_in : (x y : ℤ) → InRange (equal x y)
unfolding equal
equal_in x y = truth_in (same x y)

-- ---- when a division answers a value

fits : (z : ℤ) → mag z < 2 ^ 63 → fit z ≡ Ok z
fits (pos n) h = fit_pos n h
fits (negsuc n) h = fit_neg n h

not_zero : (y : ℤ) → (y ≡ pos 0 → ⊥) → is_zero y ≡ false
not_zero (pos zero) h = absurd (h refl)
not_zero (pos (suc n)) h = zero_not false n
not_zero (negsuc n) h = zero_not true n

below_value : (y r : ℤ) → mag y < 2 ^ 63 → Below y r → mag r < 2 ^ 63
below_value (pos n) (pos k) h (inl (a, b)) = let l = ltb→lt k n b.lt in omega arith
below_value (pos n) (pos k) h (inr (a, b)) = let l = leb→le k 0 b.le in omega arith
below_value (pos n) (negsuc k) h (inl (a, b)) = absurd a.le
below_value (pos n) (negsuc k) h (inr (a, b)) = absurd a.lt
below_value (negsuc n) (pos k) h (inl (a, b)) = absurd b.lt
below_value (negsuc n) (pos k) h (inr (a, b)) = let l = leb→le k 0 b.le in omega arith
below_value (negsuc n) (negsuc k) h (inl (a, b)) = absurd a.le
below_value (negsuc n) (negsuc k) h (inr (a, b)) = let l = ltb→lt k n a.lt in omega arith

-- the remainder by a value that is not 0 is a value
pub remainder_value : (x y : ℤ) → mag y < 2 ^ 63 → (y ≡ pos 0 → ⊥) → remainder x y ≡ Ok (rest x y)
unfolding remainder
remainder_value x y h z = rw (not_zero y z) (fits (rest x y) (below_value y (rest x y) h (divides x y z).below))

down_value : (x : ℤ) (d : ℕ) → mag x < 2 ^ 63 → mag (down x d) < 2 ^ 63
unfolding down
down_value (pos m) d h = let l = div-le_self m d in omega arith
down_value (negsuc m) d h = let l = div-le_self m d in omega arith

-- the one quotient of two values that is not: the least value by −1
abbrev pub Largest : (x y : ℤ) → Type 0
Largest x y = (x ≡ least_value) × (y ≡ negsuc 0)

pub largest_outside : divided least_value (negsuc 0) ≡ Err Outside
unfolding divided
largest_outside = refl

quotient_value : (x y : ℤ) → mag x < 2 ^ 63 → (Largest x y → ⊥) → mag (quotient x y) < 2 ^ 63
unfolding quotient
quotient_value x (pos d) h l = down_value x d h
quotient_value (pos zero) (negsuc n) h l = down_value (pos 0) (suc n) h
quotient_value (pos (suc m)) (negsuc n) h l = down_value (negsuc m) (suc n) (omega arith)
quotient_value (negsuc m) (negsuc zero) h l = unfold down in rw (div-one (suc m)) (go (ℕ_discrete m (2 ^ 63 - 1)))
  where
    go : Dec (m ≡ 2 ^ 63 - 1) → suc m < 2 ^ 63
    go (yes e) = absurd (l (ap negsuc e, refl))
    go (no f) = omega arith
quotient_value (negsuc m) (negsuc (suc n)) h l = unfold down in let k : suc m / suc (suc n) < suc m = div-lt_self (omega arith) (omega arith) in omega arith

pub divided_value : (x y : ℤ) → mag x < 2 ^ 63 → (y ≡ pos 0 → ⊥) → (Largest x y → ⊥) → divided x y ≡ Ok (quotient x y)
unfolding divided
divided_value x y h z l = rw (not_zero y z) (fits (quotient x y) (quotient_value x y h l))
