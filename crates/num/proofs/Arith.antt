-- Arithmetic of signs and magnitudes, and which numbers are values.
use Prim.Native.Nat.{ℕ, zero, suc, ◌+◌, ◌*◌, ◌-◌, ◌/◌, ◌%◌, ◌^◌, ◌<◌, ◌≤◌, min}
use mathlib.Core.Path.{◌≡◌, refl, sym, ap, ◌∙◌, subst}
use mathlib.Core.Bool.{Bool, true, false, not, beq}
use native.Mathlib.Omega.{arith}
use native.Mathlib.Nat.{add-zero, sub-zero, mul-zero, zero-mul, le_trans, mul-le-mul_left, mul-le-mul_right, mul-add, mul_assoc, mul_comm, div-add-mod'}
use lib.IntN.{ℤ, pos, negsuc, neg_ℤ, ◌+ℤ◌, ◌*ℤ◌}
use lib.Dec.{T, lit<}
use mir.Syntax.{w64}
use mir.Val.{Fits, SFits, to_z, of_z}
use mir.Facts.{to_z-of_z, to_z_pos, to_z-neg}
use borrow.Author.Tests.{lt-ltb, le-ltb, le-leb, lt-leb, ne_eqb}
use native.Mathlib.Decide.{dec_le}
use Rattle.std.specs.Prelude.{Option, None, Some, Ok, Err, SomeIff}
use Rattle.std.specs.Option.{ok_or}
use Rattle.num.specs.declared.Reason.TheVariants.{Outside, ZeroDivisor}
use Rattle.num.specs.Arithmetic.{fit, is_zero, divided, remainder}
use Rattle.num.specs.Parts.{signed}

never : {X : Type 0} → ◌≡◌ {A = Bool} false true → X
never e = absurd (subst T (sym e) tt)

-- ---- which numbers are values

pub fit_pos : (n : ℕ) → n < 2 ^ 63 → fit (pos n) ≡ Ok (pos n)
unfolding fit
fit_pos n h = rw (lt-ltb n (2 ^ 63) h)

fit_pos_none : (n : ℕ) → 2 ^ 63 ≤ n → fit (pos n) ≡ Err Outside
unfolding fit
fit_pos_none n h = rw (le-ltb n (2 ^ 63) h)

pub fit_neg : (n : ℕ) → n < 2 ^ 63 → fit (negsuc n) ≡ Ok (negsuc n)
unfolding fit
fit_neg n h = rw (le-leb n (2 ^ 63 - 1) (omega arith))

fit_neg_none : (n : ℕ) → 2 ^ 63 ≤ n → fit (negsuc n) ≡ Err Outside
unfolding fit
fit_neg_none n h = rw (lt-leb n (2 ^ 63 - 1) (omega arith))

-- a magnitude above 2^63 is no value's, and 2^63 is none's without a sign
pub too_big : (s : Bool) (m : ℕ) → 2 ^ 63 < m → fit (signed s m) ≡ Err Outside
too_big false m h = fit_pos_none m (omega arith)
too_big true zero h = absurd (omega arith)
too_big true (suc k) h = fit_neg_none k (omega arith)

pub too_big_plain : (m : ℕ) → 2 ^ 63 ≤ m → fit (signed false m) ≡ Err Outside
too_big_plain = fit_pos_none

-- what the library's checked arithmetic answers
pub checked : (r : Option ℤ) (z : ℤ) → SomeIff r (SFits w64 z) z → ok_or r Outside ≡ fit z
checked None (pos n) h = sym (fit_pos_none n (let k : (n < 2 ^ 63 → ⊥) = λ q. h (record { sfits = q }) in omega arith))
checked None (negsuc n) h = sym (fit_neg_none n (let k : (n < 2 ^ 63 → ⊥) = λ q. h (record { sfits = q }) in omega arith))
checked (Some x) (pos n) h = ap Ok h.1 ∙ sym (fit_pos n h.0.sfits)
checked (Some x) (negsuc n) h = ap Ok h.1 ∙ sym (fit_neg n h.0.sfits)

-- ---- sums

pub less : (m n : ℕ) → n ≤ m → pos m +ℤ neg_ℤ (pos n) ≡ pos (m - n)
less m zero h = ap pos (add-zero m ∙ sym (sub-zero m))
less m (suc n) h = rw (le-ltb m (suc n) h)

-- ---- products

pub product : (s t : Bool) (m n : ℕ) → signed s m *ℤ signed t n ≡ signed (not (beq s t)) (m * n)
product false false m n = refl
product false true m zero = rw mul-zero
product false true m (suc n) = refl
product true false zero n = rw zero-mul
product true false (suc m) n = refl
product true true zero zero = refl
product true true zero (suc n) = rw zero-mul
product true true (suc m) zero = rw mul-zero
product true true (suc m) (suc n) = refl

-- ---- zero divisors

-- whether a number in sign and magnitude is 0
zero_is : (t : Bool) (n : ℕ) → n ≡ 0 → is_zero (signed t n) ≡ true
unfolding is_zero
zero_is false n e = rw e
zero_is true n e = rw e

pub zero_not : (t : Bool) (n : ℕ) → is_zero (signed t (suc n)) ≡ false
unfolding is_zero
zero_not false n = ne_eqb (suc n) 0 (λ e. omega arith)
zero_not true n = refl

pub div_none : (a : ℤ) (t : Bool) (n : ℕ) → n ≡ 0 → divided a (signed t n) ≡ Err ZeroDivisor
unfolding divided
div_none a t n e = rw (zero_is t n e)

pub rem_none : (a : ℤ) (t : Bool) (n : ℕ) → n ≡ 0 → remainder a (signed t n) ≡ Err ZeroDivisor
unfolding remainder
rem_none a t n e = rw (zero_is t n e)

-- ---- products by halves

-- a magnitude cut off at 2^63 + 1 is as little a value's as before
pub capped : (s : Bool) (m : ℕ) → fit (signed s (min m (2 ^ 63 + 1))) ≡ fit (signed s m)
capped s m = go (dec_le m (2 ^ 63))
  where
    go : Dec (m ≤ 2 ^ 63) → fit (signed s (min m (2 ^ 63 + 1))) ≡ fit (signed s m)
    go (yes h) = let e : min m (2 ^ 63 + 1) ≡ m = omega arith in rw e
    go (no h) = let e : min m (2 ^ 63 + 1) ≡ 2 ^ 63 + 1 = omega arith in rw e (too_big s (2 ^ 63 + 1) (omega arith) ∙ sym (too_big s m (omega arith)))

-- two numbers of at least 2^32 have a product of at least 2^64
both_high : (m n : ℕ) → 4294967296 ≤ m → 4294967296 ≤ n → 2 ^ 63 + 1 ≤ m * n
both_high m n h k =
    let a : 4294967296 * 4294967296 ≤ m * n = le_trans (mul-le-mul_left 4294967296 k) (mul-le-mul_right n h) in
    omega arith

pub high_high : (m n : ℕ) → (m / 4294967296 ≡ 0 → ⊥) → (n / 4294967296 ≡ 0 → ⊥) → 2 ^ 63 + 1 ≡ min (m * n) (2 ^ 63 + 1)
high_high m n h k =
    let a : 4294967296 ≤ m = at_least m h in
    let b : 4294967296 ≤ n = at_least n k in
    let c = both_high m n a b in
    omega arith
  where
    at_least : (x : ℕ) → (x / 4294967296 ≡ 0 → ⊥) → 4294967296 ≤ x
    at_least x f = omega arith

-- a product of two numbers below 2^32 fits
pub low_low : (m n : ℕ) → m < 4294967296 → n < 4294967296 → Fits w64 (m * n)
low_low m n h k =
    let a : m * n ≤ 4294967295 * 4294967295 = le_trans (mul-le-mul_right n (below m h)) (mul-le-mul_left 4294967295 (below n k)) in
    record { fits = omega arith }
  where
    below : (x : ℕ) → x < 4294967296 → x ≤ 4294967295
    below x l = omega arith

-- a product with n in halves
split_right : (m n : ℕ) → m * (n / 4294967296) * 4294967296 + m * (n % 4294967296) ≡ m * n
split_right m n =
    ap (λ (k : ℕ). k + m * (n % 4294967296)) (mul_assoc m (n / 4294967296) 4294967296)
    ∙ sym (mul-add m (n / 4294967296 * 4294967296) (n % 4294967296))
    ∙ ap (λ (k : ℕ). m * k) (div-add-mod' n 4294967296)

-- where m is below 2^32
pub halves_low : (m n : ℕ) → m / 4294967296 ≡ 0
    → min (m % 4294967296 * (n / 4294967296) * 4294967296 + m % 4294967296 * (n % 4294967296)) (2 ^ 63 + 1) ≡ min (m * n) (2 ^ 63 + 1)
halves_low m n h =
    let e : m % 4294967296 ≡ m = omega arith in
    rw e (ap (λ (k : ℕ). min k (2 ^ 63 + 1)) (split_right m n))

-- where n is
pub by_halves : (m n : ℕ) → n / 4294967296 ≡ 0
    → min (m / 4294967296 * (n % 4294967296) * 4294967296 + m % 4294967296 * (n % 4294967296)) (2 ^ 63 + 1) ≡ min (m * n) (2 ^ 63 + 1)
by_halves m n h =
    let e : n % 4294967296 ≡ n = omega arith in
    rw (e, mul_comm (m / 4294967296) n, mul_comm (m % 4294967296) n, mul_comm m n) (ap (λ (k : ℕ). min k (2 ^ 63 + 1)) (split_right n m))

-- ---- what the function join returns

pub join_zero : (s : Bool) (m : ℕ) → m ≡ 0 → Ok (pos 0) ≡ fit (signed s m)
join_zero false m e = rw e (sym (fit_pos 0 (lit< tt)))
join_zero true m e = rw e (sym (fit_pos 0 (lit< tt)))

pub join_neg : (s : Bool) (m : ℕ) (r : ℤ) → s ≡ true → (m ≡ 0 → ⊥) → m ≤ 2 ^ 63 → r ≡ to_z w64 (18446744073709551615 - (m - 1)) → Ok (to_z w64 (of_z w64 r)) ≡ fit (signed s m)
join_neg false m r b z h e = never b
join_neg true zero r b z h e = absurd (z refl)
join_neg true (suc k) r b z h e =
    let q : 18446744073709551615 - (suc k - 1) ≡ 2 ^ 64 - suc k = omega arith in
    let hk : k < 2 ^ 63 = omega arith in
    let rk : r ≡ negsuc k = e ∙ ap (to_z w64) q ∙ to_z-neg w64 k hk in
    rw rk (ap Ok (to_z-of_z {w = w64} {z = negsuc k} (record { sfits = hk })) ∙ sym (fit_neg k hk))

pub join_pos : (s : Bool) (m : ℕ) (r : ℤ) → s ≡ false → m < 2 ^ 63 → r ≡ to_z w64 m → Ok (to_z w64 (of_z w64 r)) ≡ fit (signed s m)
join_pos true m r b h e = never (sym b)
join_pos false m r b h e =
    rw (e ∙ to_z_pos w64 h) (ap Ok (to_z-of_z {w = w64} {z = pos m} (record { sfits = h })) ∙ sym (fit_pos m h))

pub join_none : (s : Bool) (m : ℕ) → s ≡ false → 2 ^ 63 ≤ m → fit (signed s m) ≡ Err Outside
join_none true m b h = never (sym b)
join_none false m b h = fit_pos_none m h
