-- A quotient and its remainder: they keep the two laws, no other two numbers do, and both in sign and magnitude.
use Prim.Native.Nat.{ℕ, zero, suc, ◌+◌, ◌*◌, ◌-◌, ◌/◌, ◌%◌, ◌^◌, ◌<◌, ◌≤◌, zero-le}
use mathlib.Core.Path.{◌≡◌, refl, sym, ap, ◌∙◌}
use mathlib.Core.Logic.{inl, inr}
use mathlib.Core.Bool.{Bool, true, false, cond, not, beq}
use native.Mathlib.Omega.{arith}
use native.Mathlib.Numerals.{add-one}
use native.Mathlib.Nat.{suc-mul, add-zero, sub-zero, zero-div, div-le_self, mod-lt, div-add-mod', div-eq_of_lt, mul-add-div_right}
use lib.IntN.{ℤ, pos, negsuc, neg_ℤ, ◌+ℤ◌, ◌-ℤ◌, ◌*ℤ◌, neg_ℤ-+ℤ, neg_ℤ-neg_ℤ, +ℤ_comm, *ℤ-negsuc, -ℤ-+ℤ_cancel, +ℤ-neg_ℤ_cancel}
use lib.Signed.{clash_ℤ}
use lib.Dec.{leb→le, le→leb, ltb→lt}
use mir.Syntax.{w64}
use mir.Val.{Fits}
use borrow.Author.Tests.{lt-ltb, le-ltb}
use Rattle.num.specs.Arithmetic.{fit, divided, remainder, down, quotient, rest}
use Rattle.num.specs.Division.{Below, Divides}
use Rattle.num.specs.Parts.{signed, lowered}
use Rattle.num.proofs.Arith.{less, zero_not}
use Rattle.num.proofs.Below.{below_pos, below_neg}

-- ---- what is left

-- of x by n + 1, rounded down
abbrev over : ℤ → ℕ → ℕ
over (pos m) n = m % suc n
over (negsuc m) n = n - m % suc n

over_below : (x : ℤ) (n : ℕ) → over x n < suc n
over_below (pos m) n = mod-lt m (omega arith)
over_below (negsuc m) n = omega arith

more : (m k : ℕ) → suc m ≤ k → negsuc m -ℤ neg_ℤ (pos k) ≡ pos (k - suc m)
more m k h = rw (neg_ℤ-neg_ℤ (pos k), le-ltb k (suc m) h)

down_leaves : (x : ℤ) (n : ℕ) → x -ℤ down x (suc n) *ℤ pos (suc n) ≡ pos (over x n)
unfolding down
down_leaves (pos m) n =
    let e = div-add-mod' m (suc n) in
    less m (m / suc n * suc n) (omega arith) ∙ ap pos (omega arith)
down_leaves (negsuc m) n =
    let e = div-add-mod' m (suc n) in
    let l : m % suc n < suc n = mod-lt m (omega arith) in
    let k = suc-mul (m / suc n) (suc n) in
    more m (suc (m / suc n) * suc n) (omega arith) ∙ ap pos (omega arith)

rest_pos : (x : ℤ) (n : ℕ) → rest x (pos (suc n)) ≡ pos (over x n)
unfolding rest
rest_pos x n = down_leaves x n

-- by −(n + 1) the same of −x, negated
rest_neg : (x : ℤ) (n : ℕ) → rest x (negsuc n) ≡ neg_ℤ (pos (over (neg_ℤ x) n))
unfolding rest
rest_neg x n =
    let d = down (neg_ℤ x) (suc n) in
    ap (λ (z : ℤ). x -ℤ z) (*ℤ-negsuc d n)
    ∙ ap (λ (z : ℤ). z +ℤ neg_ℤ (neg_ℤ (d *ℤ pos (suc n)))) (sym (neg_ℤ-neg_ℤ x))
    ∙ sym (neg_ℤ-+ℤ (neg_ℤ x) (neg_ℤ (d *ℤ pos (suc n))))
    ∙ ap neg_ℤ (down_leaves (neg_ℤ x) n)

-- ---- the laws hold

rest_below : (x y : ℤ) → (y ≡ pos 0 → ⊥) → Below y (rest x y)
rest_below x (pos zero) h = absurd (h refl)
rest_below x (pos (suc n)) h = rw (rest_pos x n) (below_pos (over x n) n (over_below x n))
rest_below x (negsuc n) h = rw (rest_neg x n) (below_neg (over (neg_ℤ x) n) n (over_below (neg_ℤ x) n))

-- x is the quotient times y and the rest; the rest is 0 or has y's sign, and is below y in magnitude
pub divides : (x y : ℤ) → (y ≡ pos 0 → ⊥) → Divides x y (quotient x y) (rest x y)
divides x y h = record { parts = unfold rest in sym (-ℤ-+ℤ_cancel x (quotient x y *ℤ y)) ∙ +ℤ_comm (x -ℤ quotient x y *ℤ y) (quotient x y *ℤ y); below = rest_below x y h }

-- ---- no other two numbers keep them

down_of : (q : ℤ) (n k : ℕ) → k < suc n → down (q *ℤ pos (suc n) +ℤ pos k) (suc n) ≡ q
unfolding down
down_of (pos c) n k h = ap pos (mul-add-div_right {m = suc n} (omega arith) c k ∙ ap (λ (j : ℕ). c + j) (div-eq_of_lt h) ∙ add-zero c)
down_of (negsuc c) n k h =
    let e : suc c * suc n ≡ suc (c * suc n + n) = let d = suc-mul c (suc n) in omega arith in
    let f : suc (c * suc n + n) - suc k ≡ c * suc n + (n - k) = omega arith in
    rw (e, lt-ltb k (suc (c * suc n + n)) (omega arith), f)
    (ap negsuc (mul-add-div_right {m = suc n} (omega arith) c (n - k) ∙ ap (λ (j : ℕ). c + j) (div-eq_of_lt {n = n - k} {m = suc n} (omega arith)) ∙ add-zero c))

quotient_once : (x y q r : ℤ) → Divides x y q r → quotient x y ≡ q
unfolding quotient
quotient_once x (pos zero) q r d = go d.below
  where
    go : Below (pos zero) r → down x zero ≡ q
    go (inl (h, k)) = clash_ℤ k h
    go (inr (h, k)) = clash_ℤ h k
quotient_once x (pos (suc n)) q (pos k) d = go d.below
  where
    go : Below (pos (suc n)) (pos k) → down x (suc n) ≡ q
    go (inl (h, l)) = ap (λ (z : ℤ). down z (suc n)) d.parts ∙ down_of q n k (ltb→lt k (suc n) l.lt)
    go (inr (h, l)) = clash_ℤ h (record { le = le→leb k (suc n) (omega (arith, leb→le k 0 l.le)) })
quotient_once x (pos (suc n)) q (negsuc k) d = go d.below
  where
    go : Below (pos (suc n)) (negsuc k) → down x (suc n) ≡ q
    go (inl (h, l)) = absurd h.le
    go (inr (h, l)) = absurd h.lt
quotient_once x (negsuc n) q r d = go d.below
  where
    -- −x = q · (n + 1) − r
    turned : neg_ℤ x ≡ q *ℤ pos (suc n) +ℤ neg_ℤ r
    turned =
        ap neg_ℤ d.parts ∙ neg_ℤ-+ℤ (q *ℤ negsuc n) r
        ∙ ap (λ (z : ℤ). z +ℤ neg_ℤ r) (ap neg_ℤ (*ℤ-negsuc q n) ∙ neg_ℤ-neg_ℤ (q *ℤ pos (suc n)))

    at : (k : ℕ) → neg_ℤ r ≡ pos k → k < suc n → down (neg_ℤ x) (suc n) ≡ q
    at k e h = ap (λ (z : ℤ). down z (suc n)) (turned ∙ ap (λ (z : ℤ). q *ℤ pos (suc n) +ℤ z) e) ∙ down_of q n k h

    of : (z : ℤ) → z ≡ r → Below (negsuc n) z → down (neg_ℤ x) (suc n) ≡ q
    of (pos k) e (inl (h, l)) = absurd l.lt
    of (negsuc k) e (inl (h, l)) = absurd h.le
    of (pos zero) e (inr (h, l)) = at 0 (ap neg_ℤ (sym e)) (omega arith)
    of (pos (suc k)) e (inr (h, l)) = absurd (omega (arith, leb→le (suc k) 0 l.le))
    of (negsuc k) e (inr (h, l)) = at (suc k) (ap neg_ℤ (sym e)) (omega (arith, ltb→lt k n h.lt))

    go : Below (negsuc n) r → down (neg_ℤ x) (suc n) ≡ q
    go b = of r refl b

-- two numbers that keep the laws are the quotient and the rest; the divisor is then not 0
pub divides_once : (x y q r : ℤ) → Divides x y q r → (quotient x y ≡ q) × (rest x y ≡ r)
divides_once x y q r d =
    let e = quotient_once x y q r d in
    (e, unfold rest in rw (e, d.parts, +ℤ_comm (q *ℤ y) r) (+ℤ-neg_ℤ_cancel r (q *ℤ y)))

-- ---- in sign and magnitude

pub lowered_zero : (s t : Bool) (m : ℕ) → m ≡ 0 → 0 ≡ lowered s t m
unfolding lowered
lowered_zero s t m e = rw e

pub lowered_same : (s t : Bool) (m : ℕ) → beq s t ≡ true → 0 ≡ lowered s t m
unfolding lowered
lowered_same s t zero e = refl
lowered_same s t (suc m) e = rw e

pub lowered_other : (s t : Bool) (m : ℕ) → (m ≡ 0 → ⊥) → beq s t ≡ false → 1 ≡ lowered s t m
unfolding lowered
lowered_other s t zero h e = absurd (h refl)
lowered_other s t (suc m) h e = rw e

pub lowered_less : (s t : Bool) (m u : ℕ) → u ≡ lowered s t m → (u ≤ m) × (u ≤ 1)
unfolding lowered
lowered_less s t zero u e = (omega arith, omega arith)
lowered_less s t (suc m) u e = rw e (go (beq s t))
  where
    go : (b : Bool) → (cond b 0 1 ≤ suc m) × (cond b 0 1 ≤ 1)
    go true = (zero-le, zero-le)
    go false = (omega arith, omega arith)

one_less : (m : ℕ) → suc m - 1 ≡ m
one_less m = omega arith

pub up_fits : (x n u : ℕ) → x ≤ 2 ^ 63 → u ≤ 1 → Fits w64 (x / n + u)
up_fits x n u h k = let l = div-le_self x n in record { fits = omega arith }

-- the quotient's sign and magnitude
quotient_parts : (s t : Bool) (m n : ℕ) → quotient (signed s m) (signed t (suc n)) ≡ signed (not (beq s t)) ((m - lowered s t m) / suc n + lowered s t m)
unfolding quotient down lowered
quotient_parts false false zero n = rw (add-zero (0 / suc n))
quotient_parts false true zero n = rw (zero-div (suc n))
quotient_parts true false zero n = rw (zero-div (suc n))
quotient_parts true true zero n = rw (add-zero (0 / suc n))
quotient_parts false false (suc m) n = rw (sub-zero (suc m), add-zero (suc m / suc n))
quotient_parts false true (suc m) n = rw (one_less m, add-one (m / suc n))
quotient_parts true false (suc m) n = rw (one_less m, add-one (m / suc n))
quotient_parts true true (suc m) n = rw (sub-zero (suc m), add-zero (suc m / suc n))

pub div_some : (s t : Bool) (m n u : ℕ) → 0 < n → u ≡ lowered s t m → divided (signed s m) (signed t n) ≡ fit (signed (not (beq s t)) ((m - u) / n + u))
unfolding divided
div_some s t m zero u h e = absurd (omega arith)
div_some s t m (suc n) u h e = rw (zero_not t n, e) (ap fit (quotient_parts s t m n))

-- the rest's magnitude, where the quotient is not below zero and where it is
rest_above : (s t : Bool) (m n : ℕ) → 0 ≡ lowered s t m → rest (signed s m) (signed t (suc n)) ≡ signed t (m % suc n)
unfolding lowered
rest_above false false m n e = rest_pos (pos m) n
rest_above false true zero n e = rest_neg (pos zero) n
rest_above false true (suc m) n e = absurd (omega (arith, e))
rest_above true false zero n e = rest_pos (pos zero) n
rest_above true false (suc m) n e = absurd (omega (arith, e))
rest_above true true zero n e = rest_neg (pos zero) n
rest_above true true (suc m) n e = rest_neg (negsuc m) n

rest_lowered : (s t : Bool) (m n : ℕ) → 1 ≡ lowered s t m → rest (signed s m) (signed t (suc n)) ≡ signed t (suc n - 1 - (m - 1) % suc n)
unfolding lowered
rest_lowered s t zero n e = absurd (omega (arith, e))
rest_lowered false false (suc m) n e = absurd (omega (arith, e))
rest_lowered false true (suc m) n e = rw (one_less m, one_less n) (rest_neg (pos (suc m)) n)
rest_lowered true false (suc m) n e = rw (one_less m, one_less n) (rest_pos (negsuc m) n)
rest_lowered true true (suc m) n e = absurd (omega (arith, e))

pub rem_above : (s t : Bool) (m n u : ℕ) → 0 < n → u ≡ lowered s t m → (u ≡ 1 → ⊥) → remainder (signed s m) (signed t n) ≡ fit (signed t ((m - u) % n))
unfolding remainder
rem_above s t m zero u h e k = absurd (omega arith)
rem_above s t m (suc n) u h e k =
    let l = (lowered_less s t m u e).1 in
    let z : u ≡ 0 = omega arith in
    rw (zero_not t n, z, sub-zero m) (ap fit (rest_above s t m n (sym z ∙ e)))

pub rem_lowered : (s t : Bool) (m n u : ℕ) → 0 < n → u ≡ lowered s t m → u ≡ 1 → remainder (signed s m) (signed t n) ≡ fit (signed t (n - 1 - (m - u) % n))
unfolding remainder
rem_lowered s t m zero u h e k = absurd (omega arith)
rem_lowered s t m (suc n) u h e k = rw (zero_not t n, k) (ap fit (rest_lowered s t m n (sym k ∙ e)))
