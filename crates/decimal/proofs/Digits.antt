-- Decimal numbers: their digits, one more digit, the first digit, and how many there are.
use Prim.Native.Nat.{ℕ, zero, suc, ◌+◌, ◌*◌, ◌/◌, ◌%◌, ◌^◌, ◌<◌, ◌≤◌}
use mathlib.Core.Path.{◌≡◌, refl, sym, ap, ◌∙◌}
use mathlib.Core.Bool.{Bool, true, false}
use mathlib.Core.List.{List, [], ◌∷◌, ◌++◌}
use native.Mathlib.Nat.{pow-suc}
use native.Mathlib.Omega.{arith}
use lib.Dec.{ltb, lit<}
use lib.ListN.{length, get_or, length-append, get_or-append}
use borrow.Author.Tests.{lt-ltb, le-ltb, ltb-true, ltb-false}
use Rattle.decimal.specs.Decimal.{digits}

pub digit_one : (f n : ℕ) → n < 10 → digits (suc f) n ≡ (48 + n) ∷ []
unfolding digits
digit_one f n h = rw (lt-ltb n 10 h)

pub digit_more : (f n : ℕ) → 10 ≤ n → digits (suc f) n ≡ digits f (n / 10) ++ ((48 + n % 10) ∷ [])
unfolding digits
digit_more f n h = rw (le-ltb n 10 h)

-- a number below ten, or at least ten
pub small_or : {A : Type 0} (n : ℕ) → (n < 10 → A) → (10 ≤ n → A) → A
small_or {A = A} n s l = by (ltb n 10) refl
  where
    by : (b : Bool) → ltb n 10 ≡ b → A
    by true e = s (ltb-true n 10 e)
    by false e = l (ltb-false n 10 e)

pub tenth : (f n : ℕ) → n < 10 ^ suc f → n / 10 < 10 ^ f
tenth f n h = omega (arith, pow-suc 10 f)

-- room for more digits changes nothing
pub digits_room : (f n : ℕ) → 0 < f → n < 10 ^ f → digits (suc f) n ≡ digits f n
digits_room zero n z h = absurd (omega arith)
digits_room (suc zero) n z h = small_or n (λ k. digit_one 1 n k ∙ sym (digit_one 0 n k)) (λ k. absurd (omega arith))
digits_room (suc (suc f)) n z h =
    small_or n
    (λ k. digit_one (suc (suc f)) n k ∙ sym (digit_one (suc f) n k))
    (λ k. digit_more (suc (suc f)) n k ∙ ap (λ (l : List ℕ). l ++ ((48 + n % 10) ∷ [])) (digits_room (suc f) (n / 10) (omega arith) (tenth (suc f) n h)) ∙ sym (digit_more (suc f) n k))

-- one more digit behind a number that is not 0
pub digits_snoc : (f v d : ℕ) → 0 < f → 0 < v → d < 10 → v < 10 ^ f → digits (suc f) (v * 10 + d) ≡ digits (suc f) v ++ ((48 + d) ∷ [])
digits_snoc f v d z p h k =
    let q : (v * 10 + d) / 10 ≡ v = omega arith in
    let r : (v * 10 + d) % 10 ≡ d = omega arith in
    digit_more f (v * 10 + d) (omega arith) ∙ rw (q, r, digits_room f v z k)

-- every digit is a byte from 48 on, and there is at least one
pub digits_some : (f n : ℕ) → 0 < f → 0 < length (digits f n)
digits_some zero n z = absurd (omega arith)
digits_some (suc f) n z =
    small_or n
    (λ k. rw (digit_one f n k) (lit< tt))
    (λ k. rw (digit_more f n k, length-append (digits f (n / 10)) ((48 + n % 10) ∷ [])) (omega arith))

-- the first digit: a digit, and not 0 unless the number is
pub digits_first : (f n : ℕ) → 0 < f → n < 10 ^ f → (48 ≤ get_or (digits f n) 0 0) × (0 < n → 48 < get_or (digits f n) 0 0)
digits_first zero n z h = absurd (omega arith)
digits_first (suc zero) n z h = rw (digit_one 0 n (omega arith)) (omega arith, λ p. omega arith)
digits_first (suc (suc f)) n z h =
    small_or n
    (λ k. rw (digit_one (suc f) n k) (omega arith, λ p. omega arith))
    (λ k.
    let ih = digits_first (suc f) (n / 10) (omega arith) (tenth (suc f) n h) in
    rw (digit_more (suc f) n k, get_or-append (digits (suc f) (n / 10)) ((48 + n % 10) ∷ []) 0 0 (digits_some (suc f) (n / 10) (omega arith)))
    (ih.0, λ p. ih.1 (omega arith)))

no_digits : (n : ℕ) → digits 0 n ≡ []
unfolding digits
no_digits n = refl

-- a number below 10 ^ m has at most m digits
pub digits_few : (f n m : ℕ) → 0 < m → n < 10 ^ m → length (digits f n) ≤ m
digits_few zero n m z h = rw (no_digits n) (omega arith)
digits_few (suc f) n zero z h = absurd (omega arith)
digits_few (suc f) n (suc zero) z h = rw (digit_one f n (omega arith)) (omega arith)
digits_few (suc f) n (suc (suc m)) z h =
    small_or n
    (λ k. rw (digit_one f n k) (omega arith))
    (λ k. rw (digit_more f n k, length-append (digits f (n / 10)) ((48 + n % 10) ∷ [])) (omega (arith, digits_few f (n / 10) (suc m) (omega arith) (tenth (suc m) n h))))
