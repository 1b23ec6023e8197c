-- Bytes put into a buffer: nothing, one after the other, the turns of the loop over a word, the digits of a number.
use Prim.Native.Nat.{ℕ, zero, suc, ◌+◌, ◌-◌, ◌/◌, ◌%◌, ◌^◌, ◌<◌, ◌≤◌}
use mathlib.Core.Path.{◌≡◌, refl, sym, ap, ◌∙◌}
use mathlib.Core.List.{List, [], ◌∷◌, ◌++◌}
use native.Mathlib.Omega.{arith}
use lib.IntN.{ℤ, pos, negsuc}
use mir.Syntax.{w64}
use mir.Val.{SFits, of_z, to_z}
use mir.Facts.{to_z-of_z, to_z_pos, to_z-neg}
use lib.ListN.{length, take, drop, set, length-append}
use lib.Seq.{sets, length-sets, sets-eq, set_comm, take_at, length-take-le}
use Rattle.le.proofs.RoundTrip.{sets_append}
use Rattle.decimal.specs.Decimal.{digits, decimal, most_digits, value_text}
use Rattle.decimal.proofs.Digits.{digit_one, digit_more, small_or}
use Rattle.decimal.specs.Put.{Put, last_digits}

pub put_none : (l : List ℕ) (at : ℕ) → Put l at [] at l
put_none l at = record { bytes = refl; past = omega arith }

pub put_then : {l : List ℕ} {at : ℕ} {v : List ℕ} {p : ℕ} {m w : List ℕ} {r : ℕ} {n : List ℕ} → Put l at v p m → Put m p w r n → Put l at (v ++ w) r n
put_then {l} {at} {v} {p} {m} {w} {r} {n} x y = record {
  bytes = y.bytes ∙ rw (x.bytes, x.past) (sym (sets_append l at v w));
  past = omega (arith, x.past, y.past, length-append v w);
}

pub put_length : {l : List ℕ} {at : ℕ} {v : List ℕ} {p : ℕ} {m : List ℕ} → Put l at v p m → length m ≡ length l
put_length {l} {at} {v} x = ap length x.bytes ∙ length-sets l at v

-- ## The loop over a word

-- ## Digits

pub digits_most : (f n : ℕ) → length (digits f n) ≤ f
unfolding digits
digits_most zero n = omega arith
digits_most (suc f) n =
    small_or n
    (λ k. rw (digit_one f n k) (omega arith))
    (λ k. rw (digit_more f n k, length-append (digits f (n / 10)) ((48 + n % 10) ∷ [])) (omega (arith, digits_most f (n / 10))))

pub digits_more_length : (most n : ℕ) → 0 < most → 10 ≤ n → length (digits most n) ≡ length (digits (most - 1) (n / 10)) + 1
digits_more_length most n h k =
    let e : most ≡ suc (most - 1) = omega arith in
    ap (λ (f : ℕ). length (digits f n)) e ∙ ap length (digit_more (most - 1) n k) ∙ length-append (digits (most - 1) (n / 10)) ((48 + n % 10) ∷ [])

pub digits_one_length : (most n : ℕ) → 0 < most → n < 10 → length (digits most n) ≡ 1
digits_one_length most n h k =
    let e : most ≡ suc (most - 1) = omega arith in
    ap (λ (f : ℕ). length (digits f n)) e ∙ ap length (digit_one (most - 1) n k)

pub digits_no_length : (most n : ℕ) → most ≡ 0 → length (digits most n) ≡ 0
unfolding digits
digits_no_length most n e = ap (λ (f : ℕ). length (digits f n)) e

-- ## Digits put from the last one down

one_more : (k : ℕ) → k + 1 ≡ suc k
one_more k = omega arith

last_length : (k n : ℕ) → length (last_digits k n) ≡ k
unfolding last_digits
last_length zero n = refl
last_length (suc k) n = length-append (last_digits k (n / 10)) ((48 + n % 10) ∷ []) ∙ ap (λ (m : ℕ). m + 1) (last_length k (n / 10)) ∙ one_more k

-- as many as a number has are its digits
pub digits_are : (f n : ℕ) → last_digits (length (digits f n)) n ≡ digits f n
unfolding digits last_digits
digits_are zero n = refl
digits_are (suc f) n =
    small_or n
    (λ k. let z : n % 10 ≡ n = omega arith in rw (digit_one f n k) (ap (λ (m : ℕ). (48 + m) ∷ []) z))
    (λ k.
    let t = digits f (n / 10) in
    let e : length (t ++ ((48 + n % 10) ∷ [])) ≡ suc (length t) = length-append t ((48 + n % 10) ∷ []) ∙ one_more (length t) in
    rw (digit_more f n k, e) (ap (λ (l : List ℕ). l ++ ((48 + n % 10) ∷ [])) (digits_are f (n / 10))))

-- the last of some bytes may be put first
last_put : (l : List ℕ) (at : ℕ) (xs : List ℕ) (d : ℕ) → sets l at (xs ++ (d ∷ [])) ≡ sets (set l (at + length xs) d) at xs
last_put l at [] d = let z : at + 0 ≡ at = omega arith in rw z
last_put l at (x ∷ xs) d =
    let z : suc at + length xs ≡ at + suc (length xs) = omega arith in
    last_put (set l at x) (suc at) xs d
    ∙ ap (λ (m : List ℕ). sets m (suc at) xs) (ap (λ (j : ℕ). set (set l at x) j d) z ∙ set_comm l at (at + suc (length xs)) x d (λ e. omega arith))

-- a turn of the loop: p goes down to q
pub digit_turn : (l : List ℕ) (at p q n : ℕ) → at < p → q ≡ p - 1 → sets (set l q (48 + n % 10)) at (last_digits (q - at) (n / 10)) ≡ sets l at (last_digits (p - at) n)
unfolding last_digits
digit_turn l at p q n h e =
    let k = q - at in
    let z : p - at ≡ suc k = omega arith in
    let y : at + length (last_digits k (n / 10)) ≡ q = ap (λ (m : ℕ). at + m) (last_length k (n / 10)) ∙ back in
    rw z (ap (λ (j : ℕ). sets (set l j (48 + n % 10)) at (last_digits k (n / 10))) (sym y) ∙ sym (last_put l at (last_digits k (n / 10)) (48 + n % 10)))
  where
    back : at + (q - at) ≡ q
    back = omega arith

pub digit_end : (l : List ℕ) (at p n : ℕ) → p ≤ at → sets l at (last_digits (p - at) n) ≡ l
unfolding last_digits
digit_end l at p n h = let z : p - at ≡ 0 = omega arith in rw z

pub digits_put : (l m : List ℕ) (at end n k : ℕ) → k ≡ length (decimal n) → end ≡ at + k → m ≡ sets l at (last_digits (end - at) n) → Put l at (decimal n) end m
digits_put l m at end n k e f g =
    let z : end - at ≡ length (decimal n) = omega arith in
    record { bytes = g ∙ ap (λ (j : ℕ). sets l at (last_digits j n)) z ∙ ap (sets l at) (digits_are most_digits n); past = omega arith }

-- ## Values

pub value_most : (v : ℤ) → length (value_text v) ≤ suc most_digits
value_most (pos n) = omega (arith, digits_most most_digits n)
value_most (negsuc n) = omega (arith, digits_most most_digits (suc n))

-- a value by its bits
pub value_plain : (u : ℕ) → u < 2 ^ 63 → decimal u ≡ value_text (to_z w64 u)
value_plain u h = ap value_text (sym (to_z_pos w64 {n = u} h))

pub value_minus : (u : ℕ) → 2 ^ 63 ≤ u → u < 2 ^ 64 → 45 ∷ decimal (18446744073709551615 - u + 1) ≡ value_text (to_z w64 u)
value_minus u h k =
    let n = 18446744073709551615 - u in
    let b : 2 ^ 64 - suc n ≡ u = omega arith in
    let s : n + 1 ≡ suc n = omega arith in
    rw s (ap value_text (sym (to_z-neg w64 n (omega arith)) ∙ ap (to_z w64) b))

-- the bits of a value, taken out of a local and put into another
pub bits_of : (v : ℤ) → SFits w64 v → (u : ℕ) → u ≡ of_z w64 (to_z w64 (of_z w64 v)) → to_z w64 u ≡ v
bits_of v f u e = ap (to_z w64) (e ∙ ap (of_z w64) (to_z-of_z f)) ∙ to_z-of_z f

-- what a buffer starts with once bytes were put at the end of it
pub put_take : {l : List ℕ} {at : ℕ} {w : List ℕ} {r : ℕ} {m : List ℕ} → Put l at w r m → at + length w ≤ length l → take r m ≡ take at l ++ w
put_take {l} {at} {w} {r} {m} x h =
    rw (x.past, x.bytes, sets-eq w l at h)
    (take_at (take at l ++ w) (drop (at + length w) l) (at + length w) (length-append (take at l) w ∙ ap (λ n. n + length w) (length-take-le at l (omega arith))))
