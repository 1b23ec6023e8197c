-- Laws of bytes that are all 0.
use Prim.Native.Nat.{ℕ, zero, suc, ◌+◌, ◌*◌, ◌/◌, ◌%◌, ◌<◌, max}
use mathlib.Core.Path.{◌≡◌, refl, sym, ap, ap₂, ◌∙◌}
use mathlib.Core.Bool.{Bool, true, false, cond}
use mathlib.Core.List.{List, [], ◌∷◌}
use native.Mathlib.Omega.{arith}
use native.Mathlib.Decide.{ℕ_discrete}
use borrow.Author.Tests.{eq-eqb, ne_eqb}
use lib.Arith.{bin_ind}
use lib.Bits.{bit_or, or_step}
use lib.Dec.{eqb}
use lib.ListN.{length, get_or, take, drop}
use lib.Seq.{drop-cons, take-take, drop-drop}
use Rattle.std.specs.Bool.{MatchBool}
use Rattle.std.specs.List.{AllWithin, HoldsAt}
use Rattle.le.specs.Bytes.{part, all_zero}
use Rattle.le.proofs.RoundTrip.{drop_take}

-- the first n, and the rest
zero_parts : (n : ℕ) (l : List ℕ) → all_zero l ≡ cond (all_zero (take n l)) (all_zero (drop n l)) false
unfolding all_zero
zero_parts zero l = refl
zero_parts (suc n) [] = refl
zero_parts (suc n) (x ∷ l) = go (eqb x 0) (zero_parts n l)
  where
    go : (p : Bool) → all_zero l ≡ cond (all_zero (take n l)) (all_zero (drop n l)) false
        → cond p (all_zero l) false ≡ cond (cond p (all_zero (take n l)) false) (all_zero (drop n l)) false
    go true e = e
    go false e = refl

-- from index i on: n bytes, and the rest
pub zero_block : (s : List ℕ) (i n : ℕ) → all_zero (drop i s) ≡ cond (all_zero (part s i n)) (all_zero (drop (i + n) s)) false
zero_block s i n = zero_parts n (drop i s) ∙ ap (λ (l : List ℕ). cond (all_zero (part s i n)) (all_zero l) false) (drop-drop n i s)

zero_part : (s : List ℕ) (i n m : ℕ) → all_zero (part s i (n + m)) ≡ cond (all_zero (part s i n)) (all_zero (part s (i + n) m)) false
zero_part s i n m =
    let l = drop i s in
    zero_parts n (take (n + m) l)
    ∙ ap₂ (λ (a b : List ℕ). cond (all_zero a) (all_zero b) false) (take-take n (n + m) l (omega arith)) (drop_take n m l ∙ ap (take m) (drop-drop n i s))

pub zero_one : (s : List ℕ) (i : ℕ) → i < length s → all_zero (part s i 1) ≡ eqb (get_or s i 0) 0
unfolding all_zero
zero_one s i h = rw (drop-cons s i 0 h) (go (eqb (get_or s i 0) 0))
  where
    go : (p : Bool) → cond p true false ≡ p
    go true = refl
    go false = refl

or_none : (x : ℕ) (y : ℕ) → bit_or x y ≡ 0 → (x ≡ 0) × (y ≡ 0)
or_none = bin_ind (λ (x : ℕ). (y : ℕ) → bit_or x y ≡ 0 → (x ≡ 0) × (y ≡ 0)) (λ y e. (refl, e)) (λ x ih y e. step x y (ih (y / 2)) (sym (or_step x y) ∙ e))
  where
    step : (x y : ℕ) → (bit_or (x / 2) (y / 2) ≡ 0 → (x / 2 ≡ 0) × (y / 2 ≡ 0)) → bit_or (x / 2) (y / 2) * 2 + max (x % 2) (y % 2) ≡ 0 → (x ≡ 0) × (y ≡ 0)
    step x y ih e = let h = ih (omega arith) in (omega arith, omega arith)

or_zero_lem : (x y : ℕ) → eqb (bit_or x y) 0 ≡ cond (eqb x 0) (eqb y 0) false
or_zero_lem x y = go (ℕ_discrete x 0) (ℕ_discrete y 0)
  where
    go : Dec (x ≡ 0) → Dec (y ≡ 0) → eqb (bit_or x y) 0 ≡ cond (eqb x 0) (eqb y 0) false
    go (yes a) b = rw a
    go (no a) b = rw (ne_eqb x 0 a, ne_eqb (bit_or x y) 0 (λ q. a (or_none x y q).0))

-- the bits of two neighbours together
pub zero_join : (s : List ℕ) (i n m x y : ℕ) → eqb x 0 ≡ all_zero (part s i n) → eqb y 0 ≡ all_zero (part s (i + n) m) → eqb (bit_or x y) 0 ≡ all_zero (part s i (n + m))
zero_join s i n m x y p q = or_zero_lem x y ∙ ap₂ (λ (a b : Bool). cond a b false) p q ∙ sym (zero_part s i n m)

-- ---- one turn of a loop over blocks of n bytes
pub zero_turn : (s : List ℕ) (i n x : ℕ) → eqb x 0 ≡ all_zero (part s i n) → x ≡ 0 → all_zero (drop (i + n) s) ≡ all_zero (drop i s)
zero_turn s i n x p e = sym (rw (← p, eq-eqb x 0 e) at (zero_block s i n))

pub zero_not : (s : List ℕ) (i n x : ℕ) → eqb x 0 ≡ all_zero (part s i n) → (x ≡ 0 → ⊥) → false ≡ all_zero (drop i s)
zero_not s i n x p e = sym (rw (← p, ne_eqb x 0 e) at (zero_block s i n))

-- ---- what a test of each byte says

all_yes : (l : List ℕ) → ((k : ℕ) → k < length l → get_or l k 0 ≡ 0) → true ≡ all_zero l
unfolding all_zero
all_yes [] h = refl
all_yes (x ∷ l) h = rw (eq-eqb x 0 (h 0 (omega arith))) (all_yes l (λ k b. h (suc k) (omega arith)))

all_no : (l : List ℕ) (k : ℕ) → k < length l → (get_or l k 0 ≡ 0 → ⊥) → false ≡ all_zero l
unfolding all_zero
all_no [] k b n = absurd (omega arith)
all_no (x ∷ l) zero b n = rw (ne_eqb x 0 n)
all_no (x ∷ l) (suc k) b n = go (eqb x 0) (all_no l k (omega arith) n)
  where
    go : (p : Bool) → false ≡ all_zero l → false ≡ cond p (all_zero l) false
    go true e = e
    go false e = refl

pub zero_all : (b : Bool) (l : List ℕ) → MatchBool b (AllWithin (λ x. x ≡ 0) l 0 (length l)) ((k : ℕ) × (k < length l) × HoldsAt (λ x. x ≡ 0 → ⊥) l k) → b ≡ all_zero l
zero_all true l h = all_yes l (λ k b. h k 0 (omega arith) b)
zero_all false l h = all_no l h.0 h.1 (h.2 0)
