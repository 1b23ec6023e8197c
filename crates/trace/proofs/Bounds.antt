-- How large a number that was read is, and how far its digits go.
use Prim.Native.Nat.{ℕ, zero, suc, ◌+◌, ◌*◌, ◌-◌, ◌^◌, ◌<◌, ◌≤◌}
use mathlib.Core.Path.{◌≡◌, refl, ap}
use mathlib.Core.Bool.{Bool, true, false, cond}
use mathlib.Core.List.{List, [], ◌∷◌}
use native.Mathlib.Nat.{pow-le-pow_right}
use native.Mathlib.Omega.{arith}
use lib.Dec.{leb, eqb, lit<}
use lib.ListN.{get_or}
use borrow.Author.Tests.{leb-true}
use Rattle.std.specs.Prelude.{Option, Some, None}
use Rattle.lines.specs.declared.Scanned.{Scanned}
use Rattle.lines.specs.Form.{stands, skip, digit, scanned, scan, counted, or_zero, whole}
use Rattle.lines.proofs.Turns.{grows}
use Rattle.operators.proofs.Tests.{right}

-- n digits more after i of them
pub scan_below : (s : List ℕ) (n at v i : ℕ) → v < 10 ^ i → (scan s at v n).value < 10 ^ (i + n)
unfolding scan
scan_below s zero at v i h =
    let e : i + 0 ≡ i = omega arith in
    rw e h
scan_below s (suc n) at v i h = by (digit (get_or s at 0)) refl (λ k. scan_below s n (at + 1) (v * 10 + (get_or s at 0 - 48)) (i + 1) k)
  where
    by : (b : Bool) → digit (get_or s at 0) ≡ b → (v * 10 + (get_or s at 0 - 48) < 10 ^ (i + 1) → (scan s (at + 1) (v * 10 + (get_or s at 0 - 48)) n).value < 10 ^ (i + 1 + n))
        → (cond b (scan s (at + 1) (v * 10 + (get_or s at 0 - 48)) n) (scanned v at)).value < 10 ^ (i + suc n)
    by true e ih =
        let z : i + suc n ≡ i + 1 + n = omega arith in
        let k : get_or s at 0 ≤ 57 = leb-true (get_or s at 0) 57 (right (leb 48 (get_or s at 0)) (leb (get_or s at 0) 57) e) in
        rw z (ih (grows v i (get_or s at 0 - 48) h (omega arith)))
    by false e ih = omega (arith, pow-le-pow_right {n = 10} (lit< tt) {i = i} {j = i + suc n} (omega arith))

pub scan_near : (s : List ℕ) (n at v : ℕ) → (scan s at v n).next ≤ at + n
unfolding scan
scan_near s zero at v = omega arith
scan_near s (suc n) at v = by (digit (get_or s at 0)) (scan_near s n (at + 1) (v * 10 + (get_or s at 0 - 48)))
  where
    by : (b : Bool) → (scan s (at + 1) (v * 10 + (get_or s at 0 - 48)) n).next ≤ at + 1 + n
        → (cond b (scan s (at + 1) (v * 10 + (get_or s at 0 - 48)) n) (scanned v at)).next ≤ at + suc n
    by true h = omega arith
    by false h = omega arith

-- a word found ends its length on
pub skip_near : (s w : List ℕ) (at p : ℕ) → skip s at w ≡ Some p → p ≡ at + lib.ListN.length w
unfolding skip
skip_near s [] at p e = let z : at ≡ p = cc in omega arith
skip_near s (c ∷ w) at p e = by (stands s at c) e (λ q. skip_near s w (at + 1) p q)
  where
    by : (b : Bool) → cond b (skip s (at + 1) w) None ≡ Some p → (skip s (at + 1) w ≡ Some p → p ≡ at + 1 + lib.ListN.length w) → p ≡ at + suc (lib.ListN.length w)
    by true q ih = omega (arith, ih q)
    by false q ih = let z : ◌≡◌ {A = ℕ} 0 1 = cc in absurd (omega arith)

-- what a number is and where it ends, once it was found
pub record Small (at max v p : ℕ) : Type 0 where
  pub below : v < 10 ^ max
  pub near : p ≤ at + max

-- what is found, taken apart
abbrev first_or : {A : Type 0} → A → Option (A × ℕ) → A
first_or d (Some (x, p)) = x
first_or d None = d

abbrev second_of : {A : Type 0} → Option (A × ℕ) → ℕ
second_of (Some (x, p)) = p
second_of None = 0

pub same_first : {A : Type 0} {x y : A} {p q : ℕ} → ◌≡◌ {A = Option (A × ℕ)} (Some (x, p)) (Some (y, q)) → x ≡ y
same_first {A} {x} e = ap (λ (o : Option (A × ℕ)). first_or x o) e

pub same_second : {A : Type 0} {x y : A} {p q : ℕ} → ◌≡◌ {A = Option (A × ℕ)} (Some (x, p)) (Some (y, q)) → p ≡ q
same_second {A} e = ap (λ (o : Option (A × ℕ)). second_of o) e

counted_small : (at max v p : ℕ) (r : Scanned) → r.value < 10 ^ max → r.next ≤ at + max → counted at r ≡ Some (v, p) → Small at max v p
counted_small at max v p r h k e = by (eqb r.next at) e
  where
    by : (b : Bool) → cond {A = Option (ℕ × ℕ)} b None (Some (r.value, r.next)) ≡ Some (v, p) → Small at max v p
    by true q = let z : ◌≡◌ {A = ℕ} 0 1 = cc in absurd (omega arith)
    by false q =
        let x : r.value ≡ v = same_first q in
        let y : r.next ≡ p = same_second q in
        record { below = omega arith; near = omega arith }

pub whole_small : (s : List ℕ) (at max v p : ℕ) → 0 < max → whole s at max ≡ Some (v, p) → Small at max v p
unfolding whole
whole_small s at max v p m e = by (skip s at (48 ∷ [])) refl e
  where
    by : (x : Option ℕ) → skip s at (48 ∷ []) ≡ x → or_zero x (counted at (scan s at 0 max)) ≡ Some (v, p) → Small at max v p
    by (Some q) k h =
        let x : 0 ≡ v = same_first h in
        let y : q ≡ p = same_second h in
        record { below = omega (arith, pow-le-pow_right {n = 10} (lit< tt) {i = 0} {j = max} (omega arith)); near = omega (arith, skip_near s (48 ∷ []) at q k) }
    by None k h =
        let z : 0 + max ≡ max = omega arith in
        counted_small at max v p (scan s at 0 max) (rw z at (scan_below s max at 0 0 (lit< tt))) (scan_near s max at 0) h
