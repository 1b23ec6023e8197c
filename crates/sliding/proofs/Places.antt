-- The width of a window as the code cuts it, and the windows before a record, counted one by one.
use Prim.Native.Nat.{ℕ, zero, suc, ◌+◌, ◌^◌, ◌<◌, ◌≤◌}
use mathlib.Core.Path.{◌≡◌, refl, sym, ap, ◌∙◌}
use mathlib.Core.Bool.{Bool, true, false, cond, false≢true}
use mathlib.Core.List.{List, [], ◌∷◌}
use native.Mathlib.Omega.{arith}
use lib.Dec.{T}
use lib.ListN.{length, get_or}
use lib.IntN.{ℤ, pos, negsuc, nat_abs}
use lib.Signed.{mag, non_neg, lt_z}
use mir.Syntax.{w64}
use mir.Val.{Fits}
use borrow.Author.Tests.{ltb-true, ltb-false}
use Rattle.meaning.specs.Table.{width}
use Rattle.operators.specs.Operators.{group_of, is_window}
use Rattle.layout.specs.Record.{Raw, no_raw, num, op_f}
use Rattle.sliding.specs.Slide.{width_in, windows_before}

-- ---- the width

pub width_low : (k : ℤ) → lt_z k (pos 1) ≡ true → 1 ≡ width_in k
width_low (pos n) e = let h = ltb-true n 1 e in omega arith
width_low (negsuc n) e = refl

pub width_cast : (k : ℤ) → mag k < 2 ^ 63 → lt_z k (pos 1) ≡ false → T (non_neg k) × Fits w64 (nat_abs k)
width_cast (pos n) h e = (tt, record { fits = omega arith })
width_cast (negsuc n) h e = absurd (false≢true (sym e))

pub width_is : (k : ℤ) → lt_z k (pos 1) ≡ false → (nat_abs k ≡ width k) × (1 ≤ width k)
width_is (pos n) e = (refl, ltb-false n 1 e)
width_is (negsuc n) e = absurd (false≢true (sym e))

-- ---- the windows before a record

-- of one record more
pub one_more : (r : ℕ) (l : List Raw) → r < length l → windows_before (suc r) l ≡ cond (is_window (group_of (num op_f (get_or l r no_raw)))) (suc (windows_before r l)) (windows_before r l)
unfolding windows_before
one_more r [] h = absurd (omega arith)
one_more zero (x ∷ l) h = refl
one_more (suc r) (x ∷ l) h = go (is_window (group_of (num op_f x))) (is_window (group_of (num op_f (get_or l r no_raw)))) (one_more r l (omega arith))
  where
    go : (b c : Bool) → windows_before (suc r) l ≡ cond c (suc (windows_before r l)) (windows_before r l)
        → cond b (suc (windows_before (suc r) l)) (windows_before (suc r) l) ≡ cond c (suc (cond b (suc (windows_before r l)) (windows_before r l))) (cond b (suc (windows_before r l)) (windows_before r l))
    go true true e = ap suc e
    go true false e = ap suc e
    go false true e = e
    go false false e = e

-- a turn of the count, from record i down
pub count_turn : (r i j : ℕ) (w : Bool) (l : List Raw) → r < length l → w ≡ is_window (group_of (num op_f (get_or l r no_raw))) → j + windows_before (suc r) l ≡ windows_before i l
    → cond w (suc j) j + windows_before r l ≡ windows_before i l
count_turn r i j true l h q e =
    let k : windows_before (suc r) l ≡ suc (windows_before r l) = one_more r l h ∙ ap (λ b. cond b (suc (windows_before r l)) (windows_before r l)) (sym q) in
    omega arith
count_turn r i j false l h q e =
    let k : windows_before (suc r) l ≡ windows_before r l = one_more r l h ∙ ap (λ b. cond b (suc (windows_before r l)) (windows_before r l)) (sym q) in
    omega arith

pub count_few : (j : ℕ) (w : Bool) → cond w (suc j) j ≤ suc j
count_few j true = omega arith
count_few j false = omega arith

pub count_end : (i j r : ℕ) (l : List Raw) → r ≡ 0 → j + windows_before r l ≡ windows_before i l → j ≡ windows_before i l
unfolding windows_before
count_end i j r l e q = let z : windows_before r l ≡ 0 = ap (λ (m : ℕ). windows_before m l) e in omega arith
