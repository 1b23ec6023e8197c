-- The arms of the code are the rows of the table.
use Prim.Native.Nat.{ℕ, suc, ◌-◌, ◌<◌, ◌^◌}
use mathlib.Core.Path.{◌≡◌, refl, sym, ap, ap₂, ◌∙◌}
use mathlib.Core.Bool.{true, false, cond}
use Rattle.std.specs.Prelude.{Option, None, Some, Ok, Err}
use native.Mathlib.Omega.{arith}
use lib.Dec.{eqb}
use lib.IntN.{ℤ, pos, negsuc}
use lib.Signed.{mag}
use borrow.Author.Tests.{eq-eqb, ne_eqb}
use mir.Syntax.{w64}
use mir.Val.{SFits, to_z, of_z}
use mir.Facts.{to_z-of_z}
use Rattle.num.specs.Arithmetic.{Answer, is_zero}
use Rattle.meaning.specs.Plan as plan
use Rattle.std.specs.Option.{option_or}
use Rattle.meaning.specs.Table.{one_at, two_at, calculated, value_of}
use Rattle.std.specs.Result.{result_ok}
use Rattle.apply.specs.declared.Unary.{Unary}
use Rattle.apply.specs.declared.Calc.{Calc}
use Rattle.apply.specs.declared.Binary.{Binary}
use Rattle.apply.specs.Named.{unary, calculation, binary}

-- a value that passed through its bits
pub back : (z : ℤ) → mag z < 2 ^ 63 → to_z w64 (of_z w64 z) ≡ z
back z h = to_z-of_z {w = w64} (record { sfits = h })

-- a call on two values, passed as their bits
pub called : (f : ℤ → ℤ → Answer) {v w : ℤ} {r : Answer} → SFits w64 v → SFits w64 w → r ≡ f (to_z w64 (of_z w64 v)) (to_z w64 (of_z w64 w)) → r ≡ f v w
called f a b e = e ∙ ap₂ f (to_z-of_z a) (to_z-of_z b)

-- the value of an answer
pub ok_is : (x : Answer) → result_ok x ≡ value_of x
unfolding value_of
ok_is (Ok v) = refl
ok_is (Err q) = refl

-- the arms of a match
pub calc_arm : {g h : Calc} (v w : ℤ) → g ≡ h → calculated (calculation h) v w ≡ calculated (calculation g) v w
calc_arm v w e = sym (ap (λ (q : Calc). calculated (calculation q) v w) e)

pub one_arm : (t : ℕ) {f g : Unary} {x y : Option ℤ} → f ≡ g → x ≡ y → one_at (unary g) t y ≡ one_at (unary f) t x
one_arm t e q = sym (ap₂ (λ (f : Unary) (x : Option ℤ). one_at (unary f) t x) e q)

pub two_arm : (g : plan.Binary) {x x' y y' : Option ℤ} → x ≡ x' → y ≡ y' → two_at g x' y' ≡ two_at g x y
two_arm g e q = sym (ap₂ (two_at g) e q)

pub group_arm : {g h : Binary} (x y : Option ℤ) → g ≡ h → two_at (binary h) x y ≡ two_at (binary g) x y
group_arm x y e = sym (ap (λ (q : Binary). two_at (binary q) x y) e)

-- no bits but those of 0 are 0
pub zero_bits : (v : ℤ) → SFits w64 v → eqb (of_z w64 v) 0 ≡ is_zero v
unfolding is_zero
zero_bits (pos n) h = refl
zero_bits (negsuc n) h =
    let k : n < 2 ^ 63 = h.sfits in
    ne_eqb (2 ^ 64 - suc n) 0 (λ e. omega arith)

-- keep
keep_is : (v w : ℤ) → two_at plan.keep (Some v) (Some w) ≡ cond (is_zero w) None (Some v)
unfolding two_at
keep_is v w = refl

pub keep_none : (v w : ℤ) → is_zero w ≡ true → None ≡ two_at plan.keep (Some v) (Some w)
keep_none v w e = sym (keep_is v w ∙ rw e)

pub keep_some : (v w : ℤ) → is_zero w ≡ false → Some v ≡ two_at plan.keep (Some v) (Some w)
keep_some v w e = sym (keep_is v w ∙ rw e)

-- the same by the bits
pub keep_zero : (v w : ℤ) → mag w < 2 ^ 63 → of_z w64 w ≡ 0 → None ≡ two_at plan.keep (Some v) (Some w)
keep_zero v w h e = keep_none v w (sym (zero_bits w (record { sfits = h })) ∙ eq-eqb (of_z w64 w) 0 e)

pub keep_other : (v w : ℤ) → mag w < 2 ^ 63 → (of_z w64 w ≡ 0 → ⊥) → Some v ≡ two_at plan.keep (Some v) (Some w)
keep_other v w h e = keep_some v w (sym (zero_bits w (record { sfits = h })) ∙ ne_eqb (of_z w64 w) 0 e)

-- merge is `or else`
pub merge_is : (x y : Option ℤ) → option_or x y ≡ two_at plan.merge x y
unfolding two_at
merge_is None y = refl
merge_is (Some x) y = refl
