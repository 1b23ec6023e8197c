-- Why an event is missing: the arms of the code are what the equation says.
use Prim.Native.Nat.{ℕ}
use mathlib.Core.Path.{◌≡◌, refl, sym}
use mathlib.Core.Bool.{false}
use Rattle.std.specs.Prelude.{Option, None, Some, Ok, Err}
use lib.IntN.{ℤ}
use Rattle.std.specs.Result.{result_err}
use Rattle.num.specs.Arithmetic.{Answer, negated, added}
use Rattle.meaning.specs.Plan as plan
use Rattle.meaning.specs.Table.{calculated, two_at}
use Rattle.meaning.specs.Missing.{Reason, Outside, ZeroDivisor, lacks, said_for, one_says, calc_says, two_says}
use Rattle.meaning.proofs.Missing.{one_lacks, valued_lacks}
use Rattle.apply.specs.declared.Unary.{Unary}
use Rattle.apply.specs.declared.Unary.TheVariants.{Time, Set, Plus, Neg}
use Rattle.apply.specs.declared.Calc.{Calc}
use Rattle.apply.specs.declared.Binary.{Binary}
use Rattle.apply.specs.declared.Binary.TheVariants.{Arith, Keep, Merge}
use Rattle.apply.specs.Named.{unary, calculation, binary}
use Rattle.apply.specs.Lack.{lack_for}

-- the reason in an answer
pub err_is : (q : Reason) (x : Answer) → lack_for q (result_err x) ≡ lacks q x
err_is q (Ok v) = refl
err_is Outside (Err Outside) = refl
err_is Outside (Err ZeroDivisor) = refl
err_is ZeroDivisor (Err Outside) = refl
err_is ZeroDivisor (Err ZeroDivisor) = refl

-- nothing to work on
pub one_none : (q : Reason) (f : Unary) (t : ℕ) (x : Option ℤ) → x ≡ None → false ≡ said_for q (one_says (unary f) t x)
unfolding one_says
one_none q Time t x e = rw e
one_none q (Set k) t x e = rw e
one_none q (Plus k) t x e = rw e
one_none q Neg t x e = rw e

pub calc_first : (q : Reason) (c : plan.Calc) (x y : Option ℤ) → x ≡ None → false ≡ said_for q (calc_says c x y)
unfolding calc_says
calc_first q c x y e = rw e

pub calc_second : (q : Reason) (c : plan.Calc) (v : ℤ) (x y : Option ℤ) → x ≡ Some v → y ≡ None → false ≡ said_for q (calc_says c x y)
unfolding calc_says
calc_second q c v x y d e = rw (d, e)

-- what the arithmetic says
pub calc_both : (q : Reason) (c : plan.Calc) (v w : ℤ) (x y : Option ℤ) → x ≡ Some v → y ≡ Some w → lacks q (calculated c v w) ≡ said_for q (calc_says c x y)
unfolding calc_says
calc_both q c v w x y d e = rw (d, e)

-- time and set always have a value, plus and neg what the arithmetic says
pub time_lacks : (q : Reason) (t : ℕ) {f : Unary} (x : Option ℤ) → f ≡ Time → false ≡ said_for q (one_says (unary f) t x)
time_lacks q t x e = rw e (sym (one_lacks plan.time refl q t x))

pub set_lacks : (q : Reason) (t : ℕ) {f : Unary} (k : ℤ) (x : Option ℤ) → f ≡ Set k → false ≡ said_for q (one_says (unary f) t x)
set_lacks q t k x e = rw e (sym (one_lacks (plan.set k) refl q t x))

pub plus_lacks : (q : Reason) (t : ℕ) {f : Unary} (k v : ℤ) (x : Option ℤ) → f ≡ Plus k → x ≡ Some v → lacks q (added v k) ≡ said_for q (one_says (unary f) t x)
unfolding one_says
plus_lacks q t k v x e d = rw (e, d)

pub neg_lacks : (q : Reason) (t : ℕ) {f : Unary} (v : ℤ) (x : Option ℤ) → f ≡ Neg → x ≡ Some v → lacks q (negated v) ≡ said_for q (one_says (unary f) t x)
unfolding one_says
neg_lacks q t v x e d = rw (e, d)

-- keep and merge have one for whatever they work on
pub arith_lacks : (q : Reason) {g : Binary} {c : Calc} (x y : Option ℤ) → g ≡ Arith c → said_for q (calc_says (calculation c) x y) ≡ said_for q (two_says (binary g) x y)
unfolding two_says
arith_lacks q x y e = rw e

pub keep_lacks : (q : Reason) {g : Binary} (x y : Option ℤ) → g ≡ Keep → false ≡ said_for q (two_says (binary g) x y)
unfolding two_says
keep_lacks q x y e = rw e (sym (valued_lacks q (two_at plan.keep x y)))

pub merge_lacks : (q : Reason) {g : Binary} (x y : Option ℤ) → g ≡ Merge → false ≡ said_for q (two_says (binary g) x y)
unfolding two_says
merge_lacks q x y e = rw e (sym (valued_lacks q (two_at plan.merge x y)))
