-- The laws that the functions of this crate cite: one for each way out.
use Prim.Native.Nat.{ℕ, zero, suc, pred, ◌-◌, ◌<◌, ◌≤◌}
use mathlib.Core.Path.{◌≡◌, refl, sym, ap, ap₂, ◌∙◌}
use mathlib.Core.Bool.{Bool, true, false, ◌&&◌, ◌||◌, false≢true}
use mathlib.Core.Logic.{◌⊎◌, inl, inr}
use Rattle.std.specs.Prelude.{Option, None, Some, is_some}
use mathlib.Core.List.{List}
use native.Mathlib.Omega.{arith}
use lib.Dec.{ltb, eqb}
use lib.IntN.{ℤ, pos, negsuc}
use borrow.Author.Tests.{lt-ltb, le-ltb, ne_eqb}
use Rattle.meaning.specs.Plan.{Calc, calc}
use Rattle.meaning.specs.Events.{has}
use Rattle.meaning.specs.Table.{is, unit_at, two_at, signal_at}
use Rattle.machine.specs.Reach as machine
use Rattle.streams.specs.declared.Op.{Op}
use Rattle.streams.specs.declared.Look.{Look}
use Rattle.streams.specs.Look.{plain, own_of, arg_of}
use Rattle.events.specs.Near.{size}

-- ---- a value as a number of stamps

is_size : (n : ℕ) (o : Option ℤ) → 0 < n → eqb (size o) n ≡ is n o
is_size n None h = ne_eqb 0 n (λ e. omega arith)
is_size n (Some (pos m)) h = refl
is_size n (Some (negsuc m)) h = ne_eqb 0 n (λ e. omega arith)

-- ---- due

pub due_none : (z : ℕ) (b : Bool) → z ≡ 0 → false ≡ (ltb 0 z && b)
due_none z b e = rw (le-ltb 0 z (omega arith))

pub due_some : (z t n : ℕ) (o : Option ℤ) → (z ≡ 0 → ⊥) → z ≤ t → n ≡ size o → eqb n (t - (z - 1)) ≡ (ltb 0 z && is (t - pred z) o)
due_some z t n o h l e =
    let w : t - (z - 1) ≡ t - pred z = omega arith in
    ap₂ eqb e w ∙ is_size (t - pred z) o (omega arith) ∙ sym (ap (λ b. b && is (t - pred z) o) (lt-ltb 0 z (omega arith)))

-- ---- unit

pub unit_zero : (t : ℕ) → t ≡ 0 → Some (pos 0) ≡ unit_at t
unfolding unit_at
unit_zero t e = ap unit_at (sym e)

pub unit_later : (t : ℕ) → (t ≡ 0 → ⊥) → None ≡ unit_at t
unfolding unit_at
unit_later zero h = absurd (h refl)
unit_later (suc t) h = refl

-- ---- an arm of a match on the operator

pub gives_arm : (l : Look) (A B : List ℕ) (t : ℕ) {p q : Op} → p ≡ q
    → machine.gives (plain q) (own_of l.stream) (arg_of l.abound A) (arg_of l.bbound B) t ≡ machine.gives (plain p) (own_of l.stream) (arg_of l.abound A) (arg_of l.bbound B) t
gives_arm l A B t e = sym (ap (λ (o : Op). machine.gives (plain o) (own_of l.stream) (arg_of l.abound A) (arg_of l.bbound B) t) e)

-- ---- whether there is a value

pub is_some_has : (o : Option ℤ) → is_some o ≡ has o
is_some_has None = refl
is_some_has (Some v) = refl

pub neither_has : (u w : Option ℤ) → is_some u ≡ false → is_some w ≡ false → (has u || has w) ≡ false
neither_has None None e q = refl
neither_has None (Some v) e q = absurd (false≢true (sym q))
neither_has (Some v) w e q = absurd (false≢true (sym e))

pub either_has : (u w : Option ℤ) → (is_some u ≡ true) ⊎ (is_some w ≡ true) → (has u || has w) ≡ true
either_has (Some v) w e = refl
either_has None (Some v) e = refl
either_has None None (inl e) = absurd (false≢true e)
either_has None None (inr e) = absurd (false≢true e)

-- a signal form, where neither argument has an event and where one has
module _ (c : Calc) (u w x y : Option ℤ) where
  pub signal_none : is_some u ≡ false → is_some w ≡ false → None ≡ signal_at c u w x y
  unfolding signal_at
  signal_none e q = let k : (has u || has w) ≡ false = neither_has u w e q in rw k

  pub signal_some : (is_some u ≡ true) ⊎ (is_some w ≡ true) → two_at (calc c) x y ≡ signal_at c u w x y
  unfolding signal_at
  signal_some e = let k : (has u || has w) ≡ true = either_has u w e in rw k
