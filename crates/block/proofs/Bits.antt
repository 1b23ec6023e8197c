-- The bits of the flags' byte after it is set, raised or cleared.
use Prim.Native.Nat.{ℕ, zero, suc, ◌+◌, ◌*◌, ◌/◌, ◌%◌, ◌^◌, ◌≤◌}
use mathlib.Core.Path.{◌≡◌, sym, ap, ◌∙◌}
use mathlib.Core.Bool.{Bool, true, false, not, ◌&&◌, ◌||◌}
use native.Mathlib.Omega.{arith}
use native.Mathlib.Nat.{pow-suc, div-div-eq-div-mul}
use lib.Dec.{eqb}
use borrow.Author.Tests.{eq-eqb, ne_eqb}
use Rattle.block.specs.Block.{bit, with_flags, cleared, raised}

module _ (f : ℕ) where
  pub set_zero : (zero one : Bool) → bit 0 (with_flags f zero one) ≡ zero
  unfolding with_flags
  set_zero true true = eq-eqb ((f / 4 * 4 + (2 + 1)) / 2 ^ 0 % 2) 1 (omega arith)
  set_zero true false = eq-eqb ((f / 4 * 4 + (0 + 1)) / 2 ^ 0 % 2) 1 (omega arith)
  set_zero false true = ne_eqb ((f / 4 * 4 + (2 + 0)) / 2 ^ 0 % 2) 1 (λ e. omega arith)
  set_zero false false = ne_eqb ((f / 4 * 4 + (0 + 0)) / 2 ^ 0 % 2) 1 (λ e. omega arith)

  pub set_one : (zero one : Bool) → bit 1 (with_flags f zero one) ≡ one
  unfolding with_flags
  set_one true true = eq-eqb ((f / 4 * 4 + (2 + 1)) / 2 ^ 1 % 2) 1 (omega arith)
  set_one true false = ne_eqb ((f / 4 * 4 + (0 + 1)) / 2 ^ 1 % 2) 1 (λ e. omega arith)
  set_one false true = eq-eqb ((f / 4 * 4 + (2 + 0)) / 2 ^ 1 % 2) 1 (omega arith)
  set_one false false = ne_eqb ((f / 4 * 4 + (0 + 0)) / 2 ^ 1 % 2) 1 (λ e. omega arith)

  set_quarter : (zero one : Bool) → with_flags f zero one / 4 ≡ f / 4
  unfolding with_flags
  set_quarter true true = omega arith
  set_quarter true false = omega arith
  set_quarter false true = omega arith
  set_quarter false false = omega arith

-- a bit from 2 on is one of the fourth part
upper : (i f : ℕ) → f / 2 ^ suc (suc i) ≡ f / 4 / 2 ^ i
upper i f =
    let e : 2 ^ suc (suc i) ≡ 4 * 2 ^ i = omega (arith, pow-suc 2 (suc i), pow-suc 2 i) in
    ap (λ (m : ℕ). f / m) e ∙ sym (div-div-eq-div-mul f 4 (2 ^ i))

pub set_others : (f : ℕ) (zero one : Bool) (i : ℕ) → 2 ≤ i → bit i (with_flags f zero one) ≡ bit i f
set_others f z o zero h = absurd (omega arith)
set_others f z o (suc zero) h = absurd (omega arith)
set_others f z o (suc (suc i)) h =
    ap (λ (y : ℕ). eqb (y % 2) 1) (upper i (with_flags f z o) ∙ ap (λ (y : ℕ). y / 2 ^ i) (set_quarter f z o) ∙ sym (upper i f))

module _ (f k : ℕ) (w : Bool) where
  pub raised_zero : bit 0 (raised f k w) ≡ (bit 0 f || not (eqb k 0))
  unfolding raised
  raised_zero = set_zero f (bit 0 f || not (eqb k 0)) (bit 1 f || w)

  pub raised_one : bit 1 (raised f k w) ≡ (bit 1 f || w)
  unfolding raised
  raised_one = set_one f (bit 0 f || not (eqb k 0)) (bit 1 f || w)

  pub raised_others : (i : ℕ) → 2 ≤ i → bit i (raised f k w) ≡ bit i f
  unfolding raised
  raised_others = set_others f (bit 0 f || not (eqb k 0)) (bit 1 f || w)

module _ (f x : ℕ) where
  pub cleared_zero : bit 0 (cleared f x) ≡ (bit 0 f && not (bit 0 x))
  unfolding cleared
  cleared_zero = set_zero f (bit 0 f && not (bit 0 x)) (bit 1 f && not (bit 1 x))

  pub cleared_one : bit 1 (cleared f x) ≡ (bit 1 f && not (bit 1 x))
  unfolding cleared
  cleared_one = set_one f (bit 0 f && not (bit 0 x)) (bit 1 f && not (bit 1 x))

  pub cleared_others : (i : ℕ) → 2 ≤ i → bit i (cleared f x) ≡ bit i f
  unfolding cleared
  cleared_others = set_others f (bit 0 f && not (bit 0 x)) (bit 1 f && not (bit 1 x))
