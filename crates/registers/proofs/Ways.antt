-- The four ways of a write to a block of 24 bytes.
use Prim.Native.Nat.{ℕ}
use mathlib.Core.Path.{◌≡◌, refl, ap, ap₂, ◌∙◌}
use mathlib.Core.Bool.{Bool, true, false, ◌&&◌}
use mathlib.Core.List.{List}
use native.Mathlib.Omega.{arith}
use lib.Dec.{eqb, ltb}
use lib.ListN.{length, set}
use borrow.Author.Tests.{eqb-true, eqb-false, eq-eqb, ltb-true, ltb-false}
use Rattle.block.specs.Block.{block_length, command_at, flags_at, mask_at, flags_in, cleared}
use Rattle.registers.specs.Write.{is_command, commanded, refused, stored, write, starts}
use Rattle.registers.proofs.Writes.{write_command, write_none, write_flags, write_low, write_mask, write_other}

pub data Way (s b : List ℕ) (at x : ℕ) : Type 0 where
  was_command : starts b at x ≡ true → (at ≡ flags_at → ⊥) → write s b at x ≡ commanded s b x → Way s b at x
  was_refused : starts b at x ≡ false → (at ≡ flags_at → ⊥) → write s b at x ≡ refused s b → Way s b at x
  was_flags : starts b at x ≡ false → at ≡ flags_at → write s b at x ≡ stored s (set b flags_at (cleared (flags_in b) x)) → Way s b at x
  was_stored : starts b at x ≡ false → (flags_at ≡ at → ⊥) → write s b at x ≡ stored s (set b at x) → Way s b at x

module _ (s b : List ℕ) (at x : ℕ) (l : length b ≡ block_length) where
  all_starts : (p q : Bool) → eqb at command_at ≡ p → is_command x ≡ q → starts b at x ≡ (p && q)
  all_starts p q e f = ap₂ (λ (y z : Bool). y && (z && is_command x)) (eq-eqb (length b) block_length l) e ∙ ap (λ (y : Bool). p && y) f

  pub way : Way s b at x
  way = by (eqb at command_at) refl (is_command x) refl
    where
      low : eqb at command_at ≡ false → (p : Bool) → ltb at command_at ≡ p → (q : Bool) → eqb at flags_at ≡ q → (r : Bool) → eqb at mask_at ≡ r → Way s b at x
      low c true p q f r m =
          let h = ltb-true at command_at p in
          was_stored (all_starts false (is_command x) c refl) (λ e. omega arith) (write_low s b at x l h)
      low c false p true f r m = was_flags (all_starts false (is_command x) c refl) (eqb-true at flags_at f) (write_flags s b at x l (eqb-true at flags_at f))
      low c false p false f true m =
          let e = eqb-true at mask_at m in
          was_stored (all_starts false (is_command x) c refl) (λ q. omega arith) (write_mask s b at x l e)
      low c false p false f false m =
          was_refused (all_starts false (is_command x) c refl) (eqb-false at flags_at f) (write_other s b at x l (ltb-false at command_at p) (eqb-false at command_at c) (eqb-false at flags_at f) (eqb-false at mask_at m))

      by : (p : Bool) → eqb at command_at ≡ p → (q : Bool) → is_command x ≡ q → Way s b at x
      by true c true q = let e = eqb-true at command_at c in was_command (all_starts true true c q) (λ h. omega arith) (write_command s b at x l e q)
      by true c false q = let e = eqb-true at command_at c in was_refused (all_starts true false c q) (λ h. omega arith) (write_none s b at x l e q)
      by false c q e = low c (ltb at command_at) refl (eqb at flags_at) refl (eqb at mask_at) refl
