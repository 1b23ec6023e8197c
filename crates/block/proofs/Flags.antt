-- The flags' byte and the line, as the code works them out.
use Prim.Native.Nat.{ℕ, ◌+◌, ◌*◌, ◌/◌, ◌%◌, ◌^◌, ◌≤◌}
use mathlib.Core.Path.{◌≡◌, refl, sym, ap, ap₂, ◌∙◌}
use mathlib.Core.Bool.{Bool, true, false, cond, ◌&&◌, ◌||◌}
use mathlib.Core.List.{List}
use native.Mathlib.Omega.{arith}
use lib.Dec.{eqb}
use lib.IntN.{ℤ}
use lib.ListN.{length}
use lib.Seq.{sets}
use borrow.Author.Tests.{eq-eqb, ne_eqb}
use mir.Syntax.{w64}
use mir.Val.{of_z}
use Rattle.le.specs.Bytes.{enc}
use Rattle.block.specs.Block.{block_length, flags_in, mask_in, filled, bit, with_flags, line_up, Line, line}

pub bit_zero : (f : ℕ) → eqb (f % 2) 1 ≡ bit 0 f
bit_zero f = let e : f ≡ f / 2 ^ 0 = omega arith in ap (λ (y : ℕ). eqb (y % 2) 1) e

pub bit_one : (f : ℕ) → eqb (f / 2 % 2) 1 ≡ bit 1 f
bit_one f = refl

pub flags_are : (f u v : ℕ) (zero one : Bool) → u ≡ cond one 2 0 → v ≡ cond zero 1 0 → f / 4 * 4 + (u + v) ≡ with_flags f zero one
unfolding with_flags
flags_are f u v zero one eu ev = ap₂ (λ (y z : ℕ). f / 4 * 4 + (y + z)) eu ev

pub weight_most : (b : Bool) (k : ℕ) → cond b k 0 ≤ k
weight_most true k = omega arith
weight_most false k = omega arith

pub filled_is : (b b₁ b₂ : List ℕ) (t u : ℕ) (v : ℤ) → b₁ ≡ sets b 8 (enc 8 u) → u ≡ of_z w64 v → b₂ ≡ sets b₁ 20 (enc 4 t) → b₂ ≡ filled t v b
unfolding filled
filled_is b b₁ b₂ t u v e₁ eu e₂ = e₂ ∙ ap (λ (y : List ℕ). sets y 20 (enc 4 t)) (e₁ ∙ ap (λ (y : ℕ). sets b 8 (enc 8 y)) eu)

module _ (b : List ℕ) where
  pub line_17 : (length b ≡ block_length → ⊥) → (17 ≡ (line b).number) × (0 ≡ (line b).up)
  unfolding line
  line_17 d = rw (ne_eqb (length b) block_length d) (refl, refl)

  module _ (l : length b ≡ block_length) (u p q a a' c c' : Bool) (eu : u ≡ (p || q)) (ep : p ≡ (a && a')) (eq : q ≡ (c && c')) (ea : a ≡ bit 0 (flags_in b)) (ea' : a' ≡ bit 0 (mask_in b)) (ec : c ≡ bit 1 (flags_in b)) (ec' : c' ≡ bit 1 (mask_in b)) where
    up_is : line_up b ≡ u
    unfolding line_up
    up_is = sym (eu ∙ ap₂ (λ (y z : Bool). y || z) (ep ∙ ap₂ (λ (y z : Bool). y && z) ea ea') (eq ∙ ap₂ (λ (y z : Bool). y && z) ec ec'))

    pub line_up_lem : u ≡ true → (0 ≡ (line b).number) × (1 ≡ (line b).up)
    unfolding line
    line_up_lem h = rw (eq-eqb (length b) block_length l, up_is, h) (refl, refl)

    pub line_down : u ≡ false → (0 ≡ (line b).number) × (0 ≡ (line b).up)
    unfolding line
    line_down h = rw (eq-eqb (length b) block_length l, up_is, h) (refl, refl)

-- a refused line is down
pub line_refused : (b : List ℕ) → ((line b).number ≡ 0 → ⊥) → (line b).up ≡ 0
unfolding line
line_refused b = go (eqb (length b) block_length)
  where
    go : (p : Bool) → (let l : Line = cond p (record { number = 0; up = cond (line_up b) 1 0 }) (record { number = 17; up = 0 }) in (l.number ≡ 0 → ⊥) → l.up ≡ 0)
    go true d = absurd (d refl)
    go false d = refl
