-- The steps of the test, as the code takes them.
use Prim.Native.Nat.{ℕ, zero, suc, ◌+◌, ◌*◌, ◌-◌, ◌<◌, ◌≤◌}
use mathlib.Core.Path.{◌≡◌, refl, sym, ap, ◌∙◌}
use mathlib.Core.List.{List, [], ◌∷◌}
use mathlib.Core.Bool.{Bool, true, false, not, cond, ◌&&◌}
use native.Mathlib.Omega.{arith}
use lib.ListN.{get_or, set}
use lib.Dec.{eqb}
use lib.Seq.{sets}
use borrow.Author.Tests.{eq-eqb, eqb-true, ne_eqb, lt-ltb, ltb-true, le-ltb, not-true, not-false}
use Rattle.operators.specs.Limits.{most_streams}
use Rattle.operators.proofs.Tests.{left, right}
use Rattle.cycle.specs.Graph.{Walk, present, walked, marked, both, followed, rest, cleared}

-- a stream that the graph does not have
pub absent : (d i : ℕ) (g : List ℕ) → most_streams ≤ i → walked false g ≡ followed d i g
unfolding followed
absent zero i g h = sym (rw (le-ltb i most_streams h))
absent (suc d) i g h = sym (rw (le-ltb i most_streams h))

pub seen : (d i : ℕ) (g : List ℕ) → i < most_streams → get_or g (3 * i) 0 ≡ 1 → walked true g ≡ followed d i g
unfolding followed
seen zero i g h e = sym (rw (lt-ltb i most_streams h, eq-eqb (get_or g (3 * i) 0) 1 e))
seen (suc d) i g h e = sym (rw (lt-ltb i most_streams h, eq-eqb (get_or g (3 * i) 0) 1 e))

-- a stream found clear before
pub found_clear : (d i : ℕ) (g : List ℕ) → (present i && eqb (get_or g (3 * i) 0) 1) ≡ true → walked true g ≡ followed d i g
found_clear d i g e =
    seen d i g (ltb-true i most_streams (left (present i) (eqb (get_or g (3 * i) 0) 1) e)) (eqb-true (get_or g (3 * i) 0) 1 (right (present i) (eqb (get_or g (3 * i) 0) 1) e))

module _ (d i : ℕ) (g : List ℕ) (h : i < most_streams) (e : get_or g (3 * i) 0 ≡ 1 → ⊥) where
  deep : (n : ℕ) → n ≡ 0 → walked false g ≡ followed n i g
  unfolding followed
  deep zero z = sym (rw (lt-ltb i most_streams h, ne_eqb (get_or g (3 * i) 0) 1 e))
  deep (suc n) z = absurd (omega arith)

  pub stop : d ≡ 0 → walked false g ≡ followed d i g
  stop z = deep d z

  go : (n : ℕ) → (n ≡ 0 → ⊥) → followed n i g ≡ cond (eqb (get_or g (3 * i) 0) 2) (walked true (set g (3 * i) 1)) (both i (followed (n - 1)) (followed (n - 1) (get_or g (3 * i + 1) 0) g))
  unfolding followed
  go zero z = absurd (z refl)
  go (suc n) z =
      let m : suc n - 1 ≡ n = omega arith in
      rw (m, lt-ltb i most_streams h, ne_eqb (get_or g (3 * i) 0) 1 e)

  module _ (z : d ≡ 0 → ⊥) where
    pub bare : get_or g (3 * i) 0 ≡ 2 → walked true (set g (3 * i) 1) ≡ followed d i g
    bare b = sym (go d z ∙ rw (eq-eqb (get_or g (3 * i) 0) 2 b))

    -- r₁ and g₁ are what following the first argument gives, r₂ and g₂ the second
    module _ (b : get_or g (3 * i) 0 ≡ 2 → ⊥) (r₁ : Bool) (g₁ : List ℕ) (w₁ : walked r₁ g₁ ≡ followed (d - 1) (get_or g (3 * i + 1) 0) g) where
      on : followed d i g ≡ both i (followed (d - 1)) (walked r₁ g₁)
      on = go d z ∙ rw (ne_eqb (get_or g (3 * i) 0) 2 b, ← w₁)

      pub first : not r₁ ≡ true → walked false g₁ ≡ followed d i g
      first n =
          let k : r₁ ≡ false = not-true r₁ n in
          sym (on ∙ rw k)

      module _ (t : not r₁ ≡ false) (r₂ : Bool) (g₂ : List ℕ) (w₂ : walked r₂ g₂ ≡ followed (d - 1) (get_or g₁ (3 * i + 2) 0) g₁) where
        next : followed d i g ≡ marked i (walked r₂ g₂)
        next =
            let k : r₁ ≡ true = not-false r₁ t in
            on ∙ rw k (ap (marked i) (sym w₂))

        pub second : not r₂ ≡ true → walked false g₂ ≡ followed d i g
        second n =
            let k : r₂ ≡ false = not-true r₂ n in
            sym (next ∙ rw k)

        pub last : not r₂ ≡ false → walked true (set g₂ (3 * i) 1) ≡ followed d i g
        last n =
            let k : r₂ ≡ true = not-false r₂ n in
            sym (next ∙ rw k)

pub onward : (d i : ℕ) (g : List ℕ) → i < most_streams → get_or g (3 * i) 0 ≡ 0 → followed (suc d) i g ≡ both i (followed d) (followed d (get_or g (3 * i + 1) 0) g)
unfolding followed
onward d i g h e = rw (lt-ltb i most_streams h, e)

-- three stores side by side
pub stored : (g : List ℕ) (at how a b : ℕ) → set (set (set g at how) (at + 1) a) (at + 2) b ≡ sets g at (how ∷ a ∷ b ∷ [])
stored g at how a b =
    let e : at + 1 ≡ suc at = omega arith in
    let f : at + 2 ≡ suc (suc at) = omega arith in
    rw (e, f)

-- one turn of the test of all streams
pub turn : (depth n m : ℕ) (g : List ℕ) (r : Bool) (g₁ : List ℕ) → 0 < n → m ≡ n - 1 → walked r g₁ ≡ followed depth m g → cleared depth n g ≡ cond r (cleared depth m g₁) (walked r g₁)
unfolding cleared
turn depth zero m g r g₁ h k w = absurd (omega arith)
turn depth (suc n) m g r g₁ h k w =
    let e : n ≡ m = omega arith in
    ap (λ (v : Walk). rest v (cleared depth n)) (ap (λ (i : ℕ). followed depth i g) e ∙ sym w) ∙ ap (λ (i : ℕ). cond r (cleared depth i g₁) (walked r g₁)) e

pub blocked : (depth n m : ℕ) (g : List ℕ) (r : Bool) (g₁ : List ℕ) → 0 < n → m ≡ n - 1 → walked r g₁ ≡ followed depth m g → not r ≡ true → walked false g₁ ≡ cleared depth n g
blocked depth n m g r g₁ h k w b =
    let f : r ≡ false = not-true r b in
    sym (turn depth n m g r g₁ h k w ∙ rw f)

pub going : (depth n m : ℕ) (g : List ℕ) (r : Bool) (g₁ : List ℕ) → 0 < n → m ≡ n - 1 → walked r g₁ ≡ followed depth m g → not r ≡ false → cleared depth m g₁ ≡ cleared depth n g
going depth n m g r g₁ h k w b =
    let f : r ≡ true = not-false r b in
    sym (turn depth n m g r g₁ h k w ∙ rw f)

pub done : (depth n : ℕ) (g : List ℕ) → n ≡ 0 → walked true g ≡ cleared depth n g
unfolding cleared
done depth zero g e = refl
done depth (suc n) g e = absurd (omega arith)
