-- The numbers of a record that was read are numbers of the types that the calls take.
use Prim.Native.Nat.{ℕ, ◌-◌, ◌^◌, ◌<◌}
use mathlib.Core.Path.{◌≡◌, refl, subst}
use mathlib.Core.Bool.{Bool, true, false, cond}
use mathlib.Core.List.{List, [], ◌∷◌}
use native.Mathlib.Omega.{arith}
use lib.Dec.{ltb, leb, eqb}
use lib.Signed.{mag}
use borrow.Author.Tests.{ltb-true, eqb-false}
use mir.Syntax.{w64}
use mir.Val.{to_z}
use mir.Facts.{sfits_to_z}
use Rattle.meaning.specs.Events.{horizon}
use Rattle.std.specs.Prelude.{Option, Some, None}
use Rattle.lines.specs.Form.{ending, skip, whole, positive, negative, signed_after, signed}
use Rattle.trace.specs.declared.Record.{Record}
use Rattle.trace.specs.declared.Record.TheVariants.{Reading, Progress}
use Rattle.trace.specs.Trace.{input_key, stamp_key, value_key, bound_key, value_after, stamp_after, bound_after, either_key, input_after, line}
use Rattle.trace.proofs.Bounds.{whole_small, same_first}
use Rattle.trace.proofs.Ends.{bad, fault, word_case, number_case}

-- 32 bits for streams and stamps, 64 for bounds and values
abbrev pub Fits : Record → Type 0
Fits (Reading input stamp value) = (input < 2 ^ 32) × (stamp < 2 ^ 32) × (mag value < 2 ^ 63)
Fits (Progress input bound) = (input < 2 ^ 32) × (bound < 2 ^ 64)

-- ## A value's bits

positive_below : (x : Option (ℕ × ℕ)) (v p : ℕ) → positive x ≡ Some (v, p) → v < 2 ^ 64
positive_below (Some (w, q)) v p e = by (ltb w (2 ^ 63)) refl e
  where
    by : (b : Bool) → ltb w (2 ^ 63) ≡ b → cond {A = Option (ℕ × ℕ)} b (Some (w, q)) None ≡ Some (v, p) → v < 2 ^ 64
    by true k h = let z : w ≡ v = same_first h in omega (arith, ltb-true w (2 ^ 63) k)
    by false k h = fault h
positive_below None v p e = fault e

negative_below : (x : Option (ℕ × ℕ)) (v p : ℕ) → negative x ≡ Some (v, p) → v < 2 ^ 64
negative_below (Some (w, q)) v p e = by (eqb w 0) refl e
  where
    in_range : (w ≡ 0 → ⊥) → (b : Bool) → cond {A = Option (ℕ × ℕ)} b (Some (2 ^ 64 - w, q)) None ≡ Some (v, p) → v < 2 ^ 64
    in_range k true h = let z : 2 ^ 64 - w ≡ v = same_first h in omega (arith, k)
    in_range k false h = fault h

    by : (b : Bool) → eqb w 0 ≡ b → cond {A = Option (ℕ × ℕ)} b None (cond {A = Option (ℕ × ℕ)} (leb w (2 ^ 63)) (Some (2 ^ 64 - w, q)) None) ≡ Some (v, p) → v < 2 ^ 64
    by true k h = fault h
    by false k h = in_range (eqb-false w 0 k) (leb w (2 ^ 63)) h
negative_below None v p e = fault e

signed_below : (s : List ℕ) (at v p : ℕ) → signed s at ≡ Some (v, p) → v < 2 ^ 64
unfolding signed
signed_below s at v p e = by (skip s at (45 ∷ [])) e
  where
    by : (x : Option ℕ) → signed_after s at x ≡ Some (v, p) → v < 2 ^ 64
    by (Some q) h = negative_below (whole s q 19) v p h
    by None h = positive_below (whole s at 19) v p h

-- ## Lines

module _ (s : List ℕ) (i : ℕ) (small : i < 2 ^ 32) (r : Record) (p : ℕ) where
  value_fits : (t at : ℕ) → t < 2 ^ 32 → value_after s i t at ≡ Some (r, p) → Fits r
  unfolding value_after
  value_fits t at l e =
      word_case (skip s at value_key) _ r p e (λ q h₁ e₁.
      number_case (signed s q) _ r p e₁ (λ v w h₂ e₂.
      word_case (skip s w ending) _ r p e₂ (λ next h₃ e₃.
      let z : Reading i t (to_z w64 v) ≡ r = same_first e₃ in
      subst Fits z (small, l, (sfits_to_z {w = w64} {n = v} (record { fits = signed_below s q v w h₂ })).sfits))))

  stamp_fits : (at : ℕ) → stamp_after s i at ≡ Some (r, p) → Fits r
  unfolding stamp_after
  stamp_fits at e = number_case (whole s at 10) _ r p e (λ t q h e₁. by t q (ltb t horizon) refl e₁)
    where
      by : (t q : ℕ) (b : Bool) → ltb t horizon ≡ b → cond b (value_after s i t q) None ≡ Some (r, p) → Fits r
      by t q true k e₁ = value_fits t q (ltb-true t horizon k) e₁
      by t q false k e₁ = bad e₁

  bound_fits : (at : ℕ) → bound_after s i at ≡ Some (r, p) → Fits r
  unfolding bound_after
  bound_fits at e =
      number_case (whole s at 10) _ r p e (λ y q h e₁.
      word_case (skip s q ending) _ r p e₁ (λ next h₂ e₂.
      let z : Progress i y ≡ r = same_first e₂ in
      subst Fits z (small, omega (arith, (whole_small s at 10 y q (omega arith) h).below))))

  input_fits : (at : ℕ) → input_after s i at ≡ Some (r, p) → Fits r
  unfolding input_after
  input_fits at e = by (skip s at stamp_key) e
    where
      by : (x : Option ℕ) → either_key s i at x ≡ Some (r, p) → Fits r
      by (Some q) h = stamp_fits q h
      by None h = word_case (skip s at bound_key) _ r p h (λ q k e₁. bound_fits q e₁)

pub line_fits : (s : List ℕ) (at : ℕ) (r : Record) (p : ℕ) → line s at ≡ Some (r, p) → Fits r
unfolding line
line_fits s at r p e =
    word_case (skip s at input_key) _ r p e (λ q h₁ e₁.
    number_case (whole s q 3) _ r p e₁ (λ i w h₂ e₂.
    input_fits s i (omega (arith, (whole_small s q 3 i w (omega arith) h₂).below)) r p w e₂))
