-- Where a line that was read ends: within the text, not at its start, and at most 42 bytes on. So "at most 64 bytes" refuses no line that has a form.
use Prim.Native.Nat.{ℕ, ◌+◌, ◌-◌, ◌^◌, ◌<◌, ◌≤◌}
use mathlib.Core.Path.{◌≡◌, refl, sym, ap}
use mathlib.Core.Bool.{Bool, true, false, cond}
use mathlib.Core.List.{List, [], ◌∷◌}
use native.Mathlib.Omega.{arith}
use lib.Dec.{ltb, leb, eqb}
use lib.ListN.{length, get_or}
use borrow.Author.Tests.{ltb-true}
use mir.Syntax.{w64}
use mir.Val.{to_z}
use Rattle.meaning.specs.Events.{horizon}
use Rattle.std.specs.Prelude.{Option, Some, None}
use Rattle.lines.specs.Form.{ending, stands, skip, whole, positive, negative, signed_after, signed}
use Rattle.operators.proofs.Tests.{left}
use Rattle.trace.specs.declared.Record.{Record}
use Rattle.trace.specs.declared.Record.TheVariants.{Reading, Progress}
use Rattle.trace.specs.Trace.{input_key, stamp_key, value_key, bound_key, word, number, value_after, stamp_after, bound_after, either_key, input_after, line}
use Rattle.trace.proofs.Bounds.{skip_near, whole_small, same_second}

-- ## Case by case: what was found, if a line was read

pub bad : {A : Type 0} {r : Record} {e : ℕ} → ◌≡◌ {A = Option (Record × ℕ)} None (Some (r, e)) → A
bad q = let z : ◌≡◌ {A = ℕ} 0 1 = cc in absurd (omega arith)

pub fault : {A : Type 0} {v p : ℕ} → ◌≡◌ {A = Option (ℕ × ℕ)} None (Some (v, p)) → A
fault q = let z : ◌≡◌ {A = ℕ} 0 1 = cc in absurd (omega arith)

pub word_case : {A : Type 0} (x : Option ℕ) (f : ℕ → Option (Record × ℕ)) (r : Record) (e : ℕ) → word x f ≡ Some (r, e) → ((p : ℕ) → x ≡ Some p → f p ≡ Some (r, e) → A) → A
word_case (Some p) f r e q k = k p refl q
word_case None f r e q k = bad q

pub number_case : {A : Type 0} (x : Option (ℕ × ℕ)) (f : ℕ → ℕ → Option (Record × ℕ)) (r : Record) (e : ℕ) → number x f ≡ Some (r, e) → ((v p : ℕ) → x ≡ Some (v, p) → f v p ≡ Some (r, e) → A) → A
number_case (Some (v, p)) f r e q k = k v p refl q
number_case None f r e q k = bad q

-- ## Positions

-- a byte that was found stands in the text
ending_inside : (s : List ℕ) (at p : ℕ) → skip s at ending ≡ Some p → (p ≡ at + 1) × (p ≤ length s)
unfolding skip
ending_inside s at p e = by (stands s at 10) refl e
  where
    by : (b : Bool) → stands s at 10 ≡ b → cond b (Some (at + 1)) None ≡ Some p → (p ≡ at + 1) × (p ≤ length s)
    by true q h =
        let z : at + 1 ≡ p = cc in
        let l = ltb-true at (length s) (left (ltb at (length s)) (eqb (get_or s at 0) 10) q) in
        (sym z, omega arith)
    by false q h = let z : ◌≡◌ {A = ℕ} 0 1 = cc in absurd (omega arith)

pub plain_from : {A : Type 0} (x : Option (ℕ × ℕ)) (v p : ℕ) → positive x ≡ Some (v, p) → ((w : ℕ) → x ≡ Some (w, p) → A) → A
plain_from {A = A} (Some (w, q)) v p e k = by (ltb w (2 ^ 63)) e
  where
    by : (b : Bool) → cond {A = Option (ℕ × ℕ)} b (Some (w, q)) None ≡ Some (v, p) → A
    by true h = let z : q ≡ p = same_second h in k w (ap (λ (x : ℕ). Some (w, x)) z)
    by false h = fault h
plain_from None v p e k = fault e

pub minus_from : {A : Type 0} (x : Option (ℕ × ℕ)) (v p : ℕ) → negative x ≡ Some (v, p) → ((w : ℕ) → x ≡ Some (w, p) → A) → A
minus_from {A = A} (Some (w, q)) v p e k = by (eqb w 0) e
  where
    in_range : (b : Bool) → cond {A = Option (ℕ × ℕ)} b (Some (2 ^ 64 - w, q)) None ≡ Some (v, p) → A
    in_range true h = let z : q ≡ p = same_second h in k w (ap (λ (x : ℕ). Some (w, x)) z)
    in_range false h = fault h

    by : (b : Bool) → cond {A = Option (ℕ × ℕ)} b None (cond {A = Option (ℕ × ℕ)} (leb w (2 ^ 63)) (Some (2 ^ 64 - w, q)) None) ≡ Some (v, p) → A
    by true h = fault h
    by false h = in_range (leb w (2 ^ 63)) h
minus_from None v p e k = fault e

signed_near : (s : List ℕ) (at v p : ℕ) → signed s at ≡ Some (v, p) → p ≤ at + 20
unfolding signed
signed_near s at v p e = by (skip s at (45 ∷ [])) refl e
  where
    by : (x : Option ℕ) → skip s at (45 ∷ []) ≡ x → signed_after s at x ≡ Some (v, p) → p ≤ at + 20
    by (Some q) k h = minus_from (whole s q 19) v p h (λ w m. omega (arith, skip_near s (45 ∷ []) at q k, (whole_small s q 19 w p (omega arith) m).near))
    by None k h = plain_from (whole s at 19) v p h (λ w m. omega (arith, (whole_small s at 19 w p (omega arith) m).near))

-- ## Lines

-- the end of what was read from a position, most bytes on
pub record Ends (s : List ℕ) (at most p : ℕ) : Type 0 where
  pub inside : p ≤ length s
  pub near : p ≤ at + most
  pub some : 0 < p

value_ends : (s : List ℕ) (i t at : ℕ) (r : Record) (p : ℕ) → value_after s i t at ≡ Some (r, p) → Ends s at 24 p
unfolding value_after
value_ends s i t at r p e =
    word_case (skip s at value_key) (λ q. number (signed s q) (λ v w. word (skip s w ending) (λ next. Some (Reading i t (to_z w64 v), next)))) r p e (λ q h₁ e₁.
    number_case (signed s q) (λ v w. word (skip s w ending) (λ next. Some (Reading i t (to_z w64 v), next))) r p e₁ (λ v w h₂ e₂.
    word_case (skip s w ending) (λ next. Some (Reading i t (to_z w64 v), next)) r p e₂ (λ next h₃ e₃.
    let z : next ≡ p = same_second e₃ in
    let l = ending_inside s w next h₃ in
    record { inside = omega arith; near = omega (arith, skip_near s value_key at q h₁, signed_near s q v w h₂); some = omega arith })))

stamp_ends : (s : List ℕ) (i at : ℕ) (r : Record) (p : ℕ) → stamp_after s i at ≡ Some (r, p) → Ends s at 34 p
unfolding stamp_after
stamp_ends s i at r p e =
    number_case (whole s at 10) (λ t q. cond (ltb t horizon) (value_after s i t q) None) r p e (λ t q h₁ e₁. by t q h₁ (ltb t horizon) e₁)
  where
    by : (t q : ℕ) → whole s at 10 ≡ Some (t, q) → (b : Bool) → cond b (value_after s i t q) None ≡ Some (r, p) → Ends s at 34 p
    by t q h true e₁ = let x = value_ends s i t q r p e₁ in record { inside = x.inside; near = omega (arith, x.near, (whole_small s at 10 t q (omega arith) h).near); some = x.some }
    by t q h false e₁ = bad e₁

bound_ends : (s : List ℕ) (i at : ℕ) (r : Record) (p : ℕ) → bound_after s i at ≡ Some (r, p) → Ends s at 34 p
unfolding bound_after
bound_ends s i at r p e =
    number_case (whole s at 10) (λ y q. word (skip s q ending) (λ next. Some (Progress i y, next))) r p e (λ y q h₁ e₁.
    word_case (skip s q ending) (λ next. Some (Progress i y, next)) r p e₁ (λ next h₂ e₂.
    let z : next ≡ p = same_second e₂ in
    let l = ending_inside s q next h₂ in
    record { inside = omega arith; near = omega (arith, (whole_small s at 10 y q (omega arith) h₁).near); some = omega arith }))

input_ends : (s : List ℕ) (i at : ℕ) (r : Record) (p : ℕ) → input_after s i at ≡ Some (r, p) → Ends s at 37 p
unfolding input_after
input_ends s i at r p e = by (skip s at stamp_key) refl e
  where
    by : (x : Option ℕ) → skip s at stamp_key ≡ x → either_key s i at x ≡ Some (r, p) → Ends s at 37 p
    by (Some q) k h = let x = stamp_ends s i q r p h in record { inside = x.inside; near = omega (arith, x.near, skip_near s stamp_key at q k); some = x.some }
    by None k h =
        word_case (skip s at bound_key) (bound_after s i) r p h (λ q h₁ e₁.
        let x = bound_ends s i q r p e₁ in record { inside = x.inside; near = omega (arith, x.near, skip_near s bound_key at q h₁); some = x.some })

-- 41 bytes and the ending byte at most
pub line_ends : (s : List ℕ) (at : ℕ) (r : Record) (p : ℕ) → line s at ≡ Some (r, p) → Ends s at 42 p
unfolding line
line_ends s at r p e =
    word_case (skip s at input_key) (λ q. number (whole s q 3) (input_after s)) r p e (λ q h₁ e₁.
    number_case (whole s q 3) (input_after s) r p e₁ (λ i w h₂ e₂.
    let x = input_ends s i w r p e₂ in
    record { inside = x.inside; near = omega (arith, x.near, skip_near s input_key at q h₁, (whole_small s q 3 i w (omega arith) h₂).near); some = x.some }))
