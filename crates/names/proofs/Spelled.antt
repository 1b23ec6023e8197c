-- The letters of a name, packed into one number, come out of it one by one, the first first.
use Prim.Native.Nat.{ℕ, zero, suc, ◌+◌, ◌/◌, ◌%◌, ◌<◌, ◌≤◌}
use mathlib.Core.Path.{◌≡◌, refl, sym, ap, ◌∙◌}
use mathlib.Core.Bool.{Bool, true, ◌&&◌}
use mathlib.Core.List.{List, [], ◌∷◌}
use native.Mathlib.Omega.{arith}
use lib.Dec.{ltb, leb}
use lib.ListN.{length, get_or, drop}
use borrow.Author.Tests.{ltb-true, leb-true}
use Rattle.operators.specs.Operators.{name_of}
use Rattle.operators.proofs.Laws.{by_row}
use Rattle.operators.proofs.Tests.{left, right}
use Rattle.text.specs.Lookup.{pack}

-- ## Letters

abbrev lettered : List ℕ → Bool
lettered [] = true
lettered (c ∷ w) = (ltb 0 c && ltb c 256) && lettered w

name_lettered : (n : ℕ) → lettered (name_of n) ≡ true
unfolding name_of
name_lettered = by_row (λ o. lettered o.name) (λ o. true) refl refl

-- a name has five at most
pub name_few : (n : ℕ) → length (name_of n) ≤ 5
unfolding name_of
name_few n = leb-true (length (name_of n)) 5 (by_row (λ o. leb (length o.name) 5) (λ o. true) refl refl n)

-- what is packed, by its first letter
pack_first : (c : ℕ) (w : List ℕ) → c < 256 → (pack (c ∷ w) % 256 ≡ c) × (pack (c ∷ w) / 256 ≡ pack w)
unfolding pack
pack_first c w h = (omega arith, omega arith)

-- from letter i on
record Next (w : List ℕ) (i : ℕ) : Type 0 where
  pub inside : i < length w
  pub first : pack (drop i w) % 256 ≡ get_or w i 0
  pub rest : pack (drop i w) / 256 ≡ pack (drop (suc i) w)

next_letter : (w : List ℕ) (i : ℕ) → lettered w ≡ true → (pack (drop i w) ≡ 0 → ⊥) → Next w i
unfolding pack
next_letter [] i l h = absurd (h (nothing i))
  where
    nothing : (i : ℕ) → pack (drop i []) ≡ 0
    nothing zero = refl
    nothing (suc i) = refl
next_letter (c ∷ w) zero l h =
    let q = pack_first c w (ltb-true c 256 (right (ltb 0 c) (ltb c 256) (left (ltb 0 c && ltb c 256) (lettered w) l))) in
    record { inside = omega arith; first = q.0; rest = q.1 }
next_letter (c ∷ w) (suc i) l h =
    let n = next_letter w i (right (ltb 0 c && ltb c 256) (lettered w) l) h in
    record { inside = omega (arith, n.inside); first = n.first; rest = n.rest }

last_letter : (w : List ℕ) (i : ℕ) → lettered w ≡ true → i ≤ length w → pack (drop i w) ≡ 0 → i ≡ length w
unfolding pack
last_letter [] i l h e = omega arith
last_letter (c ∷ w) zero l h e = absurd (omega (arith, ltb-true 0 c (left (ltb 0 c) (ltb c 256) (left (ltb 0 c && ltb c 256) (lettered w) l))))
last_letter (c ∷ w) (suc i) l h e = ap suc (last_letter w i (right (ltb 0 c && ltb c 256) (lettered w) l) (omega arith) e)

-- ## One letter after the other

module _ (op i code : ℕ) (e : code ≡ pack (drop i (name_of op))) where
  pub letters_on : (code ≡ 0 → ⊥) → (i < length (name_of op)) × (code % 256 ≡ get_or (name_of op) i 0) × (code / 256 ≡ pack (drop (i + 1) (name_of op)))
  letters_on h =
      let n = next_letter (name_of op) i (name_lettered op) (λ q. h (e ∙ q)) in
      let z : i + 1 ≡ suc i = omega arith in
      rw z (n.inside, ap (λ (x : ℕ). x % 256) e ∙ n.first, ap (λ (x : ℕ). x / 256) e ∙ n.rest)

  pub letters_out : i ≤ length (name_of op) → code ≡ 0 → i ≡ length (name_of op)
  letters_out h z = last_letter (name_of op) i (name_lettered op) h (sym e ∙ z)
