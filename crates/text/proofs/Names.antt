-- Names: the letters that stand at a position, and looking a name up by its bytes as one number.
use Prim.Native.Nat.{ℕ, zero, suc, ◌+◌, ◌*◌, ◌-◌, ◌^◌, ◌<◌, ◌≤◌}
use mathlib.Core.Path.{◌≡◌, refl, sym, ap, ◌∙◌}
use mathlib.Core.List.{List, [], ◌∷◌, map}
use mathlib.Core.Bool.{Bool, true, false, cond, ◌&&◌}
use native.Mathlib.Nat.{mul-add, mul_assoc, mul-zero, pow-suc, pow-le-pow_right, mul-le-mul_left}
use native.Mathlib.Omega.{arith}
use Rattle.operators.proofs.Tests.{left, right}
use lib.Dec.{eqb, leb, ltb, lit<}
use lib.ListN.{length, get_or, drop, get_or-eq_default}
use borrow.Author.Tests.{le-leb, eq-eqb, ne_eqb, eqb-true, eqb-false, leb-true, ltb-true}
use Rattle.std.specs.Prelude.{Some, None, Ok, Err}
use Rattle.refusal.specs.declared.Refusal.TheVariants.{TextForm, TextOperator}
use Rattle.text.specs.declared.Packed.{Packed}
use Rattle.lines.specs.Form.{skip, ending}
use Rattle.text.specs.Grammar.{letter, name_at, same_name, place, names, number_named, known, named}
use Rattle.text.specs.Lookup.{pack, packed_at, place_packed, number_packed, unless_zero}

-- ## The loop over the letters

-- what was packed so far, with the letters that are left
abbrev pub packed_from : ℕ → ℕ → ℕ → List ℕ → Packed
packed_from code weight p w = record { code = code + weight * pack w; next = p + length w }

abbrev pub packed_to : ℕ → ℕ → Packed
packed_to code p = record { code = code; next = p }

name_turn : (s : List ℕ) (p n : ℕ) → 0 < n → name_at s p n ≡ cond (letter (get_or s p 0)) (get_or s p 0 ∷ name_at s (p + 1) (n - 1)) []
unfolding name_at
name_turn s p zero h = absurd (omega arith)
name_turn s p (suc n) h =
    let e : suc n - 1 ≡ n = omega arith in
    rw e

pack_nil : pack [] ≡ 0
unfolding pack
pack_nil = refl

pack_cons : (c : ℕ) (w : List ℕ) → pack (c ∷ w) ≡ c + 256 * pack w
unfolding pack
pack_cons c w = refl

module _ (s : List ℕ) (p code weight n : ℕ) where
  done : name_at s p n ≡ [] → packed_to code p ≡ packed_from code weight p (name_at s p n)
  done e =
      let a : code ≡ code + weight * pack [] = rw (pack_nil, mul-zero weight) (omega arith) in
      let b : p ≡ p + length {A = ℕ} [] = omega arith in
      sym (rw e (λ i. record { code = sym a i; next = sym b i }))

  pub name_stop : 0 < n → letter (get_or s p 0) ≡ false → packed_to code p ≡ packed_from code weight p (name_at s p n)
  name_stop h e = done (name_turn s p n h ∙ rw e)

  pub name_past : 0 < n → length s ≤ p → packed_to code p ≡ packed_from code weight p (name_at s p n)
  name_past h l = name_stop h (ap letter (get_or-eq_default s 0 {n = p} l))

  module _ (h : 0 < n) (c : ℕ) (e : c ≡ get_or s p 0) where
    pub name_go : 97 ≤ c → c ≤ 122 → (m : ℕ) → m ≡ n - 1 → packed_from (code + weight * c) (weight * 256) (p + 1) (name_at s (p + 1) m) ≡ packed_from code weight p (name_at s p n)
    name_go l k m q =
        let w : name_at s p n ≡ c ∷ name_at s (p + 1) m = name_turn s p n h ∙ rw (le-leb 97 (get_or s p 0) (omega arith), le-leb (get_or s p 0) 122 (omega arith), q, e) in
        let r = name_at s (p + 1) m in
        let a : code + weight * c + weight * 256 * pack r ≡ code + weight * pack (c ∷ r) = rw (pack_cons c r, mul-add weight c (256 * pack r), mul_assoc weight 256 (pack r)) (omega arith) in
        let b : p + 1 + length r ≡ p + suc (length r) = omega arith in
        rw w (λ i. record { code = a i; next = b i })

name_none : (s : List ℕ) (p : ℕ) → name_at s p 0 ≡ []
unfolding name_at
name_none s p = refl

pub name_end : (s : List ℕ) (p code weight n : ℕ) → n ≡ 0 → packed_to code p ≡ packed_from code weight p (name_at s p n)
name_end s p code weight n e = done s p code weight n (ap (name_at s p) e ∙ name_none s p)

pub name_start : (s : List ℕ) (at : ℕ) → packed_from 0 1 at (name_at s at 5) ≡ packed_at s at
unfolding packed_at
name_start s at = let e : 0 + 1 * pack (name_at s at 5) ≡ pack (name_at s at 5) = omega arith in rw e

-- i letters are below 256 ^ i
pub more : (code weight i c : ℕ) → weight ≡ 256 ^ i → code < 256 ^ i → c < 256 → code + weight * c < 256 ^ (i + 1)
more code weight i c e h k =
    let f : i + 1 ≡ suc i = omega arith in
    let l : 256 ^ i * c ≤ 256 ^ i * 255 = mul-le-mul_left (256 ^ i) (omega arith) in
    rw (e, f, pow-suc 256 i) (omega arith)

pub heavier : (weight i : ℕ) → weight ≡ 256 ^ i → weight * 256 ≡ 256 ^ (i + 1)
heavier weight i e =
    let f : i + 1 ≡ suc i = omega arith in
    rw (e, f, pow-suc 256 i)

pub light : (i : ℕ) → i ≤ 5 → 256 ^ i ≤ 256 ^ 5
light i h = pow-le-pow_right {n = 256} (lit< tt) {i = i} {j = 5} h

-- ## Looking a name up

-- bytes that are not 0
abbrev pub Letters : List ℕ → Type 0
Letters [] = Unit {0}
Letters (c ∷ w) = (0 < c) × (c < 256) × Letters w

pub name_letters : (s : List ℕ) (p n : ℕ) → Letters (name_at s p n)
unfolding name_at
name_letters s p zero = tt
name_letters s p (suc n) = one (letter (get_or s p 0)) refl (name_letters s (p + 1) n)
  where
    one : (b : Bool) → letter (get_or s p 0) ≡ b → Letters (name_at s (p + 1) n) → Letters (cond b (get_or s p 0 ∷ name_at s (p + 1) n) [])
    one false e t = tt
    one true e t =
        let l : 97 ≤ get_or s p 0 = leb-true 97 (get_or s p 0) (left (leb 97 (get_or s p 0)) (leb (get_or s p 0) 122) e) in
        let k : get_or s p 0 ≤ 122 = leb-true (get_or s p 0) 122 (right (leb 97 (get_or s p 0)) (leb (get_or s p 0) 122) e) in
        (omega arith, omega arith, t)

-- equal numbers, equal names
pub pack_eqb : (w v : List ℕ) → Letters w → Letters v → eqb (pack w) (pack v) ≡ same_name w v
unfolding pack
pack_eqb [] [] lw lv = refl
pack_eqb [] (d ∷ v) lw lv = ne_eqb 0 (d + 256 * pack v) (λ e. omega (arith, lv.0))
pack_eqb (c ∷ w) [] lw lv = ne_eqb (c + 256 * pack w) 0 (λ e. omega (arith, lw.0))
pack_eqb (c ∷ w) (d ∷ v) lw lv = both (eqb c d) refl (eqb (pack w) (pack v)) refl ∙ ap (λ (b : Bool). eqb c d && b) (pack_eqb w v lw.2 lv.2)
  where
    both : (x : Bool) → eqb c d ≡ x → (y : Bool) → eqb (pack w) (pack v) ≡ y → eqb (c + 256 * pack w) (d + 256 * pack v) ≡ (x && y)
    both false e y f = ne_eqb (c + 256 * pack w) (d + 256 * pack v) (λ q. eqb-false c d e (omega (arith, lw.1, lv.1)))
    both true e false f = ne_eqb (c + 256 * pack w) (d + 256 * pack v) (λ q. eqb-false (pack w) (pack v) f (omega (arith, lw.1, lv.1)))
    both true e true f = eq-eqb (c + 256 * pack w) (d + 256 * pack v) (omega (arith, eqb-true c d e, eqb-true (pack w) (pack v) f))

abbrev AllLetters : List (List ℕ) → Type 0
AllLetters [] = Unit {0}
AllLetters (v ∷ l) = Letters v × AllLetters l

place_packed_lem : (w : List ℕ) → Letters w → (l : List (List ℕ)) → AllLetters l → (n : ℕ) → place_packed (pack w) (map pack l) n ≡ place w l n
unfolding place_packed place
place_packed_lem w lw [] t n = refl
place_packed_lem w lw (v ∷ l) t n = rw (pack_eqb w v lw t.0, place_packed_lem w lw l t.1 (n + 1))

-- a byte that is not 0, as a test that computes
abbrev lettered : List ℕ → Bool
lettered [] = true
lettered (c ∷ w) = ltb 0 c && (ltb c 256 && lettered w)

abbrev all_lettered : List (List ℕ) → Bool
all_lettered [] = true
all_lettered (v ∷ l) = lettered v && all_lettered l

letters_of : (w : List ℕ) → lettered w ≡ true → Letters w
letters_of [] e = tt
letters_of (c ∷ w) e =
    let f = right (ltb 0 c) (ltb c 256 && lettered w) e in
    (ltb-true 0 c (left (ltb 0 c) (ltb c 256 && lettered w) e), ltb-true c 256 (left (ltb c 256) (lettered w) f), letters_of w (right (ltb c 256) (lettered w) f))

all_letters_of : (l : List (List ℕ)) → all_lettered l ≡ true → AllLetters l
all_letters_of [] e = tt
all_letters_of (v ∷ l) e = (letters_of v (left (lettered v) (all_lettered l) e), all_letters_of l (right (lettered v) (all_lettered l) e))

pub number_packed_lem : (w : List ℕ) → Letters w → number_packed (pack w) ≡ number_named w
unfolding number_packed number_named
number_packed_lem w t = place_packed_lem w t names (all_letters_of names refl) 0

empty : (s : List ℕ) (p : ℕ) (w : List ℕ) → length w ≡ 0 → named s p w ≡ Err TextForm
unfolding named
empty s p [] h = refl
empty s p (c ∷ w) h = absurd (omega arith)

full : (s : List ℕ) (p : ℕ) (w : List ℕ) → (length w ≡ 0 → ⊥) → named s p w ≡ known (number_named w) (skip s (p + length w) ending)
unfolding named
full s p [] h = absurd (h refl)
full s p (c ∷ w) h = refl

-- the op line's name as the code reads it
module _ (s : List ℕ) (p : ℕ) (r : Packed) (e : r ≡ packed_at s p) where
  code_is : r.code ≡ pack (name_at s p 5)
  unfolding packed_at
  code_is = ap (λ (x : Packed). x.code) e

  end_is : r.next ≡ p + length (name_at s p 5)
  unfolding packed_at
  end_is = ap (λ (x : Packed). x.next) e

  pub no_name : r.next ≡ p → named s p (name_at s p 5) ≡ Err TextForm
  no_name h = empty s p (name_at s p 5) (omega (arith, end_is))

  pub a_name : (r.next ≡ p → ⊥) → named s p (name_at s p 5) ≡ known (number_packed r.code) (skip s r.next ending)
  a_name h = rw (code_is, end_is, number_packed_lem (name_at s p 5) (name_letters s p 5)) (full s p (name_at s p 5) (λ k. h (omega (arith, end_is))))

pub an_operator : (n o p : ℕ) → unless_zero n ≡ Some o → known n (Some p) ≡ Ok (o, p)
an_operator zero o p h = cc
an_operator (suc n) o p h = cc

pub unknown : (n p : ℕ) → unless_zero n ≡ None → known n (Some p) ≡ Err TextOperator
unknown zero p h = refl
unknown (suc n) p h = cc

pub not_ended : (n : ℕ) → known n None ≡ Err TextForm
not_ended zero = refl
not_ended (suc n) = refl

-- a number that is none of a list's, as a match on them leaves it
abbrev pub Left : ℕ → Type 0 → List ℕ → Type 0
Left x T [] = T
Left x T (y ∷ l) = Left x (T × (x ≡ y → ⊥)) l

abbrev pub Missing : ℕ → List ℕ → Type 0
Missing x [] = Unit {0}
Missing x (y ∷ l) = (x ≡ y → ⊥) × Missing x l

pub all_left : (x : ℕ) (T : Type 0) (l : List ℕ) → Left x T l → T × Missing x l
all_left x T [] t = (t, tt)
all_left x T (y ∷ l) t = let r = all_left x (T × (x ≡ y → ⊥)) l t in (r.0.0, (r.0.1, r.1))

missing : (x : ℕ) (l : List ℕ) (n : ℕ) → Missing x l → 0 ≡ place_packed x l n
unfolding place_packed
missing x [] n t = refl
missing x (y ∷ l) n t = rw (ne_eqb x y t.0) (missing x l (n + 1) t.1)

-- the letters of the names, as numbers
abbrev pub codes : List ℕ
unfolding pack
codes = map pack (drop 1 names)

pub no_operator_lem : (x : ℕ) → Left x (Unit {0}) codes → 0 ≡ number_packed x
unfolding number_packed place_packed pack
no_operator_lem x t = either (eqb x 0) (missing x codes 1 (all_left x (Unit {0}) codes t).1)
  where
    either : (b : Bool) → 0 ≡ place_packed x codes 1 → 0 ≡ cond b 0 (place_packed x codes 1)
    either true e = refl
    either false e = e
