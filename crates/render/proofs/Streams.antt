-- What is written of a stream is read: the op line, the value of k, the five lines.
use Prim.Native.Nat.{ℕ, zero, suc, ◌+◌, ◌-◌, ◌^◌, ◌<◌, ◌≤◌}
use mathlib.Core.Path.{◌≡◌, refl, sym, ap, ◌∙◌}
use mathlib.Core.Bool.{Bool, true, false, ◌&&◌}
use mathlib.Core.List.{List, [], ◌∷◌, ◌++◌, append_assoc}
use native.Mathlib.Omega.{arith}
use Rattle.operators.proofs.Tests.{left, right}
use lib.Dec.{leb, eqb, lit<, lit≤}
use lib.IntN.{ℤ, pos, negsuc}
use lib.Signed.{mag}
use lib.ListN.{length, get_or, drop}
use borrow.Author.Tests.{lt-ltb, le-leb, ne_eqb, leb-true, eqb-true}
use Rattle.operators.specs.Operators.{operator_count, name_of}
use Rattle.operators.proofs.Numbers.{agree}
use Rattle.std.specs.Prelude.{Option, Some, None, Ok}
use Rattle.lines.specs.Form.{ending, value_key, out_key, skip, whole, positive, negative, signed, value_line, bit, out_line}
use Rattle.text.specs.Grammar.{op_key, first_key, second_key, place, letter, name_at, number_named, known, named, op_line, fields_after, stream}
use Rattle.decimal.specs.Decimal.{decimal, value_text}
use Rattle.render.specs.Render.{bit_text, line, stream_text}
use Rattle.decimal.proofs.Digits.{digits_first, digits_some, digit_one}
use Rattle.render.proofs.Written.{here, on, skip_written, skip_absent, Finds, whole_written, ended_written, line_split, field_written}

-- ## k

-- a value in two's complement
abbrev pub bits_of : ℤ → ℕ
bits_of (pos n) = n
bits_of (negsuc n) = 2 ^ 64 - suc n

positive_found : (s : List ℕ) (x : Option (ℕ × ℕ)) (v : ℕ) (r : List ℕ) → v < 2 ^ 63 → Finds s x v r → Finds s (positive x) v r
positive_found s x v r h f = (f.0, rw (f.1, lt-ltb v (2 ^ 63) h), f.2, f.3)

negative_found : (s : List ℕ) (x : Option (ℕ × ℕ)) (v : ℕ) (r : List ℕ) → v < 2 ^ 63 → Finds s x (suc v) r → Finds s (negative x) (2 ^ 64 - suc v) r
negative_found s x v r h f = (f.0, rw (f.1, ne_eqb (suc v) 0 (λ e. omega arith), le-leb (suc v) (2 ^ 63) h), f.2, f.3)

no_minus : (s : List ℕ) (at v : ℕ) (r d : List ℕ) → d ≡ decimal v → v < 10 ^ 19 → drop at s ≡ d ++ r → skip s at (45 ∷ []) ≡ None
no_minus s at v r [] q h e = absurd (omega (arith, digits_some 19 v (lit< tt), ap length q))
no_minus s at v r (c ∷ d) q h e =
    let f : get_or (decimal v) 0 0 ≡ c = ap (λ (x : List ℕ). get_or x 0 0) (sym q) in
    skip_absent s at 45 c [] (d ++ r) e (λ z. omega (arith, (digits_first 19 v (lit< tt) h).0))

pub signed_written : (s : List ℕ) (at : ℕ) (k : ℤ) (r : List ℕ) → mag k < 2 ^ 63 → drop at s ≡ value_text k ++ (10 ∷ r) → Finds s (signed s at) (bits_of k) (10 ∷ r)
unfolding signed
signed_written s at (pos n) r h e =
    let b : n < 10 ^ 19 = omega arith in
    rw (no_minus s at n (10 ∷ r) (decimal n) refl b e) (positive_found s (whole s at 19) n (10 ∷ r) h (whole_written s at n 19 r (lit< tt) (lit≤ tt) b e))
signed_written s at (negsuc n) r h e =
    let b : suc n < 10 ^ 19 = omega arith in
    rw (skip_written s (45 ∷ []) at (decimal (suc n) ++ (10 ∷ r)) e)
    (negative_found s (whole s (at + 1) 19) n (10 ∷ r) h (whole_written s (at + 1) (suc n) 19 r (lit< tt) (lit≤ tt) b (on s at (45 ∷ []) (decimal (suc n) ++ (10 ∷ r)) e)))

pub value_written : (s : List ℕ) (at : ℕ) (k : ℤ) (r : List ℕ) → mag k < 2 ^ 63 → drop at s ≡ line value_key (value_text k) ++ r → Finds s (value_line s at) (bits_of k) r
unfolding value_line
value_written s at k r h e =
    let e₁ = e ∙ line_split value_key (value_text k) r in
    rw (skip_written s value_key at (value_text k ++ (10 ∷ r)) e₁)
    (ended_written s (signed s (at + 2)) (bits_of k) r (signed_written s (at + 2) k r h (on s at value_key (value_text k ++ (10 ∷ r)) e₁)))

-- ## out

abbrev pub out_of : Bool → ℕ
out_of true = 1
out_of false = 0

bit_decimal : (b : Bool) → bit_text b ≡ decimal (out_of b)
bit_decimal true = sym (digit_one 18 1 (lit< tt))
bit_decimal false = sym (digit_one 18 0 (lit< tt))

pub out_written : (s : List ℕ) (at : ℕ) (b : Bool) (r : List ℕ) → drop at s ≡ line out_key (bit_text b) ++ r → Finds s (out_line s at) (out_of b) r
unfolding out_line
out_written s at b r e =
    let f = field_written s at out_key (out_of b) 1 r (lit< tt) (lit≤ tt) (small b) (e ∙ ap (λ (x : List ℕ). line out_key x ++ r) (bit_decimal b)) in
    (f.0, rw f.1 (bit_of b f.0), f.2, f.3)
  where
    small : (b : Bool) → out_of b < 10 ^ 1
    small true = lit< tt
    small false = lit< tt

    bit_of : (b : Bool) (p : ℕ) → bit (Some (out_of b, p)) ≡ Some (out_of b, p)
    bit_of true p = refl
    bit_of false p = refl

-- ## op

abbrev letters_in : List ℕ → Bool
letters_in [] = true
letters_in (c ∷ w) = letter c && letters_in w

name_written : (s : List ℕ) (w : List ℕ) (p n : ℕ) (r : List ℕ) → letters_in w ≡ true → length w ≤ n → drop p s ≡ w ++ (10 ∷ r) → name_at s p n ≡ w
unfolding name_at
name_written s [] p zero r l h e = refl
name_written s [] p (suc n) r l h e = rw (here s p 10 r e).1
name_written s (c ∷ w) p zero r l h e = absurd (omega arith)
name_written s (c ∷ w) p (suc n) r l h e =
    let t = here s p c (w ++ (10 ∷ r)) e in
    rw (t.1, left (letter c) (letters_in w) l) (ap (λ (x : List ℕ). c ∷ x) (name_written s w (p + 1) n r (right (letter c) (letters_in w) l) (omega arith) t.2))

-- what the table's names are like: small letters, one to five, and each has its own number
name_fits : ℕ → Bool
name_fits n = letters_in (name_of n) && (leb 1 (length (name_of n)) && (leb (length (name_of n)) 5 && eqb (number_named (name_of n)) n))

all_fit : (n : ℕ) → 1 ≤ n → n ≤ operator_count → name_fits n ≡ true
unfolding name_fits name_of number_named place
all_fit n l h = agree name_fits (λ n. true) 1 operator_count refl n l (omega arith)

module _ (n : ℕ) (l : 1 ≤ n) (h : n ≤ operator_count) where
  name_letters : letters_in (name_of n) ≡ true
  unfolding name_fits
  name_letters = left (letters_in (name_of n)) (leb 1 (length (name_of n)) && (leb (length (name_of n)) 5 && eqb (number_named (name_of n)) n)) (all_fit n l h)

  rest₁ : (leb 1 (length (name_of n)) && (leb (length (name_of n)) 5 && eqb (number_named (name_of n)) n)) ≡ true
  unfolding name_fits
  rest₁ = right (letters_in (name_of n)) (leb 1 (length (name_of n)) && (leb (length (name_of n)) 5 && eqb (number_named (name_of n)) n)) (all_fit n l h)

  rest₂ : (leb (length (name_of n)) 5 && eqb (number_named (name_of n)) n) ≡ true
  rest₂ = right (leb 1 (length (name_of n))) (leb (length (name_of n)) 5 && eqb (number_named (name_of n)) n) rest₁

  name_some : 1 ≤ length (name_of n)
  name_some = leb-true 1 (length (name_of n)) (left (leb 1 (length (name_of n))) (leb (length (name_of n)) 5 && eqb (number_named (name_of n)) n) rest₁)

  pub name_short : length (name_of n) ≤ 5
  name_short = leb-true (length (name_of n)) 5 (left (leb (length (name_of n)) 5) (eqb (number_named (name_of n)) n) rest₂)

  name_number : number_named (name_of n) ≡ n
  name_number = eqb-true (number_named (name_of n)) n (right (leb (length (name_of n)) 5) (eqb (number_named (name_of n)) n) rest₂)

known_operator : (n p : ℕ) → 1 ≤ n → known n (Some p) ≡ Ok (n, p)
known_operator zero p h = absurd (omega arith)
known_operator (suc n) p h = refl

named_full : (s : List ℕ) (p : ℕ) (w : List ℕ) → 1 ≤ length w → named s p w ≡ known (number_named w) (skip s (p + length w) ending)
unfolding named
named_full s p [] h = absurd (omega arith)
named_full s p (c ∷ w) h = refl

pub op_written : (s : List ℕ) (at n : ℕ) (r : List ℕ) → 1 ≤ n → n ≤ operator_count → drop at s ≡ line op_key (name_of n) ++ r → (p : ℕ) × (op_line s at ≡ Ok (n, p)) × (drop p s ≡ r)
unfolding op_line
op_written s at n r l h e =
    let e₁ = e ∙ line_split op_key (name_of n) r in
    let p = at + 3 in
    let o = on s at op_key (name_of n ++ (10 ∷ r)) e₁ in
    let q = p + length (name_of n) in
    let t = on s p (name_of n) (10 ∷ r) o in (
      q + 1,
      rw (skip_written s op_key at (name_of n ++ (10 ∷ r)) e₁, name_written s (name_of n) p 5 r (name_letters n l h) (name_short n l h) o, named_full s p (name_of n) (name_some n l h), name_number n l h, skip_written s ending q r t) (known_operator n (q + 1) l),
      on s q ending r t,
    )

-- ## The five lines

pub stream_written : (s : List ℕ) (at op a b : ℕ) (k : ℤ) (out : Bool) (r : List ℕ) → 1 ≤ op → op ≤ operator_count → a < 10 ^ 3 → b < 10 ^ 3 → mag k < 2 ^ 63 → drop at s ≡ stream_text op a b k out ++ r
    → (p : ℕ) × (stream s at ≡ Ok (record { op = op; a = a; b = b; k = bits_of k; out = out_of out; next = p })) × (drop p s ≡ r) × (p ≤ length s)
unfolding stream stream_text fields_after
stream_written s at op a b k out r l h ha hb hk e =
    let o = line out_key (bit_text out) in
    let v = line value_key (value_text k) in
    let y = line second_key (decimal b) in
    let x = line first_key (decimal a) in
    let f₁ = op_written s at op ((x ++ (y ++ (v ++ o))) ++ r) l h (e ∙ append_assoc (line op_key (name_of op)) (x ++ (y ++ (v ++ o))) r) in
    let f₂ = field_written s f₁.0 first_key a 3 ((y ++ (v ++ o)) ++ r) (lit< tt) (lit≤ tt) ha (f₁.2 ∙ append_assoc x (y ++ (v ++ o)) r) in
    let f₃ = field_written s f₂.0 second_key b 3 ((v ++ o) ++ r) (lit< tt) (lit≤ tt) hb (f₂.2 ∙ append_assoc y (v ++ o) r) in
    let f₄ = value_written s f₃.0 k (o ++ r) hk (f₃.2 ∙ append_assoc v o r) in
    let f₅ = out_written s f₄.0 out r f₄.2 in
    (f₅.0, rw (f₁.1, f₂.1, f₃.1, f₄.1, f₅.1), f₅.2, f₅.3)
