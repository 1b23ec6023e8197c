-- What reading a stream's lines finds lies in range.
use Prim.Native.Nat.{ℕ, zero, suc, ◌+◌, ◌<◌, ◌≤◌}
use mathlib.Core.Path.{◌≡◌, refl, sym, ap}
use mathlib.Core.Bool.{Bool, true, false, cond, true≢false}
use mathlib.Core.List.{List, [], ◌∷◌}
use native.Mathlib.Omega.{arith}
use lib.ListN.{length}
use lib.Dec.{lit<}
use Rattle.operators.specs.Operators.{operator_count}
use Rattle.std.specs.Prelude.{Option, Some, None, Result, Ok, Err}
use Rattle.refusal.specs.declared.Refusal.{Refusal}
use Rattle.refusal.specs.declared.Refusal.TheVariants.{TextForm, TextOperator}
use Rattle.text.specs.declared.Fields.{Fields}
use Rattle.lines.specs.Form.{ending, skip, field, value_line, out_line}
use Rattle.text.specs.Grammar.{op_key, first_key, second_key, same_name, place, names, number_named, known, named, name_at, name_after, op_line, next, fields_after, stream_after, stream}

-- ## Case by case: what was found, if something was

abbrev is_stream : Result Fields Refusal → Bool
is_stream (Ok f) = true
is_stream (Err r) = false

abbrev fields_or : Fields → Result Fields Refusal → Fields
fields_or d (Ok f) = f
fields_or d (Err r) = d

pub same_stream : {f g : Fields} → ◌≡◌ {A = Result Fields Refusal} (Ok f) (Ok g) → f ≡ g
same_stream {f} {g} e = ap (fields_or f) e

pub not_refused : {A : Type 0} {r : Refusal} {f : Fields} → Err r ≡ Ok f → A
not_refused e = absurd (true≢false (sym (ap is_stream e)))

pub next_case : {A : Type 0} (x : Option (ℕ × ℕ)) (g : ℕ → ℕ → Result Fields Refusal) (f : Fields) → next x g ≡ Ok f → ((v p : ℕ) → x ≡ Some (v, p) → g v p ≡ Ok f → A) → A
next_case (Some (v, p)) g f e k = k v p refl e
next_case None g f e k = not_refused e

-- the lines after the op line, each found
pub fields_case : {A : Type 0} (s : List ℕ) (op at : ℕ) (f : Fields) → fields_after s op at ≡ Ok f
    → ((a p b q k t out end : ℕ) → field s at first_key 3 ≡ Some (a, p) → field s p second_key 3 ≡ Some (b, q) → value_line s q ≡ Some (k, t) → out_line s t ≡ Some (out, end) → record { op = op; a = a; b = b; k = k; out = out; next = end } ≡ f → A) → A
unfolding fields_after
fields_case s op at f e c =
    next_case (field s at first_key 3) (λ a p. next (field s p second_key 3) (λ b q. next (value_line s q) (λ k t. next (out_line s t) (λ out end. Ok (record { op = op; a = a; b = b; k = k; out = out; next = end }))))) f e
    (λ a p e₁ r₁. next_case (field s p second_key 3) (λ b q. next (value_line s q) (λ k t. next (out_line s t) (λ out end. Ok (record { op = op; a = a; b = b; k = k; out = out; next = end })))) f r₁
    (λ b q e₂ r₂. next_case (value_line s q) (λ k t. next (out_line s t) (λ out end. Ok (record { op = op; a = a; b = b; k = k; out = out; next = end }))) f r₂
    (λ k t e₃ r₃. next_case (out_line s t) (λ out end. Ok (record { op = op; a = a; b = b; k = k; out = out; next = end })) f r₃
    (λ out end e₄ r₄. c a p b q k t out end e₁ e₂ e₃ e₄ (same_stream r₄)))))

-- the op line found, and then the others
pub stream_case : {A : Type 0} (s : List ℕ) (at : ℕ) (f : Fields) → stream s at ≡ Ok f → ((op p : ℕ) → op_line s at ≡ Ok (op, p) → fields_after s op p ≡ Ok f → A) → A
unfolding stream
stream_case {A = A} s at f e c = by_name (op_line s at) refl e
  where
    by_name : (x : Result (ℕ × ℕ) Refusal) → op_line s at ≡ x → stream_after s x ≡ Ok f → A
    by_name (Ok (op, p)) q r = c op p q r
    by_name (Err t) q r = not_refused r

-- ## The stored number

place_below : (w : List ℕ) (l : List (List ℕ)) (n : ℕ) → 0 < n + length l → place w l n < n + length l
unfolding place
place_below w [] n h = h
place_below w (v ∷ l) n h = one (same_name w v) (place_below w l (n + 1) (omega arith))
  where
    one : (b : Bool) → place w l (n + 1) < n + 1 + length l → cond b n (place w l (n + 1)) < n + suc (length l)
    one true k = omega arith
    one false k = omega arith

pub number_below : (w : List ℕ) → number_named w ≤ operator_count
unfolding number_named
number_below w = omega (arith, place_below w names 0 (lit< tt))

-- ## The op line

abbrev is_operator_line : Result (ℕ × ℕ) Refusal → Bool
is_operator_line (Ok (n, p)) = true
is_operator_line (Err r) = false

abbrev operator_in : Result (ℕ × ℕ) Refusal → ℕ
operator_in (Ok (n, p)) = n
operator_in (Err r) = 0

abbrev position_in : Result (ℕ × ℕ) Refusal → ℕ
position_in (Ok (n, p)) = p
position_in (Err r) = 0

no_fault : {A : Type 0} {n p : ℕ} → ◌≡◌ {A = Result (ℕ × ℕ) Refusal} (Err TextForm) (Ok (n, p)) → A
no_fault e = absurd (true≢false (sym (ap is_operator_line e)))

no_unknown : {A : Type 0} {n p : ℕ} → ◌≡◌ {A = Result (ℕ × ℕ) Refusal} (Err TextOperator) (Ok (n, p)) → A
no_unknown e = absurd (true≢false (sym (ap is_operator_line e)))

known_case : {A : Type 0} (n : ℕ) (x : Option ℕ) (op q : ℕ) → known n x ≡ Ok (op, q) → (n ≡ op → 0 < op → x ≡ Some q → A) → A
known_case zero (Some p) op q e c = no_unknown e
known_case zero None op q e c = no_fault e
known_case (suc n) None op q e c = no_fault e
known_case (suc n) (Some p) op q e c =
    let z : suc n ≡ op = ap operator_in e in
    c z (omega arith) (ap Some (ap position_in e))

named_case : {A : Type 0} (s : List ℕ) (p : ℕ) (w : List ℕ) (op q : ℕ) → named s p w ≡ Ok (op, q) → (number_named w ≡ op → 0 < op → skip s (p + length w) ending ≡ Some q → A) → A
unfolding named
named_case s p [] op q e c = no_fault e
named_case s p (x ∷ w) op q e c = known_case (number_named (x ∷ w)) (skip s (p + length (x ∷ w)) ending) op q e c

pub op_case : {A : Type 0} (s : List ℕ) (at op q : ℕ) → op_line s at ≡ Ok (op, q) → ((p : ℕ) → skip s at op_key ≡ Some p → number_named (name_at s p 5) ≡ op → 0 < op → skip s (p + length (name_at s p 5)) ending ≡ Some q → A) → A
unfolding op_line
op_case {A = A} s at op q e c = by_word (skip s at op_key) refl e
  where
    by_word : (x : Option ℕ) → skip s at op_key ≡ x → name_after s x ≡ Ok (op, q) → A
    by_word (Some p) r t = named_case s p (name_at s p 5) op q t (c p r)
    by_word None r t = no_fault t

-- a stream's stored number is an operator's
pub op_range : (s : List ℕ) (at : ℕ) (f : Fields) → stream s at ≡ Ok f → (1 ≤ f.op) × (f.op ≤ operator_count)
op_range s at f e =
    stream_case s at f e
    (λ op p l r. fields_case s op p f r
    (λ a p₁ b q k t out end e₁ e₂ e₃ e₄ same. op_case s at op p l
    (λ p₂ w n h z.
    let m : op ≡ f.op = ap (λ (x : Fields). x.op) same in
    (omega arith, omega (arith, number_below (name_at s p₂ 5))))))
