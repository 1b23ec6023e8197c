-- Each line that the grammar reads is one line of the text, so that its number is what an editor shows.
use Prim.Native.Nat.{ℕ, zero, suc, ◌+◌, ◌*◌, ◌/◌, ◌%◌}
use mathlib.Core.Path.{◌≡◌, refl, sym, ap, ◌∙◌, subst}
use mathlib.Core.Bool.{Bool, true, false, not, cond, ◌&&◌, true≢false}
use mathlib.Core.List.{List, [], ◌∷◌, ◌++◌, append_assoc}
use native.Mathlib.Omega.{arith}
use lib.Dec.{eqb, ltb, lit<, lit≤}
use lib.IntN.{ℤ, pos, negsuc}
use lib.ListN.{drop}
use borrow.Author.Tests.{eqb-false}
use mir.Syntax.{w64}
use mir.Val.{to_z}
use Rattle.operators.specs.Operators.{no_operator, operators, name_of}
use Rattle.operators.proofs.Numbers.{agreeing}
use Rattle.operators.proofs.Tests.{left, right}
use Rattle.lines.specs.Form.{ending, value_key, out_key, skip, field, value_line, out_line}
use Rattle.std.specs.Prelude.{Some, Ok}
use Rattle.text.specs.declared.Fields.{Fields}
use Rattle.text.specs.Grammar.{plan_line, streams_key, op_key, first_key, second_key, op_line, stream, head}
use Rattle.decimal.specs.Decimal.{digits, decimal, value_text}
use Rattle.render.specs.Render.{bit_text, line}
use Rattle.render.proofs.Ranges.{fields_case, stream_case}
use Rattle.render.proofs.Back.{skip_read, field_read, value_read, out_read, op_read}
use Rattle.render.proofs.Heads.{head_case}
use Rattle.faults.specs.Lines.{Unended, none, more, Begins, LineIn, op, a, b, k, out, StreamIn, first, next, LineAt, top, count, inside, beyond}

-- ## No key and no value has a byte 10

pub unended_append : (v w : List ℕ) → Unended v → Unended w → Unended (v ++ w)
unended_append [] w g h = h
unended_append (c ∷ v) w g h = (g.0, unended_append v w g.1 h)

digits_unended : (f n : ℕ) → Unended (digits f n)
unfolding digits
digits_unended zero n = tt
digits_unended (suc f) n = by (ltb n 10) (digits_unended f (n / 10))
  where
    by : (t : Bool) → Unended (digits f (n / 10)) → Unended (cond t ((48 + n) ∷ []) (digits f (n / 10) ++ ((48 + n % 10) ∷ [])))
    by true h = (λ e. omega arith, tt)
    by false h = unended_append (digits f (n / 10)) ((48 + n % 10) ∷ []) h (λ e. omega arith, tt)

value_unended : (z : ℤ) → Unended (value_text z)
value_unended (pos n) = digits_unended 19 n
value_unended (negsuc n) = (λ e. omega arith, digits_unended 19 (suc n))

bit_unended : (t : Bool) → Unended (bit_text t)
bit_unended true = (λ e. omega arith, tt)
bit_unended false = (λ e. omega arith, tt)

-- of the names, by computing over the table
abbrev clean : List ℕ → Bool
clean [] = true
clean (c ∷ w) = not (eqb c 10) && clean w

clean_unended : (w : List ℕ) → clean w ≡ true → Unended w
clean_unended [] h = tt
clean_unended (c ∷ w) h = (by (eqb c 10) refl (left (not (eqb c 10)) (clean w) h), clean_unended w (right (not (eqb c 10)) (clean w) h))
  where
    by : (t : Bool) → eqb c 10 ≡ t → not t ≡ true → c ≡ 10 → ⊥
    by true e h = absurd (true≢false (sym h))
    by false e h = eqb-false c 10 e

name_unended : (n : ℕ) → Unended (name_of n)
unfolding name_of
name_unended n = clean_unended (name_of n) (agreeing (λ o. clean o.name) (λ o. true) operators no_operator refl refl n)

-- ## One line

module _ (s : List ℕ) where
  renumber : {l m at : ℕ} → Begins s l at → l ≡ m → Begins s m at
  renumber {at} g e = subst (λ (x : ℕ). Begins s x at) e g

  line_after : {l at : ℕ} (q : ℕ) (key value : List ℕ) → Begins s l at → Unended key → Unended value → drop at s ≡ line key value ++ drop q s → Begins s (l + 1) q
  line_after {l} {at} q key value g u v e = record {
    lines = g.lines + 1;
    before = g.before ++ ((key ++ value) ++ ending);
    whole = more g.whole (key ++ value) (unended_append key value u v);
    split = g.split ∙ ap (λ (x : List ℕ). g.before ++ x) e ∙ simp append_assoc;
    counted = ap (λ (x : ℕ). x + 1) g.counted;
  }

  module _ {l : ℕ} where
    op_after : {at n q : ℕ} → Begins s l at → op_line s at ≡ Ok (n, q) → Begins s (l + 1) q
    op_after {at} {n} {q} g e = line_after q op_key (name_of n) g (clean_unended op_key refl) (name_unended n) (op_read s at n q e)

    field_after : {at v q : ℕ} (key : List ℕ) → clean key ≡ true → Begins s l at → field s at key 3 ≡ Some (v, q) → Begins s (l + 1) q
    field_after {at} {v} {q} key c g e = line_after q key (decimal v) g (clean_unended key c) (digits_unended 19 v) (field_read s at key 3 v q (lit< tt) (lit≤ tt) e)

    value_after : {at v q : ℕ} → Begins s l at → value_line s at ≡ Some (v, q) → Begins s (l + 1) q
    value_after {at} {v} {q} g e = line_after q value_key (value_text (to_z w64 v)) g (clean_unended value_key refl) (value_unended (to_z w64 v)) (value_read s at v q e).0

    out_after : {at v q : ℕ} → Begins s l at → out_line s at ≡ Some (v, q) → Begins s (l + 1) q
    out_after {at} {v} {q} g e = line_after q out_key (bit_text (eqb v 1)) g (clean_unended out_key refl) (bit_unended (eqb v 1)) (out_read s at v q e).0

  -- ## The lines of a stream, of all streams, of the text

  stream_after_lem : {l at : ℕ} {f : Fields} → Begins s l at → stream s at ≡ Ok f → Begins s (l + 5) f.next
  stream_after_lem {l} {at} {f} g e =
      stream_case s at f e (λ n p o r.
      fields_case s n p f r (λ x p₁ y p₂ z p₃ w end ea eb ek eo t.
      subst (λ (h : Fields). Begins s (l + 5) h.next) t (renumber (out_after (value_after (field_after second_key refl (field_after first_key refl (op_after g o) ea) eb) ek) eo) (omega arith))))

  line_in_lem : {l at j q : ℕ} → Begins s l at → LineIn s at j q → Begins s (l + j) q
  line_in_lem g op = renumber g (omega arith)
  line_in_lem g (a e) = op_after g e
  line_in_lem g (b w e) = renumber (field_after first_key refl (line_in_lem g w) e) (omega arith)
  line_in_lem g (k w e) = renumber (field_after second_key refl (line_in_lem g w) e) (omega arith)
  line_in_lem g (out w e) = renumber (value_after (line_in_lem g w) e) (omega arith)

  stream_in_lem : {l at i p : ℕ} → Begins s l at → StreamIn s at i p → Begins s (l + 5 * i) p
  stream_in_lem g first = renumber g (omega arith)
  stream_in_lem g (next w e) = renumber (stream_after_lem (stream_in_lem g w) e) (omega arith)

  top_begins : Begins s 1 0
  top_begins = record { lines = 0; before = []; whole = none; split = refl; counted = refl }

  count_begins : {p : ℕ} → skip s 0 plan_line ≡ Some p → Begins s 2 p
  count_begins {p} e = line_after p (112 ∷ 108 ∷ 97 ∷ 110 ∷ 61 ∷ 49 ∷ []) [] top_begins (clean_unended (112 ∷ 108 ∷ 97 ∷ 110 ∷ 61 ∷ 49 ∷ []) refl) tt (skip_read s plan_line 0 p e)

  -- of a text of some bytes
  head_begins : (cap : ℕ) {n at : ℕ} → head cap s ≡ Ok (n, at) → (s ≡ [] → n ≡ 0 → ⊥) → Begins s 3 at
  head_begins cap {n} {at} e some = head_case cap s n at e (λ z m q. absurd (some z m)) (λ p w f x y. field_after streams_key refl (count_begins w) f)

  -- no bytes have no first line
  no_line : {q : ℕ} → skip [] 0 plan_line ≡ Some q → ⊥
  unfolding skip
  no_line e = let z : ◌≡◌ {A = ℕ} 0 1 = cc in omega arith

  -- The line that the grammar reads as the l-th has just l - 1 whole lines before it.
  pub line_begins : (cap : ℕ) {l q : ℕ} → LineAt cap s l q → Begins s l q
  line_begins cap top = top_begins
  line_begins cap (count e) = count_begins e
  line_begins cap (inside h l w v) = line_in_lem (stream_in_lem (head_begins cap h (λ z m. omega arith)) w) v
  line_begins cap (beyond e h w) = stream_in_lem (head_begins cap h (λ z m. no_line (ap (λ (x : List ℕ). skip x 0 plan_line) (sym z) ∙ e))) w
