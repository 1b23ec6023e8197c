-- A fault of 2, 3 or 4 stands on the last line that the grammar gets to: the lines before it are right and it is not.
use Prim.Native.Nat.{ℕ, zero, suc, ◌+◌, ◌*◌, ◌<◌, ◌≤◌}
use mathlib.Core.Path.{◌≡◌, refl, sym, ap, ◌∙◌, subst}
use mathlib.Core.Bool.{Bool, true, false, cond}
use mathlib.Core.List.{List}
use native.Mathlib.Omega.{arith}
use native.Mathlib.Decide.{dec_lt}
use lib.Dec.{eqb, ltb}
use lib.ListN.{length}
use Rattle.meaning.specs.CycleTest.{acyclic}
use Rattle.operators.specs.Limits.{text_limit}
use Rattle.std.specs.Prelude.{Option, Some, None, Result, Ok, Err}
use Rattle.refusal.specs.declared.Refusal.{Refusal}
use Rattle.refusal.specs.Numbers.{number_of}
use Rattle.lines.specs.Form.{skip, field, value_line}
use Rattle.text.specs.declared.Fields.{Fields}
use Rattle.text.specs.Grammar.{plan_line, first_key, second_key, stream, head}
use Rattle.render.proofs.Ranges.{same_stream, not_refused}
use Rattle.faults.specs.declared.Fault as declared
use Rattle.faults.specs.Faults.{fault, none, in_stream, or_next, head_line, line_or, field_line, stream_line, stream_or, form_fault, field_rule, rule_fault, window_fault, cycle_fault, plan_of, fault_of_head, fault_with, Found}
use Rattle.faults.specs.Lines.{LineIn, op, a, b, k, out, StreamIn, first, next, LineAt, top, count, inside, beyond, Shown}
use Rattle.faults.proofs.Begins.{line_begins}
use Rattle.faults.proofs.Located.{fault_read}
use Rattle.faults.proofs.Says.{first_told, window_told}

abbrev count_in : Result (ℕ × ℕ) Refusal → ℕ
count_in (Ok (n, p)) = n
count_in (Err r) = 0

abbrev place_in : Result (ℕ × ℕ) Refusal → ℕ
place_in (Ok (n, p)) = p
place_in (Err r) = 0

heads_count : {n m p q : ℕ} → ◌≡◌ {A = Result (ℕ × ℕ) Refusal} (Ok (n, p)) (Ok (m, q)) → n ≡ m
heads_count e = ap count_in e

heads_place : {n m p q : ℕ} → ◌≡◌ {A = Result (ℕ × ℕ) Refusal} (Ok (n, p)) (Ok (m, q)) → p ≡ q
heads_place e = ap place_in e

no_head : {n p : ℕ} {r : Refusal} → ◌≡◌ {A = Result (ℕ × ℕ) Refusal} (Err r) (Ok (n, p)) → ⊥
no_head e = cc

no_word : {p : ℕ} → None ≡ Some p → ⊥
no_word e = cc

module _ (s : List ℕ) where
  -- ## One stream: the grammar gets to no line after the faulty one

  k_least : (t : ℕ) (x : Option (ℕ × ℕ)) → 3 ≤ line_or 3 x (λ r. 4)
  k_least t (Some (v, r)) = omega arith
  k_least t None = omega arith

  b_least : (x : Option (ℕ × ℕ)) → 2 ≤ line_or 2 x (λ r. line_or 3 (value_line s r) (λ r. 4))
  b_least (Some (v, r)) = let h = k_least r (value_line s r) in omega arith
  b_least None = omega arith

  a_least : (x : Option (ℕ × ℕ)) → 1 ≤ line_or 1 x (λ r. line_or 2 (field s r second_key 3) (λ r. line_or 3 (value_line s r) (λ r. 4)))
  a_least (Some (v, r)) = let h = b_least (field s r second_key 3) in omega arith
  a_least None = omega arith

  line_most : {at j q : ℕ} → LineIn s at j q → (j ≤ stream_line s at) × (j < 5)
  unfolding stream_line field_line
  line_most op = (omega arith, omega arith)
  line_most (a {p = p} e) = (rw e (a_least (field s p first_key 3)), omega arith)
  line_most (b {q = q} (a e) f) = (rw (e, f) (b_least (field s q second_key 3)), omega arith)
  line_most (k {q = q} (b (a e) f) g) = (rw (e, f, g) (k_least q (value_line s q)), omega arith)
  line_most (out (k (b (a e) f) g) h) = (rw (e, f, g, h) (omega arith), omega arith)

  -- ## All streams

  module _ (at : ℕ) where
    next_once : {p q : ℕ} {f g : Fields} → p ≡ q → stream s p ≡ Ok f → stream s q ≡ Ok g → f.next ≡ g.next
    next_once e u v = ap (λ (x : Fields). x.next) (same_stream (sym u ∙ ap (stream s) e ∙ v))

    stream_once : {i j p q : ℕ} → StreamIn s at i p → StreamIn s at j q → i ≡ j → p ≡ q
    stream_once first first e = refl
    stream_once first (next w v) e = absurd (omega arith)
    stream_once (next w v) first e = absurd (omega arith)
    stream_once (next w v) (next x y) e = next_once (stream_once w x (omega arith)) v y

    -- a refused stream is the last that the grammar gets to
    stream_most : {i p : ℕ} {r : Refusal} → StreamIn s at i p → stream s p ≡ Err r → {j q : ℕ} → StreamIn s at j q → j ≤ i
    stream_most w e first = omega arith
    stream_most {i} {p} w e (next {i = j} {p = q} x v) = by (dec_lt j i) (stream_most w e x)
      where
        by : Dec (j < i) → j ≤ i → j + 1 ≤ i
        by (yes d) l = omega arith
        by (no d) l = not_refused (sym e ∙ ap (stream s) (stream_once w x (omega arith)) ∙ v)

    module _ (cap n : ℕ) (h : head cap s ≡ Ok (n, at)) where
      abbrev Most : ℕ → Type 0
      Most l = (m q : ℕ) → LineAt cap s m q → m ≤ l

      head_count : {m p : ℕ} → head cap s ≡ Ok (m, p) → (m ≡ n) × (p ≡ at)
      head_count e = (heads_count (sym e ∙ h), heads_place (sym e ∙ h))

      -- after all lines
      most_beyond : Most (3 + 5 * n)
      most_beyond m q top = omega arith
      most_beyond m q (count e) = omega arith
      most_beyond m q (inside e u w v) = let z = head_count e in let y = line_most v in omega arith
      most_beyond m q (beyond o e w) = let z = head_count e in omega arith

      -- within a stream
      most_inside : {i p : ℕ} {r : Refusal} → i < n → StreamIn s at i p → stream s p ≡ Err r → Most (3 + 5 * i + stream_line s p)
      most_inside u w e m q top = omega arith
      most_inside u w e m q (count f) = omega arith
      most_inside {i} {p} u w e m q (inside {i = j} {p = x} f d y v) =
          let y' = subst (λ (z : ℕ). StreamIn s z j x) (head_count f).1 y in
          let t = line_most v in
          let o = stream_most w e y' in
          by (dec_lt j i) y' t o
        where
          by : {l : ℕ} → Dec (j < i) → StreamIn s at j x → (l ≤ stream_line s x) × (l < 5) → j ≤ i → 3 + 5 * j + l ≤ 3 + 5 * i + stream_line s p
          by (yes c) y t o = omega arith
          by (no c) y t o =
              let z : j ≡ i = omega arith in
              let g = ap (stream_line s) (stream_once y w z) in
              omega arith
      most_inside {i} u w e m q (beyond {n = j} {p = x} g f y) =
          let z = head_count f in
          let o : j ≤ i = stream_most w e (subst (λ (t : ℕ). StreamIn s t j x) z.1 y) in
          absurd (omega arith)

      form_most : (m i p : ℕ) → i + m ≡ n → StreamIn s at i p → 0 < (form_fault s i p m).line → Most (form_fault s i p m).line
      unfolding form_fault
      form_most zero i p u w l = by (eqb p (length s)) l
        where
          by : (t : Bool) → 0 < (cond t none (fault 2 (3 + 5 * i) 0)).line → Most (cond t none (fault 2 (3 + 5 * i) 0)).line
          by true l = absurd (omega arith)
          by false l = let z : n ≡ i = omega arith in subst (λ (x : ℕ). Most (3 + 5 * x)) z most_beyond
      form_most (suc m) i p u w l = by (stream s p) refl l (λ f e. form_most m (i + 1) f.next (omega arith) (next w e))
        where
          by : (x : Result Fields Refusal) → stream s p ≡ x → 0 < (stream_or x (λ r. in_stream r i (stream_line s p)) (λ f. form_fault s (i + 1) f.next m)).line
              → ((f : Fields) → stream s p ≡ Ok f → 0 < (form_fault s (i + 1) f.next m).line → Most (form_fault s (i + 1) f.next m).line)
              → Most (stream_or x (λ r. in_stream r i (stream_line s p)) (λ f. form_fault s (i + 1) f.next m)).line
          by (Ok f) e l ih = ih f e l
          by (Err r) e l ih = most_inside (omega arith) w e

-- ## The whole text

module _ (cap : ℕ) (s : List ℕ) (f : declared.Fault) (l : 0 < f.line) (few : f.number ≤ 4) where
  abbrev Last : Type 0
  Last = (m q : ℕ) → LineAt cap s m q → m ≤ f.line

  same_last : (g : declared.Fault) → f ≡ g → (0 < g.line → (m q : ℕ) → LineAt cap s m q → m ≤ g.line) → Last
  same_last g e h = subst (λ (x : declared.Fault). (m q : ℕ) → LineAt cap s m q → m ≤ x.line) (sym e) (h (subst (λ (x : declared.Fault). 0 < x.line) e l))

  -- told here, or by what comes next
  last_or : (g h : declared.Fault) → f ≡ or_next g h → (f ≡ g → Last) → (f ≡ h → Last) → Last
  last_or g h e here later = by (eqb g.line 0) e
    where
      by : (t : Bool) → f ≡ cond t h g → Last
      by true = later
      by false = here

  -- 5, 18 and 6 are above 4
  not_above : (g : declared.Fault) (r : ℕ) → (0 < g.line → g.number ≡ r) → 5 ≤ r → f ≡ g → Last
  not_above g r t h e =
      let n = ap (λ (x : declared.Fault). x.number) e in
      let q = t (subst (λ (x : declared.Fault). 0 < x.line) e l) in
      absurd (omega arith)

  at_cycle : (t : Bool) (c : ℕ) → f ≡ cond t none (in_stream 6 c 0) → Last
  at_cycle true c e = same_last none e (λ z. absurd (omega arith))
  at_cycle false c e = not_above (in_stream 6 c 0) 6 (λ z. refl) (omega arith) e

  at_streams : (n at : ℕ) → head cap s ≡ Ok (n, at) → f ≡ fault_of_head cap s f.stream (Ok (n, at)) → Last
  at_streams n at h e =
      last_or (form_fault s 0 at n) rules e (λ e. same_last (form_fault s 0 at n) e (form_most s at cap n h n 0 at (omega arith) first)) (λ e.
      last_or (rule_fault s n at) windows e (not_above (rule_fault s n at) 5 (first_told s (field_rule n) n 0 0 at) (omega arith)) (λ e.
      last_or (window_fault s n at) cycle e (not_above (window_fault s n at) 18 (window_told s n at) (omega arith))
      (at_cycle (acyclic cap (plan_of cap s)) f.stream)))
    where
      cycle : declared.Fault
      cycle = cycle_fault cap (plan_of cap s) f.stream

      windows : declared.Fault
      windows = or_next (window_fault s n at) cycle

      rules : declared.Fault
      rules = or_next (rule_fault s n at) windows

  head_most : (r : Refusal) → head cap s ≡ Err r → (x : Option ℕ) → skip s 0 plan_line ≡ x → (m q : ℕ) → LineAt cap s m q → m ≤ head_line x
  head_most r h (Some p) e m q top = omega arith
  head_most r h (Some p) e m q (count g) = omega arith
  head_most r h None e m q top = omega arith
  head_most r h None e m q (count g) = absurd (no_word (sym e ∙ g))
  head_most r h x e m q (inside g u w v) = absurd (no_head (sym h ∙ g))
  head_most r h x e m q (beyond o g w) = absurd (no_head (sym h ∙ g))

  at_head : (x : Result (ℕ × ℕ) Refusal) → head cap s ≡ x → f ≡ fault_of_head cap s f.stream x → Last
  at_head (Ok (n, at)) h e = at_streams n at h e
  at_head (Err r) h e = same_last (fault (number_of r) (head_line (skip s 0 plan_line)) 0) e (λ z. head_most r h (skip s 0 plan_line) refl)

  last_line : Found cap s f → Last
  unfolding fault_with
  last_line w = by (ltb text_limit (length s)) w.place
    where
      by : (t : Bool) → f ≡ cond t (fault 1 0 0) (fault_of_head cap s f.stream (head cap s)) → Last
      by true e = same_last (fault 1 0 0) e (λ z. absurd (omega arith))
      by false e = at_head (head cap s) refl e

-- The line of a fault is read where an editor shows it; of 2, 3 and 4 it is the last that the grammar gets to.
pub fault_shown : (cap : ℕ) (s : List ℕ) (f : declared.Fault) → Found cap s f → 0 < f.line → Shown cap s f
fault_shown cap s f w l = let t = fault_read cap s f l w in record { at = t.0; read = t.1; begins = line_begins s cap t.1; last = λ few. last_line cap s f l few w }
