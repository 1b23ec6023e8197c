-- The line of a fault is one at which the grammar reads the text.
use Prim.Native.Nat.{ℕ, zero, suc, ◌+◌, ◌*◌, ◌<◌, ◌≤◌}
use mathlib.Core.Path.{◌≡◌, refl, sym, ap, ◌∙◌, subst}
use mathlib.Core.Bool.{Bool, true, false, cond}
use mathlib.Core.List.{List}
use native.Mathlib.Omega.{arith}
use native.Mathlib.Decide.{dec_lt}
use lib.Dec.{eqb, ltb, lit<}
use lib.ListN.{length}
use borrow.Author.Tests.{eqb-true, eqb-false}
use Rattle.meaning.specs.Plan.{Plan}
use Rattle.meaning.specs.Cycle.{Leads}
use Rattle.meaning.specs.CycleTest.{acyclic}
use Rattle.operators.specs.Operators.{uses_a, uses_b, uses_k}
use Rattle.operators.specs.Rules.{arg_ok, value_ok}
use Rattle.operators.specs.Limits.{text_limit}
use Rattle.std.specs.Prelude.{Option, Some, None, Result, Ok, Err}
use Rattle.refusal.specs.declared.Refusal.{Refusal}
use Rattle.refusal.specs.Numbers.{number_of}
use Rattle.lines.specs.Form.{skip, field, value_line}
use Rattle.text.specs.declared.Fields.{Fields}
use Rattle.text.specs.Grammar.{plan_line, first_key, second_key, op_line, stream, head}
use Rattle.render.proofs.Ranges.{fields_case, stream_case}
use Rattle.render.proofs.Heads.{head_case}
use Rattle.plan.specs.Rules.{Form, refused, formed, put, others, streams, plan_from}
use Rattle.plan.proofs.Forms.{clash}
use Rattle.plan.proofs.Noted.{read_sound, plan_length}
use Rattle.faults.specs.declared.Fault as declared
use Rattle.faults.specs.Faults.{fault, none, in_stream, or_next, head_line, line_or, field_line, line_after, stream_line, stream_or, form_fault, Rule, first_broken, field_broken, field_rule, rule_fault, width_rule, ninth_rule, width_fault, ninth_fault, window_fault, Lowest, cycle_fault, plan_of, fault_of_head, fault_with, Found}
use Rattle.faults.specs.Lines.{LineIn, op, a, b, k, out, StreamIn, first, next, LineAt, top, count, inside, beyond}
use Rattle.faults.proofs.Says.{FormSays, form_says}
use Rattle.faults.proofs.Cycles.{no_way}
use Rattle.faults.proofs.Number.{plan_read}

-- some position at which the line is read
abbrev Somewhere : (ℕ → Type 0) → Type 0
Somewhere P = (q : ℕ) × P q

module _ (s : List ℕ) where
  -- ## One stream

  field_line_in : (at n p : ℕ) → op_line s at ≡ Ok (n, p) → Somewhere (LineIn s at (field_line s p))
  unfolding field_line
  field_line_in at n p e = by_a (field s p first_key 3) refl
    where
      by_k : (t : ℕ) → LineIn s at 3 t → (x : Option (ℕ × ℕ)) → value_line s t ≡ x → Somewhere (LineIn s at (line_or 3 x (λ r. 4)))
      by_k t w (Some (v, r)) q = (r, out w q)
      by_k t w None q = (t, w)

      by_b : (t : ℕ) → LineIn s at 2 t → (x : Option (ℕ × ℕ)) → field s t second_key 3 ≡ x → Somewhere (LineIn s at (line_or 2 x (λ r. line_or 3 (value_line s r) (λ r. 4))))
      by_b t w (Some (v, r)) q = by_k r (k w q) (value_line s r) refl
      by_b t w None q = (t, w)

      by_a : (x : Option (ℕ × ℕ)) → field s p first_key 3 ≡ x → Somewhere (LineIn s at (line_or 1 x (λ r. line_or 2 (field s r second_key 3) (λ r. line_or 3 (value_line s r) (λ r. 4)))))
      by_a (Some (v, r)) q = by_b r (b (a e) q) (field s r second_key 3) refl
      by_a None q = (p, a e)

  stream_line_in : (at : ℕ) → Somewhere (LineIn s at (stream_line s at))
  unfolding stream_line
  stream_line_in at = by (op_line s at) refl
    where
      by : (x : Result (ℕ × ℕ) Refusal) → op_line s at ≡ x → Somewhere (LineIn s at (line_after s x))
      by (Ok (n, p)) e = field_line_in at n p e
      by (Err r) e = (at, op)

  -- all five lines of a stream that is read
  lines_in : (at : ℕ) (f : Fields) → stream s at ≡ Ok f → (j : ℕ) → j < 5 → Somewhere (LineIn s at j)
  lines_in at f e j h =
      stream_case s at f e (λ o p eo r.
      fields_case s o p f r (λ x p₁ y p₂ z p₃ w end ea eb ek eu t.
      by j h (p, a eo) (p₁, b (a eo) ea) (p₂, k (b (a eo) ea) eb) (p₃, out (k (b (a eo) ea) eb) ek)))
    where
      by : (j : ℕ) → j < 5 → Somewhere (LineIn s at 1) → Somewhere (LineIn s at 2) → Somewhere (LineIn s at 3) → Somewhere (LineIn s at 4) → Somewhere (LineIn s at j)
      by zero h l₁ l₂ l₃ l₄ = (at, op)
      by (suc zero) h l₁ l₂ l₃ l₄ = l₁
      by (suc (suc zero)) h l₁ l₂ l₃ l₄ = l₂
      by (suc (suc (suc zero))) h l₁ l₂ l₃ l₄ = l₃
      by (suc (suc (suc (suc zero)))) h l₁ l₂ l₃ l₄ = l₄
      by (suc (suc (suc (suc (suc j))))) h l₁ l₂ l₃ l₄ = absurd (omega arith)

  -- ## All streams

  module _ (cap n at : ℕ) (h : head cap s ≡ Ok (n, at)) where
    abbrev Read : ℕ → Type 0
    Read l = Somewhere (LineAt cap s l)

    first_at : {i p : ℕ} → StreamIn s at i p → i ≡ 0 → p ≡ at
    first_at first e = refl
    first_at (next w v) e = absurd (omega arith)

    read_in : {i p j : ℕ} → i < n → StreamIn s at i p → Somewhere (LineIn s p j) → Read (3 + 5 * i + j)
    read_in u w l = (l.0, inside h u w l.1)

    form_read : (m i p : ℕ) → i + m ≡ n → StreamIn s at i p → 0 < (form_fault s i p m).line → Read (form_fault s i p m).line
    unfolding form_fault
    form_read zero i p u w l = by (eqb p (length s)) refl l
      where
        by : (t : Bool) → eqb p (length s) ≡ t → 0 < (cond t none (fault 2 (3 + 5 * i) 0)).line → Read (cond t none (fault 2 (3 + 5 * i) 0)).line
        by true e l = absurd (omega arith)
        by false e l =
            let z : n ≡ i = omega arith in
            -- of no bytes none are left over
            head_case cap s n at h (λ b m q. let y = ap length b in let x = first_at w (omega arith) in absurd (eqb-false p (length s) e (omega arith)))
            (λ q f g x y. subst (λ (x : ℕ). Read (3 + 5 * x)) z (p, beyond f h (subst (λ (x : ℕ). StreamIn s at x p) (sym z) w)))
    form_read (suc m) i p u w l = by (stream s p) refl l (λ f e. form_read m (i + 1) f.next (omega arith) (next w e))
      where
        by : (x : Result Fields Refusal) → stream s p ≡ x → 0 < (stream_or x (λ r. in_stream r i (stream_line s p)) (λ f. form_fault s (i + 1) f.next m)).line
            → ((f : Fields) → stream s p ≡ Ok f → 0 < (form_fault s (i + 1) f.next m).line → Read (form_fault s (i + 1) f.next m).line)
            → Read (stream_or x (λ r. in_stream r i (stream_line s p)) (λ f. form_fault s (i + 1) f.next m)).line
        by (Ok f) e l ih = ih f e l
        by (Err r) e l ih = read_in (omega arith) w (stream_line_in p)

    -- a rule is broken at one of a stream's five lines
    first_read : (r : Rule) → ((f : Fields) → r.line f < 5) → (m w i p : ℕ) → i + m ≡ n → StreamIn s at i p → 0 < (first_broken r s w i p m).line → Read (first_broken r s w i p m).line
    unfolding first_broken
    first_read r five zero w i p u x l = absurd (omega arith)
    first_read r five (suc m) w i p u x l = by (stream s p) refl l (λ f e. first_read r five m (r.count w f) (i + 1) f.next (omega arith) (next x e))
      where
        after : Fields → declared.Fault
        after f = first_broken r s (r.count w f) (i + 1) f.next m

        by_test : (t : Bool) (f : Fields) → stream s p ≡ Ok f → 0 < (cond t (after f) (in_stream r.number i (r.line f))).line → (0 < (after f).line → Read (after f).line) → Read (cond t (after f) (in_stream r.number i (r.line f))).line
        by_test true f e l ih = ih l
        by_test false f e l ih = read_in (omega arith) x (lines_in p f e (r.line f) (five f))

        by : (y : Result Fields Refusal) → stream s p ≡ y → 0 < (stream_or y (λ q. none) (λ f. cond (r.kept w f) (after f) (in_stream r.number i (r.line f)))).line
            → ((f : Fields) → stream s p ≡ Ok f → 0 < (after f).line → Read (after f).line)
            → Read (stream_or y (λ q. none) (λ f. cond (r.kept w f) (after f) (in_stream r.number i (r.line f)))).line
        by (Ok f) e l ih = by_test (r.kept w f) f e l (ih f e)
        by (Err q) e l ih = absurd (omega arith)

    -- every stream of a text that was read
    stream_read : (m i p : ℕ) (fs : List Fields) (end : ℕ) → StreamIn s at i p → streams s p m ≡ formed fs end → (c : ℕ) → i ≤ c → c < i + m → Somewhere (StreamIn s at c)
    unfolding streams
    stream_read zero i p fs end w e c l u = absurd (omega arith)
    stream_read (suc m) i p fs end w e c l u = by (stream s p) refl e (eqb i c) refl (λ f q gs t z d. stream_read m (i + 1) f.next gs t (next w q) z c d (omega arith))
      where
        later : (f : Fields) → stream s p ≡ Ok f → (x : Form) → streams s f.next m ≡ x → put f x ≡ formed fs end → (i ≡ c → ⊥) → ((gs : List Fields) (t : ℕ) → streams s f.next m ≡ formed gs t → i + 1 ≤ c → Somewhere (StreamIn s at c)) → Somewhere (StreamIn s at c)
        later f q (refused r) z y d ih = clash y
        later f q (formed gs t) z y d ih = ih gs t z (omega arith)

        by : (x : Result Fields Refusal) → stream s p ≡ x → others x (λ f. streams s f.next m) ≡ formed fs end → (t : Bool) → eqb i c ≡ t
            → ((f : Fields) → stream s p ≡ Ok f → (gs : List Fields) (t : ℕ) → streams s f.next m ≡ formed gs t → i + 1 ≤ c → Somewhere (StreamIn s at c)) → Somewhere (StreamIn s at c)
        by (Err r) q y t d ih = clash y
        by (Ok f) q y true d ih = subst (λ (x : ℕ). Somewhere (StreamIn s at x)) (eqb-true i c d) (p, w)
        by (Ok f) q y false d ih = later f q (streams s f.next m) refl y (eqb-false i c d) (ih f q)

-- ## The whole text

broken_five : (n : ℕ) (f : Fields) → field_broken n f < 5
broken_five n f = by (arg_ok (uses_a f.op) n f.a) (arg_ok (uses_b f.op) n f.b) (value_ok (uses_k f.op) f.k)
  where
    by : (x y z : Bool) → cond x (cond y (cond z 4 3) 2) 1 < 5
    by true true true = lit< tt
    by true true false = lit< tt
    by true false z = lit< tt
    by false y z = lit< tt

module _ (cap : ℕ) (s : List ℕ) (f : declared.Fault) (l : 0 < f.line) where
  abbrev Told : Type 0
  Told = Somewhere (LineAt cap s f.line)

  abbrev Reads : declared.Fault → Type 0
  Reads g = 0 < g.line → Somewhere (LineAt cap s g.line)

  or_read : (g h : declared.Fault) → Reads g → Reads h → Reads (or_next g h)
  or_read g h p q = by (eqb g.line 0)
    where
      by : (t : Bool) → Reads (cond t h g)
      by true = q
      by false = p

  same_line : (g : declared.Fault) → f ≡ g → Reads g → Told
  same_line g e h = subst (λ (x : declared.Fault). Somewhere (LineAt cap s x.line)) (sym e) (h (subst (λ (x : declared.Fault). 0 < x.line) e l))

  -- told here, or by what comes next
  at_or : (g h : declared.Fault) → f ≡ or_next g h → Reads g → (g.line ≡ 0 → f ≡ h → Told) → Told
  at_or g h e here later = by (eqb g.line 0) refl e
    where
      by : (t : Bool) → eqb g.line 0 ≡ t → f ≡ cond t h g → Told
      by true z e = later (eqb-true g.line 0 z) e
      by false z e = same_line g e here

  module _ (lowest : f.number ≡ 6 → Lowest (plan_of cap s) f.stream) where
    at_cycle : (n at : ℕ) → head cap s ≡ Ok (n, at) → (fs : List Fields) (end : ℕ) → streams s at n ≡ formed fs end → (t : Bool) → f ≡ cond t none (in_stream 6 f.stream 0) → Told
    at_cycle n at h fs end r true e = same_line none e (λ z. absurd (omega arith))
    at_cycle n at h fs end r false e =
        let c = f.stream in
        let w = subst (λ (p : Plan). Leads p c c) (plan_read cap s c n at h fs end r) (lowest (ap (λ (x : declared.Fault). x.number) e)).itself in
        let q : length (plan_from fs) ≡ n = plan_length fs ∙ (read_sound s n at fs end r).1 in
        same_line (in_stream 6 c 0) e (λ z. by c w q (dec_lt c n))
      where
        by : (c : ℕ) → Leads (plan_from fs) c c → length (plan_from fs) ≡ n → Dec (c < n) → Somewhere (LineAt cap s (3 + 5 * c + 0))
        by c w q (yes d) = let p = stream_read s cap n at h n 0 at fs end first r c (omega arith) (omega arith) in (p.0, inside h d p.1 op)
        by c w q (no d) = absurd (no_way (plan_from fs) c (omega arith) w)

    after_form : (n at : ℕ) → head cap s ≡ Ok (n, at) → (x : Form) → streams s at n ≡ x → FormSays s (0 + n) x (form_fault s 0 at n) → (form_fault s 0 at n).line ≡ 0 → f ≡ cycle_fault cap (plan_of cap s) f.stream → Told
    after_form n at h (refused r) q y z e = absurd (omega arith)
    after_form n at h (formed fs end) q y z e = at_cycle n at h fs end q (acyclic cap (plan_of cap s)) e

    at_streams : (n at : ℕ) → head cap s ≡ Ok (n, at) → f ≡ fault_of_head cap s f.stream (Ok (n, at)) → Told
    at_streams n at h e =
        at_or (form_fault s 0 at n) rules e (form_read s cap n at h n 0 at (omega arith) first) (λ z e.
        at_or (rule_fault s n at) windows e (read (field_rule n) (broken_five n)) (λ y e.
        at_or (window_fault s n at) cycle e
        (or_read (width_fault s n at) (ninth_fault s n at) (read width_rule (λ f. lit< tt)) (read ninth_rule (λ f. lit< tt))) (λ x e.
        after_form n at h (streams s at n) refl (form_says s n 0 at) z e)))
      where
        cycle : declared.Fault
        cycle = cycle_fault cap (plan_of cap s) f.stream

        windows : declared.Fault
        windows = or_next (window_fault s n at) cycle

        rules : declared.Fault
        rules = or_next (rule_fault s n at) windows

        read : (r : Rule) → ((f : Fields) → r.line f < 5) → Reads (first_broken r s 0 0 at n)
        read r five = first_read s cap n at h r five n 0 0 at (omega arith) first

    at_head : (x : Result (ℕ × ℕ) Refusal) → head cap s ≡ x → f ≡ fault_of_head cap s f.stream x → Told
    at_head (Ok (n, at)) h e = at_streams n at h e
    at_head (Err r) h e = same_line (fault (number_of r) (head_line (skip s 0 plan_line)) 0) e (λ z. by (skip s 0 plan_line) refl)
      where
        by : (x : Option ℕ) → skip s 0 plan_line ≡ x → Somewhere (LineAt cap s (head_line x))
        by (Some p) q = (p, count q)
        by None q = (0, top)

  pub fault_read : Found cap s f → Told
  unfolding fault_with
  fault_read w = by (ltb text_limit (length s)) w.place
    where
      by : (t : Bool) → f ≡ cond t (fault 1 0 0) (fault_of_head cap s f.stream (head cap s)) → Told
      by true e = same_line (fault 1 0 0) e (λ z. absurd (omega arith))
      by false e = at_head w.lowest (head cap s) refl e
