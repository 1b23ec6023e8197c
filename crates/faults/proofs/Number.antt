-- The number of a fault is load's, and each answer of the code is the fault of the text.
use Prim.Native.Nat.{ℕ, ◌+◌, ◌*◌, ◌<◌, ◌≤◌}
use mathlib.Core.Path.{◌≡◌, refl, sym, ap, ◌∙◌, subst}
use mathlib.Core.Bool.{Bool, true, false, cond}
use mathlib.Core.List.{List}
use native.Mathlib.Omega.{arith}
use native.Mathlib.Decide.{dec_lt}
use lib.Dec.{eqb, ltb}
use lib.ListN.{length}
use borrow.Author.Tests.{lt-ltb, le-ltb}
use Rattle.meaning.specs.Plan.{Plan}
use Rattle.meaning.specs.CycleTest.{acyclic}
use Rattle.operators.specs.Limits.{text_limit}
use Rattle.lines.specs.Form.{skip}
use Rattle.text.specs.declared.Fields.{Fields}
use Rattle.std.specs.Prelude.{Result, Ok, Err}
use Rattle.refusal.specs.declared.Refusal.{Refusal}
use Rattle.refusal.specs.Numbers.{number_of}
use Rattle.text.specs.Grammar.{plan_line, head}
use Rattle.plan.specs.Rules.{all_keep, Form, refused, formed, streams, plan_from, windows_ok, number_after, number_of_head, number, declared}
use Rattle.plan.proofs.Rendered.{same_plan}
use Rattle.faults.specs.declared.Fault.{Fault}
use Rattle.faults.specs.Faults.{fault, none, in_stream, or_next, head_line, form_fault, field_rule, rule_fault, window_fault, Lowest, cycle_fault, plan_of, fault_of_head, fault_with, Found}
use Rattle.marks.specs.Marks.{LowestTo}
use Rattle.faults.specs.Search.{Kept, LowestIn, FoundAfter}
use Rattle.faults.proofs.Says.{or_here, or_next_lem, tells_here, Judged, head_low, form_low, FormSays, form_says, first_told, window_told, rule_judged, window_judged}
use Rattle.faults.proofs.Cycles.{none_passes, one_fails}

-- ## The number

module _ (cap : ℕ) (s : List ℕ) (c : ℕ) where
  number_here : (f g : Fault) (r : ℕ) → f.number ≡ r → 0 < f.line → (or_next f g).number ≡ r
  number_here f g r e h = ap (λ (x : Fault). x.number) (or_here f g (λ z. omega arith)) ∙ e

  -- the plan that a text whose form is right declares
  pub plan_read : (n at : ℕ) → head cap s ≡ Ok (n, at) → (fs : List Fields) (end : ℕ) → streams s at n ≡ formed fs end → plan_of cap s ≡ plan_from fs
  unfolding declared
  plan_read n at h fs end e = rw (h, e) (sym (same_plan fs))

  -- a rule that is broken tells its number
  judged_number : (r : ℕ) (b : Bool) (f g : Fault) (m : ℕ) → Judged r b f → g.number ≡ m → (or_next f g).number ≡ cond b m r
  judged_number r true f g m j e = ap (λ (x : Fault). (or_next x g).number) j ∙ e
  judged_number r false f g m j e = number_here f g r j.0 j.1

  number_streams : (n at : ℕ) → head cap s ≡ Ok (n, at) → (fault_of_head cap s c (Ok (n, at))).number ≡ number_after cap s n (streams s at n)
  unfolding number_after
  number_streams n at h = by (streams s at n) refl (form_says s n 0 at)
    where
      cycle : Fault
      cycle = cycle_fault cap (plan_of cap s) c

      by_cycle : (b : Bool) → acyclic cap (plan_of cap s) ≡ b → cycle.number ≡ cond b 0 6
      by_cycle true e = rw e
      by_cycle false e = rw e

      rules : Fault
      rules = or_next (rule_fault s n at) (or_next (window_fault s n at) cycle)

      rules_number : (fs : List Fields) (end : ℕ) → streams s at n ≡ formed fs end → rules.number ≡ cond (all_keep n fs) (cond (windows_ok fs) (cond (acyclic cap (plan_from fs)) 0 6) 18) 5
      rules_number fs end e =
          let six : ℕ = cond (acyclic cap (plan_from fs)) 0 6 in
          judged_number 5 (all_keep n fs) (rule_fault s n at) (or_next (window_fault s n at) cycle) (cond (windows_ok fs) six 18) (rule_judged s n at fs end e)
          (judged_number 18 (windows_ok fs) (window_fault s n at) cycle six (window_judged s n at fs end e)
          (by_cycle (acyclic cap (plan_of cap s)) refl ∙ ap (λ (p : Plan). cond (acyclic cap p) 0 6) (plan_read n at h fs end e)))

      by_end : (b : Bool) (fs : List Fields) (end : ℕ) → streams s at n ≡ formed fs end → form_fault s 0 at n ≡ cond b none (fault 2 (3 + 5 * (0 + n)) 0) → (fault_of_head cap s c (Ok (n, at))).number ≡ cond b (cond (all_keep n fs) (cond (windows_ok fs) (cond (acyclic cap (plan_from fs)) 0 6) 18) 5) 2
      by_end true fs end e f = ap (λ (x : Fault). (or_next x rules).number) f ∙ rules_number fs end e
      by_end false fs end e f = number_here (form_fault s 0 at n) rules 2 (ap (λ (x : Fault). x.number) f) (let l : (form_fault s 0 at n).line ≡ 3 + 5 * (0 + n) = ap (λ (x : Fault). x.line) f in omega arith)

      by : (x : Form) → streams s at n ≡ x → FormSays s (0 + n) x (form_fault s 0 at n) → (fault_of_head cap s c (Ok (n, at))).number ≡ number_after cap s n x
      by (refused r) e f = number_here (form_fault s 0 at n) rules (number_of r) f.0 f.1
      by (formed fs end) e f = by_end (eqb end (length s)) fs end e f

  number_head : (x : Result (ℕ × ℕ) Refusal) → head cap s ≡ x → (fault_of_head cap s c x).number ≡ number_of_head cap s x
  number_head (Ok (n, at)) e = number_streams n at e
  number_head (Err r) e = refl

  -- Whatever the stream of a cycle, the number of the fault is the number of the text.
  pub fault_number : (fault_with cap s c).number ≡ number cap s
  unfolding fault_with number
  fault_number = by (ltb text_limit (length s))
    where
      by : (b : Bool) → (cond b (fault 1 0 0) (fault_of_head cap s c (head cap s))).number ≡ cond b 1 (number_of_head cap s (head cap s))
      by true = refl
      by false = number_head (head cap s) refl

pub found_number : (cap : ℕ) (s : List ℕ) (f : Fault) → Found cap s f → f.number ≡ number cap s
found_number cap s f h = ap (λ (x : Fault). x.number) h.place ∙ fault_number cap s f.stream

-- ## What the code answers of the streams

module _ (cap : ℕ) (s : List ℕ) (n at : ℕ) where
  abbrev cycles : ℕ → Fault
  cycles c = cycle_fault cap (plan_of cap s) c

  abbrev windows : ℕ → Fault
  windows c = or_next (window_fault s n at) (cycles c)

  abbrev rules : ℕ → Fault
  rules c = or_next (rule_fault s n at) (windows c)

  -- a rule that is broken is told by its number, which is not 6
  not_six : (f g : Fault) (r : ℕ) → f ≡ g → (f.line ≡ 0 → ⊥) → (0 < g.line → g.number ≡ r) → (r ≡ 6 → ⊥) → f.number ≡ 6 → ⊥
  not_six f g r e h t k q = by (dec_lt 0 g.line)
    where
      by : Dec (0 < g.line) → ⊥
      by (yes l) = k (sym (t l) ∙ sym (ap (λ (x : Fault). x.number) e) ∙ q)
      by (no l) = h (ap (λ (x : Fault). x.line) e ∙ omega arith)

  pub found_form : (f : Fault) → f ≡ form_fault s 0 at n → (f.line ≡ 0 → ⊥) → FoundAfter cap s n at f
  found_form f e h = record {
    place = tells_here f (form_fault s 0 at n) (rules f.stream) e h;
    lowest = λ q. absurd (omega (arith, form_low s n 0 at, ap (λ (x : Fault). x.number) e));
  }

  module _ (e : (form_fault s 0 at n).line ≡ 0) where
    after_form : (d : ℕ) → rules d ≡ fault_of_head cap s d (Ok (n, at))
    after_form d = sym (or_next_lem (form_fault s 0 at n) (rules d) e)

    pub found_rule : (f : Fault) → f ≡ rule_fault s n at → (f.line ≡ 0 → ⊥) → FoundAfter cap s n at f
    found_rule f q h = record {
      place = tells_here f (rule_fault s n at) (windows f.stream) q h ∙ after_form f.stream;
      lowest = λ z. absurd (not_six f (rule_fault s n at) 5 q h (first_told s (field_rule n) n 0 0 at) (λ y. omega arith) z);
    }

    module _ (q : (rule_fault s n at).line ≡ 0) where
      after_rule : (d : ℕ) → windows d ≡ fault_of_head cap s d (Ok (n, at))
      after_rule d = sym (or_next_lem (rule_fault s n at) (windows d) q) ∙ after_form d

      pub found_window : (f : Fault) → f ≡ window_fault s n at → (f.line ≡ 0 → ⊥) → FoundAfter cap s n at f
      found_window f w h = record {
        place = tells_here f (window_fault s n at) (cycles f.stream) w h ∙ after_rule f.stream;
        lowest = λ z. absurd (not_six f (window_fault s n at) 18 w h (window_told s n at) (λ y. omega arith) z);
      }

    module _ (q : (rule_fault s n at).line ≡ 0) (v : (window_fault s n at).line ≡ 0) (h : head cap s ≡ Ok (n, at)) (room : n ≤ cap) (c : ℕ) where
      reached : (d : ℕ) → cycles d ≡ fault_of_head cap s d (Ok (n, at))
      reached d = sym (or_next_lem (window_fault s n at) (cycles d) v) ∙ after_rule q d

      module _ (fs : List Fields) (end : ℕ) (r : streams s at n ≡ formed fs end) (k : all_keep n fs ≡ true) (w : LowestTo n (plan_from fs) c) where
        same : plan_of cap s ≡ plan_from fs
        same = plan_read cap s c n at h fs end r

        no_cycle : c ≡ n → FoundAfter cap s n at none
        no_cycle z = record {
          place = subst (λ (p : Plan). none ≡ cycle_fault cap p 0) (sym same) (sym (rw (none_passes s n at fs end r k cap room c w z))) ∙ reached 0;
          lowest = λ y. absurd (omega arith);
        }

        one_cycle : (c ≡ n → ⊥) → FoundAfter cap s n at (in_stream 6 c 0)
        one_cycle z = record {
          place = subst (λ (p : Plan). in_stream 6 c 0 ≡ cycle_fault cap p c) (sym same) (sym (rw (one_fails s n at fs end r k cap room c w z))) ∙ reached c;
          lowest = λ y. subst (λ (p : Plan). Lowest p c) (sym same) (let l = w.few in record { itself = w.itself (omega arith); below = w.below });
        }

      module _ (k : Kept n (streams s at n)) (w : LowestIn n (streams s at n) c) where
        by_form : {A : Type 0} → ((fs : List Fields) (end : ℕ) → streams s at n ≡ formed fs end → all_keep n fs ≡ true → LowestTo n (plan_from fs) c → A) → A
        by_form {A} go = by (streams s at n) refl k w
          where
            by : (x : Form) → streams s at n ≡ x → Kept n x → LowestIn n x c → A
            by (refused r) p k w = absurd k
            by (formed fs end) p k w = go fs end p k w

        pub found_none : c ≡ n → FoundAfter cap s n at none
        found_none z = by_form (λ fs end r k w. no_cycle fs end r k w z)

        pub found_cycle : (c ≡ n → ⊥) → FoundAfter cap s n at (in_stream 6 c 0)
        found_cycle z = by_form (λ fs end r k w. one_cycle fs end r k w z)

-- ## What the code answers of the text

module _ (cap : ℕ) (s : List ℕ) where
  pub found_long : text_limit < length s → Found cap s (fault 1 0 0)
  unfolding fault_with
  found_long h = record { place = sym (rw (lt-ltb text_limit (length s) h)); lowest = λ e. absurd (omega arith) }

  module _ (h : length s ≤ text_limit) where
    short : (d : ℕ) (x : Result (ℕ × ℕ) Refusal) → head cap s ≡ x → fault_with cap s d ≡ fault_of_head cap s d x
    unfolding fault_with
    short d x e = rw (le-ltb text_limit (length s) h, e)

    pub found_head : (r : Refusal) → head cap s ≡ Err r → (l : ℕ) → l ≡ head_line (skip s 0 plan_line) → Found cap s (fault (number_of r) l 0)
    found_head r e l q = record { place = ap (λ (x : ℕ). fault (number_of r) x 0) q ∙ sym (short 0 (Err r) e); lowest = λ z. absurd (omega (arith, head_low cap s r e)) }

    pub found_after : (n at : ℕ) → head cap s ≡ Ok (n, at) → (f : Fault) → FoundAfter cap s n at f → Found cap s f
    found_after n at e f w = record { place = w.place ∙ sym (short f.stream (Ok (n, at)) e); lowest = w.lowest }
