-- What the walks over the lines say of the streams that were read.
use Prim.Native.Nat.{ℕ, zero, suc, ◌+◌, ◌*◌, ◌<◌, ◌≤◌}
use mathlib.Core.Path.{◌≡◌, refl, sym, ap, ◌∙◌, subst}
use mathlib.Core.Bool.{Bool, true, false, cond, ◌&&◌}
use mathlib.Core.List.{List, [], ◌∷◌}
use native.Mathlib.Omega.{arith}
use native.Mathlib.Decide.{ℕ_discrete}
use native.Mathlib.Nat.{zero-add}
use lib.Dec.{eqb, ltb, leb, lit≤, nltb→le}
use lib.ListN.{length}
use borrow.Author.Tests.{eq-eqb, ne_eqb, ltb-true, le-leb, lt-leb}
use mir.Syntax.{w64}
use mir.Val.{to_z}
use Rattle.meaning.proofs.Tests.{Is, yes!, no!, look}
use Rattle.operators.specs.Operators.{group_of, is_window}
use Rattle.operators.specs.Limits.{window_limit, count_fits}
use Rattle.operators.specs.Windows.{width_ok, windows}
use Rattle.operators.proofs.Laws.{window_by_number}
use Rattle.std.specs.Prelude.{Option, Some, None, Result, Ok, Err}
use Rattle.refusal.specs.declared.Refusal.{Refusal}
use Rattle.refusal.specs.Numbers.{number_of}
use Rattle.refusal.specs.declared.Refusal.TheVariants.{TextStreams}
use Rattle.lines.specs.Form.{ending, skip, field, value_line, out_line}
use Rattle.text.specs.declared.Fields.{Fields}
use Rattle.text.specs.Grammar.{plan_line, streams_key, op_key, number_named, known, named, name_at, name_after, first_key, second_key, op_line, next, fields_after, stream_after, stream, counts, head_after, head}
use Rattle.text.proofs.Heads.{no_bytes, some_bytes}
use Rattle.plan.specs.Rules.{keeps, all_keep, Form, refused, formed, put, others, streams, plan_from, all_widths, windows_ok}
use Rattle.faults.specs.declared.Fault as declared
use Rattle.faults.specs.Faults.{fault, none, in_stream, or_next, stream_line, stream_or, form_fault, Rule, first_broken, field_rule, rule_fault, width_rule, ninth_rule, width_fault, ninth_fault, window_fault}
use Rattle.faults.specs.Search.{Kept}

-- ## A faulty line is refused by 2, 3 or 4

abbrev Low : Result Fields Refusal → Type 0
Low (Ok f) = Unit {0}
Low (Err r) = number_of r ≤ 4

next_low : (x : Option (ℕ × ℕ)) (f : ℕ → ℕ → Result Fields Refusal) → ((v p : ℕ) → Low (f v p)) → Low (next x f)
next_low (Some (v, p)) f h = h v p
next_low None f h = lit≤ tt

fields_low : (s : List ℕ) (op at : ℕ) → Low (fields_after s op at)
unfolding fields_after
fields_low s op at =
    next_low (field s at first_key 3) _ (λ a p.
    next_low (field s p second_key 3) _ (λ b q.
    next_low (value_line s q) _ (λ k t.
    next_low (out_line s t) _ (λ out end. tt))))

abbrev LowHead : Result (ℕ × ℕ) Refusal → Type 0
LowHead (Ok (n, at)) = Unit {0}
LowHead (Err r) = number_of r ≤ 4

known_low : (n : ℕ) (x : Option ℕ) → LowHead (known n x)
known_low zero None = lit≤ tt
known_low (suc n) None = lit≤ tt
known_low zero (Some p) = lit≤ tt
known_low (suc n) (Some p) = tt

op_low : (s : List ℕ) (at : ℕ) → LowHead (op_line s at)
unfolding op_line named
op_low s at = by (skip s at op_key)
  where
    by_name : (p : ℕ) (w : List ℕ) → LowHead (named s p w)
    by_name p [] = lit≤ tt
    by_name p (c ∷ w) = known_low (number_named (c ∷ w)) (skip s (p + length (c ∷ w)) ending)

    by : (x : Option ℕ) → LowHead (name_after s x)
    by (Some p) = by_name p (name_at s p 5)
    by None = lit≤ tt

stream_low : (s : List ℕ) (at : ℕ) → Low (stream s at)
unfolding stream
stream_low s at = by (op_line s at) (op_low s at)
  where
    by : (x : Result (ℕ × ℕ) Refusal) → LowHead x → Low (stream_after s x)
    by (Ok (op, p)) h = fields_low s op p
    by (Err r) h = h

pub head_low : (cap : ℕ) (s : List ℕ) (r : Refusal) → head cap s ≡ Err r → number_of r ≤ 4
head_low cap s r e = subst LowHead e (by (ℕ_discrete (length s) 0))
  where
    by_count : (n p : ℕ) (b : Bool) → LowHead (cond b (Ok (n, p)) (Err TextStreams))
    by_count n p true = tt
    by_count n p false = lit≤ tt

    by_number : (x : Option (ℕ × ℕ)) → LowHead (counts cap x)
    by_number (Some (n, p)) = by_count n p (count_fits cap n)
    by_number None = lit≤ tt

    by_word : (x : Option ℕ) → LowHead (head_after cap s x)
    by_word (Some p) = by_number (field s p streams_key 3)
    by_word None = lit≤ tt

    by : Dec (length s ≡ 0) → LowHead (head cap s)
    by (yes z) = rw (no_bytes cap s z) tt
    by (no z) = rw (some_bytes cap s z) (by_word (skip s 0 plan_line))

-- ## A fault, or else what is found next

pub or_here : (f g : declared.Fault) → (f.line ≡ 0 → ⊥) → or_next f g ≡ f
or_here f g h = rw (ne_eqb f.line 0 h)

pub or_next_lem : (f g : declared.Fault) → f.line ≡ 0 → or_next f g ≡ g
or_next_lem f g h = rw (eq-eqb f.line 0 h)

pub no_line : {f : declared.Fault} → none ≡ f → f.line ≡ 0
no_line e = sym (ap (λ (x : declared.Fault). x.line) e)

-- what the code tells first
pub tells_here : (f g h : declared.Fault) → f ≡ g → (f.line ≡ 0 → ⊥) → f ≡ or_next g h
tells_here f g h e n = subst (λ (x : declared.Fault). f ≡ or_next x h) e (sym (or_here f h n))

module _ (number : ℕ) where
  or_told : (f g : declared.Fault) → (0 < f.line → f.number ≡ number) → (0 < g.line → g.number ≡ number) → 0 < (or_next f g).line → (or_next f g).number ≡ number
  or_told f g p q = by (eqb f.line 0)
    where
      by : (b : Bool) → 0 < (cond b g f).line → (cond b g f).number ≡ number
      by true = q
      by false = p

  -- a rule is kept by all, or broken
  abbrev pub Judged : Bool → declared.Fault → Type 0
  Judged true f = f ≡ none
  Judged false f = (f.number ≡ number) × (0 < f.line)

  or_judged : (a b : Bool) (f g : declared.Fault) → Judged a f → Judged b g → Judged (a && b) (or_next f g)
  or_judged true b f g j k = subst (λ (x : declared.Fault). Judged b (or_next x g)) (sym j) k
  or_judged false b f g j k = subst (Judged false) (sym (or_here f g (λ z. omega arith))) j

-- ## All streams keep a rule, with so many counted before

module _ (r : Rule) where
  abbrev all_by : ℕ → List Fields → Bool
  all_by w [] = true
  all_by w (f ∷ fs) = r.kept w f && all_by (r.count w f) fs

fields_by : (n w : ℕ) (fs : List Fields) → all_by (field_rule n) w fs ≡ all_keep n fs
unfolding all_keep
fields_by n w [] = refl
fields_by n w (f ∷ fs) = ap (λ (b : Bool). keeps n f && b) (fields_by n w fs)

widths_by : (w : ℕ) (fs : List Fields) → all_by width_rule w fs ≡ all_widths fs
unfolding all_widths
widths_by w [] = refl
widths_by w (f ∷ fs) = ap (λ (b : Bool). width_ok f.op f.k && b) (widths_by w fs)

ninth_by : (w : ℕ) (fs : List Fields) → w ≤ window_limit → all_by ninth_rule w fs ≡ leb (w + windows (plan_from fs)) window_limit
unfolding windows plan_from
ninth_by w [] h = sym (le-leb (w + 0) window_limit (omega arith))
ninth_by w (f ∷ fs) h =
    rw (window_by_number f.a f.b (to_z w64 f.k) f.op) (by (is_window (group_of f.op)) (look (ltb w window_limit)) (λ v k. ninth_by v fs k))
  where
    more : ℕ
    more = windows (plan_from fs)

    by : (b : Bool) → Is (ltb w window_limit) → ((v : ℕ) → v ≤ window_limit → all_by ninth_rule v fs ≡ leb (v + more) window_limit)
        → (cond b (ltb w window_limit) true && all_by ninth_rule (cond b (suc w) w) fs) ≡ leb (w + cond b (suc more) more) window_limit
    by false t ih = ih w h
    by true (yes! e t) ih =
        let q : w + suc more ≡ suc w + more = omega arith in
        rw (e, q) (ih (suc w) (ltb-true w window_limit e))
    by true (no! e t) ih = let l = nltb→le w window_limit t in rw (e, lt-leb (w + suc more) window_limit (omega arith))

module _ (s : List ℕ) where
  -- ## The first faulty line

  left_low : (i : ℕ) (b : Bool) → (cond b none (fault 2 (3 + 5 * i) 0)).number ≤ 4
  left_low i true = lit≤ tt
  left_low i false = lit≤ tt

  pub form_low : (n i at : ℕ) → (form_fault s i at n).number ≤ 4
  unfolding form_fault
  form_low zero i at = left_low i (eqb at (length s))
  form_low (suc n) i at = by (stream s at) (stream_low s at) (λ f. form_low n (i + 1) f.next)
    where
      by : (l : Result Fields Refusal) → Low l → ((f : Fields) → (form_fault s (i + 1) f.next n).number ≤ 4) → (stream_or l (λ r. in_stream r i (stream_line s at)) (λ f. form_fault s (i + 1) f.next n)).number ≤ 4
      by (Ok f) h ih = ih f
      by (Err r) h ih = h

  abbrev pub FormSays : ℕ → Form → declared.Fault → Type 0
  FormSays lines (refused r) f = (f.number ≡ number_of r) × (0 < f.line)
  FormSays lines (formed fs end) f = f ≡ cond (eqb end (length s)) none (fault 2 (3 + 5 * lines) 0)

  pub form_says : (n i at : ℕ) → FormSays (i + n) (streams s at n) (form_fault s i at n)
  unfolding streams form_fault
  form_says zero i at = let z : i + 0 ≡ i = omega arith in rw z
  form_says (suc n) i at = by (stream s at) (λ f. form_says n (i + 1) f.next)
    where
      more : (f : Fields) (x : Form) (r : declared.Fault) → FormSays (i + 1 + n) x r → FormSays (i + suc n) (put f x) r
      more f (refused q) r h = h
      more f (formed fs end) r h = let z : i + suc n ≡ i + 1 + n = omega arith in rw z h

      by : (l : Result Fields Refusal) → ((f : Fields) → FormSays (i + 1 + n) (streams s f.next n) (form_fault s (i + 1) f.next n)) → FormSays (i + suc n) (others l (λ f. streams s f.next n)) (stream_or l (λ r. in_stream r i (stream_line s at)) (λ f. form_fault s (i + 1) f.next n))
      by (Ok f) ih = more f (streams s f.next n) (form_fault s (i + 1) f.next n) (ih f)
      by (Err r) ih = (refl, omega arith)

  -- ## The first stream that breaks a rule

  module _ (r : Rule) where
    pub first_told : (m w i at : ℕ) → 0 < (first_broken r s w i at m).line → (first_broken r s w i at m).number ≡ r.number
    unfolding first_broken
    first_told zero w i at l = absurd (omega arith)
    first_told (suc m) w i at l = by (stream s at) l (λ f. first_told m (r.count w f) (i + 1) f.next)
      where
        by_test : (b : Bool) (f : Fields) (g : declared.Fault) → (0 < g.line → g.number ≡ r.number) → 0 < (cond b g (in_stream r.number i (r.line f))).line → (cond b g (in_stream r.number i (r.line f))).number ≡ r.number
        by_test true f g h l = h l
        by_test false f g h l = refl

        by : (x : Result Fields Refusal) → 0 < (stream_or x (λ q. none) (λ f. cond (r.kept w f) (first_broken r s (r.count w f) (i + 1) f.next m) (in_stream r.number i (r.line f)))).line
            → ((f : Fields) → 0 < (first_broken r s (r.count w f) (i + 1) f.next m).line → (first_broken r s (r.count w f) (i + 1) f.next m).number ≡ r.number)
            → (stream_or x (λ q. none) (λ f. cond (r.kept w f) (first_broken r s (r.count w f) (i + 1) f.next m) (in_stream r.number i (r.line f)))).number ≡ r.number
        by (Ok f) l ih = by_test (r.kept w f) f (first_broken r s (r.count w f) (i + 1) f.next m) (ih f) l
        by (Err q) l ih = absurd (omega arith)

    abbrev FirstSays : ℕ → Form → declared.Fault → Type 0
    FirstSays w (refused q) f = Unit {0}
    FirstSays w (formed fs end) f = Judged r.number (all_by r w fs) f

    first_says : (m w i at : ℕ) → FirstSays w (streams s at m) (first_broken r s w i at m)
    unfolding streams first_broken
    first_says zero w i at = refl
    first_says (suc m) w i at = by (stream s at) (λ f. first_says m (r.count w f) (i + 1) f.next)
      where
        judged : (a b : Bool) (g h : declared.Fault) → h.number ≡ r.number → 0 < h.line → Judged r.number b g → Judged r.number (a && b) (cond a g h)
        judged true b g h p q j = j
        judged false b g h p q j = (p, q)

        more : (f : Fields) (x : Form) (g : declared.Fault) → FirstSays (r.count w f) x g → FirstSays w (put f x) (cond (r.kept w f) g (in_stream r.number i (r.line f)))
        more f (refused q) g h = tt
        more f (formed fs end) g h = judged (r.kept w f) (all_by r (r.count w f) fs) g (in_stream r.number i (r.line f)) refl (omega arith) h

        by : (l : Result Fields Refusal) → ((f : Fields) → FirstSays (r.count w f) (streams s f.next m) (first_broken r s (r.count w f) (i + 1) f.next m))
            → FirstSays w (others l (λ f. streams s f.next m)) (stream_or l (λ q. none) (λ f. cond (r.kept w f) (first_broken r s (r.count w f) (i + 1) f.next m) (in_stream r.number i (r.line f))))
        by (Ok f) ih = more f (streams s f.next m) (first_broken r s (r.count w f) (i + 1) f.next m) (ih f)
        by (Err q) ih = tt

    -- of streams that were read
    first_judged : (n at : ℕ) (fs : List Fields) (end : ℕ) → streams s at n ≡ formed fs end → (b : Bool) → all_by r 0 fs ≡ b → Judged r.number b (first_broken r s 0 0 at n)
    first_judged n at fs end e b q = subst (λ (c : Bool). Judged r.number c (first_broken r s 0 0 at n)) q (subst (λ (x : Form). FirstSays 0 x (first_broken r s 0 0 at n)) e (first_says n 0 0 at))

  -- ## Rules 5 and 18

  module _ (n at : ℕ) where
    pub window_told : 0 < (window_fault s n at).line → (window_fault s n at).number ≡ 18
    window_told = or_told 18 (width_fault s n at) (ninth_fault s n at) (first_told width_rule n 0 0 at) (first_told ninth_rule n 0 0 at)

    module _ (fs : List Fields) (end : ℕ) (e : streams s at n ≡ formed fs end) where
      pub rule_judged : Judged 5 (all_keep n fs) (rule_fault s n at)
      rule_judged = first_judged (field_rule n) n at fs end e (all_keep n fs) (fields_by n 0 fs)

      pub window_judged : Judged 18 (windows_ok fs) (window_fault s n at)
      unfolding windows_ok
      window_judged =
          or_judged 18 (all_widths fs) (leb (windows (plan_from fs)) window_limit) (width_fault s n at) (ninth_fault s n at)
          (first_judged width_rule n at fs end e (all_widths fs) (widths_by 0 fs))
          (first_judged ninth_rule n at fs end e (leb (windows (plan_from fs)) window_limit) (ninth_by 0 fs (omega arith) ∙ ap (λ (m : ℕ). leb m window_limit) (zero-add (windows (plan_from fs)))))

    -- where neither walk finds a fault, the streams were read and all keep rule 5
    pub both_none : (form_fault s 0 at n).line ≡ 0 → (rule_fault s n at).line ≡ 0 → Kept n (streams s at n)
    both_none p q = by (streams s at n) refl (form_says n 0 at)
      where
        kept : (b : Bool) → Judged 5 b (rule_fault s n at) → b ≡ true
        kept true j = refl
        kept false j = absurd (omega arith)

        by : (x : Form) → streams s at n ≡ x → FormSays (0 + n) x (form_fault s 0 at n) → Kept n x
        by (refused r) e f = omega arith
        by (formed fs end) e f = kept (all_keep n fs) (rule_judged fs end e)
