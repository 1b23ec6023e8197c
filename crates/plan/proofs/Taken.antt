-- A text that is taken is the text of a plan that keeps the rules, the plan that reading it gives.
use Prim.Native.Nat.{ℕ, zero, suc, ◌^◌, ◌<◌, ◌≤◌}
use mathlib.Core.Path.{◌≡◌, refl, sym, ap, ◌∙◌, subst}
use mathlib.Core.Logic.{◌↔◌}
use mathlib.Core.Bool.{Bool, true, false, cond}
use mathlib.Core.List.{List, [], ◌∷◌, ◌++◌, append_assoc, append-nil, map}
use native.Mathlib.Omega.{arith}
use lib.Dec.{eqb, ltb, leb}
use lib.ListN.{length, drop, length-map}
use lib.Seq.{drop-length}
use borrow.Author.Tests.{eqb-true, leb-true}
use mir.Syntax.{w64}
use mir.Val.{to_z}
use mir.Facts.{sfits_to_z}
use Rattle.meaning.specs.Plan.{Plan}
use Rattle.meaning.specs.Arguments.{arg_a, arg_b}
use Rattle.meaning.specs.Cycle.{Acyclic}
use Rattle.meaning.specs.CycleTest.{acyclic}
use Rattle.meaning.proofs.CycleTest.{test_sound}
use Rattle.machine.specs.State.{Declared}
use Rattle.operators.specs.Operators.{value_of}
use Rattle.operators.specs.Limits.{most_streams, window_limit, text_limit}
use Rattle.operators.specs.Windows.{width_ok, windows}
use Rattle.operators.proofs.Laws.{number_back}
use Rattle.operators.proofs.Widths.{width_is}
use Rattle.operators.proofs.Rules.{fields_first, fields_second, fields_value, fields_reads, fields_out}
use Rattle.operators.proofs.Tests.{left, right}
use Rattle.text.specs.declared.Fields.{Fields}
use Rattle.std.specs.Prelude.{Result, Ok, Err}
use Rattle.refusal.specs.declared.Refusal.{Refusal}
use Rattle.text.specs.Grammar.{stream, head}
use Rattle.render.specs.Render.{stream_text, declared_text, all_text, opening, render}
use Rattle.render.proofs.Back.{stream_read}
use Rattle.render.proofs.Heads.{head_fits, head_read}
use Rattle.plan.specs.Rules.{keeps, all_keep, Form, refused, formed, put, others, streams, eqn_from, declared_from, plan_from, all_widths, windows_ok, number_after, number_of_head, number, declared}
use Rattle.plan.specs.Taken.{StreamKeeps, Each, KeepsRules}
use Rattle.refusal.proofs.Laws.{refusal_some}
use Rattle.plan.proofs.Forms.{fields_in, end_in, clash}
use Rattle.plan.proofs.Noted.{Sound, All, read_sound}
use Rattle.plan.proofs.Rendered.{same_plan, render_taken}

-- ## One stream

abbrev pub InRange : Fields → Type 0
InRange f = (f.k < 2 ^ 64) × (f.out ≤ 1)

module _ (n : ℕ) (f : Fields) (h : Sound f) (e : keeps n f ≡ true) where
  pub value_of_lem : value_of (eqn_from f) ≡ to_z w64 f.k
  value_of_lem = fields_value n f.op f.a f.b f.k f.out e

  pub first_of : arg_a (eqn_from f) ≡ f.a
  first_of = fields_first n f.op f.a f.b f.k f.out e (to_z w64 f.k)

  pub second_of : arg_b (eqn_from f) ≡ f.b
  second_of = fields_second n f.op f.a f.b f.k f.out e (to_z w64 f.k)

  -- its lines are those that its declaration is written with
  same_text : stream_text f.op f.a f.b (to_z w64 f.k) (eqb f.out 1) ≡ declared_text (declared_from f)
  unfolding declared_text
  same_text = sym (rw (number_back f.a f.b (to_z w64 f.k) f.op h.0 h.1, first_of, second_of, value_of_lem))

  stream_keeps : InRange f → width_ok f.op f.k ≡ true → StreamKeeps n (declared_from f)
  stream_keeps r w = record {
    arguments = fields_reads n f.op f.a f.b f.k f.out e (to_z w64 f.k);
    value = rw value_of_lem (sfits_to_z {w = w64} {n = f.k} (record { fits = r.0 })).sfits;
    output = fields_out n f.op f.a f.b f.k f.out e (to_z w64 f.k);
    width = width_is f.op f.a f.b f.k w;
  }

-- ## All streams

pub fields_text : List Fields → List ℕ
fields_text [] = []
fields_text (f ∷ fs) = stream_text f.op f.a f.b (to_z w64 f.k) (eqb f.out 1) ++ fields_text fs

abbrev pub AsRead : List ℕ → ℕ → List Fields → ℕ → Type 0
AsRead s at fs end = (drop at s ≡ fields_text fs ++ drop end s) × All InRange fs

pub streams_read : (s : List ℕ) (n at : ℕ) (fs : List Fields) (end : ℕ) → streams s at n ≡ formed fs end → AsRead s at fs end
unfolding streams fields_text
streams_read s zero at fs end e =
    subst (λ (l : List Fields). AsRead s at l end) (ap fields_in e) (ap (λ (p : ℕ). drop p s) (ap end_in e), tt)
streams_read s (suc n) at fs end e = by_lines (λ at fs end q. streams_read s n at fs end q) (stream s at) refl e
  where
    by_rest : (f : Fields) → stream s at ≡ Ok f → (r : Form) → ((gs : List Fields) (q : ℕ) → r ≡ formed gs q → AsRead s f.next gs q) → put f r ≡ formed fs end → AsRead s at fs end
    by_rest f g (refused r) ih e = clash e
    by_rest f g (formed gs q) ih e =
        let k = ih gs q refl in
        let t = stream_read s at f g in
        let x = stream_text f.op f.a f.b (to_z w64 f.k) (eqb f.out 1) in
        let z : q ≡ end = ap end_in e in
        subst (λ (l : List Fields). AsRead s at l end) (ap fields_in e)
        (t.0 ∙ ap (λ (l : List ℕ). x ++ l) (k.0 ∙ rw z) ∙ sym (append_assoc x (fields_text gs) (drop end s)), ((t.1, t.2), k.1))

    by_lines : ((at : ℕ) (fs : List Fields) (end : ℕ) → streams s at n ≡ formed fs end → AsRead s at fs end) → (l : Result Fields Refusal) → stream s at ≡ l → others l (λ f. streams s f.next n) ≡ formed fs end → AsRead s at fs end
    by_lines ih (Err r) q e = clash e
    by_lines ih (Ok f) q e = by_rest f q (streams s f.next n) (λ gs t z. ih f.next gs t z) e

module _ (n : ℕ) where
  all_text_lem : (fs : List Fields) → All Sound fs → all_keep n fs ≡ true → fields_text fs ≡ all_text (map declared_from fs)
  unfolding fields_text all_text all_keep
  all_text_lem [] h e = refl
  all_text_lem (f ∷ fs) h e = rw (same_text n f h.0 (left (keeps n f) (all_keep n fs) e), all_text_lem fs h.1 (right (keeps n f) (all_keep n fs) e))

  each_keeps : (fs : List Fields) → All Sound fs → All InRange fs → all_keep n fs ≡ true → all_widths fs ≡ true → Each n (map declared_from fs)
  unfolding all_keep all_widths
  each_keeps [] h r e w = tt
  each_keeps (f ∷ fs) h r e w = (
    stream_keeps n f h.0 (left (keeps n f) (all_keep n fs) e) r.0 (left (width_ok f.op f.k) (all_widths fs) w),
    each_keeps fs h.1 r.1 (right (keeps n f) (all_keep n fs) e) (right (width_ok f.op f.k) (all_widths fs) w),
  )

-- rule 18 kept: every width is one, and there are not too many windows
module _ (fs : List Fields) (e : windows_ok fs ≡ true) where
  good_widths : all_widths fs ≡ true
  unfolding windows_ok
  good_widths = left (all_widths fs) (leb (windows (plan_from fs)) window_limit) e

  few_windows_lem : windows (plan_from fs) ≤ window_limit
  unfolding windows_ok
  few_windows_lem = leb-true (windows (plan_from fs)) window_limit (right (all_widths fs) (leb (windows (plan_from fs)) window_limit) e)

-- ## The whole text

-- what a text that is taken is made of
pub record Parts (cap : ℕ) (s : List ℕ) : Type 0 where
  pub count : ℕ
  pub start : ℕ
  pub fields : List Fields
  pub opens : head cap s ≡ Ok (count, start)
  pub lists : streams s start count ≡ formed fields (length s)
  pub kept : all_keep count fields ≡ true
  pub windowed : windows_ok fields ≡ true
  pub clear : acyclic cap (plan_from fields) ≡ true

after_parts : (cap : ℕ) (s : List ℕ) (n at : ℕ) → head cap s ≡ Ok (n, at) → number_after cap s n (streams s at n) ≡ 0 → Parts cap s
unfolding number_after
after_parts cap s n at h e = by_form (streams s at n) refl e
  where
    by_tests : (fs : List Fields) (end : ℕ) → streams s at n ≡ formed fs end → (x y w z : Bool) → eqb end (length s) ≡ x → all_keep n fs ≡ y → windows_ok fs ≡ w → acyclic cap (plan_from fs) ≡ z → ◌≡◌ {A = ℕ} (cond x (cond y (cond w (cond z 0 6) 18) 5) 2) 0 → Parts cap s
    by_tests fs end q true true true true a b d c e = record { count = n; start = at; fields = fs; opens = h; lists = q ∙ ap (formed fs) (eqb-true end (length s) a); kept = b; windowed = d; clear = c }
    by_tests fs end q true true true false a b d c e = absurd (omega arith)
    by_tests fs end q true true false z a b d c e = absurd (omega arith)
    by_tests fs end q true false w z a b d c e = absurd (omega arith)
    by_tests fs end q false y w z a b d c e = absurd (omega arith)

    by_form : (x : Form) → streams s at n ≡ x → number_after cap s n x ≡ 0 → Parts cap s
    by_form (refused r) q e = absurd (omega (arith, refusal_some r))
    by_form (formed fs end) q e = by_tests fs end q (eqb end (length s)) (all_keep n fs) (windows_ok fs) (acyclic cap (plan_from fs)) refl refl refl refl e

pub taken_parts : (cap : ℕ) (s : List ℕ) → number cap s ≡ 0 → Parts cap s
unfolding number
taken_parts cap s e = by_length (ltb text_limit (length s)) e
  where
    by_head : (x : Result (ℕ × ℕ) Refusal) → head cap s ≡ x → number_of_head cap s x ≡ 0 → Parts cap s
    by_head (Ok (n, at)) q e = after_parts cap s n at q e
    by_head (Err r) q e = absurd (omega (arith, refusal_some r))

    by_length : (b : Bool) → cond b 1 (number_of_head cap s (head cap s)) ≡ 0 → Parts cap s
    by_length true e = absurd (omega arith)
    by_length false e = by_head (head cap s) refl e

pub parts_declared : (cap : ℕ) (s : List ℕ) (p : Parts cap s) → declared cap s ≡ map declared_from p.fields
unfolding declared
parts_declared cap s p = rw (p.opens, p.lists)

rendered : (ds : List Declared) (n : ℕ) → length ds ≡ n → render ds ≡ opening n ++ all_text ds
unfolding render
rendered ds n e = rw e

-- A text that is taken is, byte for byte, the text of the plan that reading it gives, and that plan keeps the rules.
pub taken_rendered : (cap : ℕ) (s : List ℕ) → number cap s ≡ 0 → (render (declared cap s) ≡ s) × KeepsRules cap (declared cap s)
taken_rendered cap s e =
    let p = taken_parts cap s e in
    let n = p.count in
    let ds = map declared_from p.fields in
    let r = read_sound s n p.start p.fields (length s) p.lists in
    let t = streams_read s n p.start p.fields (length s) p.lists in
    let h = head_fits cap s n p.start p.opens in
    let m : length ds ≡ n = length-map p.fields declared_from ∙ r.1 in
    let x = head_read cap s n p.start p.opens in
    let y : drop p.start s ≡ all_text ds = t.0 ∙ rw (drop-length s, append-nil (fields_text p.fields)) (all_text_lem n p.fields r.0 p.kept) in
    subst (λ (l : List Declared). (render l ≡ s) × KeepsRules cap l) (sym (parts_declared cap s p)) (
      rendered ds n m ∙ ap (λ (l : List ℕ). opening n ++ l) (sym y) ∙ sym x,
      record {
        few = omega (arith, h, m);
        each = subst (λ (i : ℕ). Each i ds) (sym m) (each_keeps n p.fields r.0 t.1 p.kept (good_widths p.fields p.windowed));
        few_windows = subst (λ (x : Plan). windows x ≤ window_limit) (same_plan p.fields) (few_windows_lem p.fields p.windowed);
        clear = subst Acyclic (same_plan p.fields) (test_sound cap (plan_from p.fields) p.clear);
      },
    )

-- A text is taken exactly if it is the text of some plan that keeps the rules.
pub taken_exactly : (cap : ℕ) → cap ≤ most_streams → (s : List ℕ) → (number cap s ≡ 0) ↔ ((ds : List Declared) × (render ds ≡ s) × KeepsRules cap ds)
taken_exactly cap c s = (λ e. let r = taken_rendered cap s e in (declared cap s, r.0, r.1), λ t. subst (λ (x : List ℕ). number cap x ≡ 0) t.1 (render_taken cap c t.0 t.2).0)
