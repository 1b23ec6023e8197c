-- A plan that keeps the rules renders within the limit, its text is taken, and reading the text gives the plan back.
use Prim.Native.Nat.{ℕ, zero, suc, ◌*◌, ◌-◌, ◌^◌, ◌<◌, ◌≤◌}
use mathlib.Core.Path.{◌≡◌, refl, sym, ap, ◌∙◌}
use mathlib.Core.Bool.{Bool, true, false, ◌&&◌, true≢false}
use mathlib.Core.List.{List, [], ◌∷◌, ◌++◌, append_assoc, append-nil, map}
use native.Mathlib.Omega.{arith}
use lib.Dec.{T, eqb, lit<, lit≤}
use lib.IntN.{ℤ, pos, negsuc}
use lib.Signed.{mag}
use lib.ListN.{length, drop, length-map, length-append, length-drop}
use borrow.Author.Tests.{le-leb, le-ltb, eq-eqb}
use mir.Syntax.{w64}
use mir.Val.{to_z, of_z}
use mir.Facts.{to_z_pos, to_z-neg}
use Rattle.meaning.specs.Plan.{Eqn, input, nil, unit, one, two, last, delay, signal, window, eqn_at, is_input}
use Rattle.meaning.specs.Arguments.{reads, arg_a, arg_b, AllBelow}
use Rattle.meaning.specs.CycleTest.{acyclic}
use Rattle.meaning.proofs.Within.{reads_within}
use Rattle.meaning.proofs.CycleTest.{test_complete}
use Rattle.machine.specs.State.{Declared, declared_plan}
use Rattle.operators.specs.Operators.{eqn_of, number_of, value_of}
use Rattle.operators.specs.Limits.{most_streams, window_limit, text_limit}
use Rattle.operators.specs.Windows.{width_ok, IsWidth, windows}
use Rattle.operators.proofs.Rules.{out_pass, fields_pass}
use Rattle.operators.proofs.Laws.{eqn_back, number_range}
use Rattle.operators.proofs.Widths.{width_pass}
use Rattle.text.specs.declared.Fields.{Fields}
use Rattle.std.specs.Prelude.{Ok}
use Rattle.text.specs.Grammar.{stream, head}
use Rattle.decimal.specs.Decimal.{value_text}
use Rattle.render.specs.Render.{declared_text, all_text, opening, render}
use Rattle.decimal.proofs.Digits.{digits_few}
use Rattle.render.proofs.Streams.{bits_of, out_of, name_short, stream_written}
use Rattle.render.proofs.Heads.{head_written}
use Rattle.render.proofs.Lengths.{stream_length, opening_length}
use Rattle.plan.specs.Rules.{keeps, all_keep, formed, streams, declared_from, plan_from, all_widths, windows_ok, number_after, number, declared}
use Rattle.plan.specs.Taken.{StreamKeeps, Each, KeepsRules}
use Rattle.plan.proofs.Pass.{put_streams}

-- ## One stream

first_small : (n : ℕ) (e : Eqn) → AllBelow n (reads e) → n ≤ most_streams → arg_a e < 10 ^ 3
first_small n input b h = lit< tt
first_small n nil b h = lit< tt
first_small n unit b h = lit< tt
first_small n (one f a) b h = omega arith
first_small n (two g a c) b h = omega arith
first_small n (last a c) b h = omega arith
first_small n (delay a c) b h = omega arith
first_small n (signal g a c) b h = omega arith
first_small n (window f k a) b h = omega arith

second_small : (n : ℕ) (e : Eqn) → AllBelow n (reads e) → n ≤ most_streams → arg_b e < 10 ^ 3
second_small n input b h = lit< tt
second_small n nil b h = lit< tt
second_small n unit b h = lit< tt
second_small n (one f a) b h = lit< tt
second_small n (two g a c) b h = omega arith
second_small n (last a c) b h = omega arith
second_small n (delay a c) b h = omega arith
second_small n (signal g a c) b h = omega arith
second_small n (window f k a) b h = lit< tt

-- the fields that a stream is written with
abbrev fields_of : Declared → ℕ → Fields
fields_of d p = record { op = number_of d.eqn; a = arg_a d.eqn; b = arg_b d.eqn; k = bits_of (value_of d.eqn); out = out_of d.out; next = p }

-- bits and back
bits_back : (k : ℤ) → mag k < 2 ^ 63 → to_z w64 (bits_of k) ≡ k
bits_back (pos n) h = to_z_pos w64 h
bits_back (negsuc n) h = to_z-neg w64 n h

out_back : (b : Bool) → eqb (out_of b) 1 ≡ b
out_back true = refl
out_back false = refl

fields_declare : (d : Declared) (p : ℕ) → mag (value_of d.eqn) < 2 ^ 63 → declared_from (fields_of d p) ≡ d
fields_declare d p h =
    let e : eqn_of (number_of d.eqn) (arg_a d.eqn) (arg_b d.eqn) (to_z w64 (bits_of (value_of d.eqn))) ≡ d.eqn = rw (bits_back (value_of d.eqn) h) (eqn_back d.eqn) in
    λ i. record { eqn = e i; out = out_back d.out i }

-- rule 5 holds of them
bit_below : (b : Bool) → out_of b < 2
bit_below true = lit< tt
bit_below false = lit< tt

no_bit : (i o : Bool) → (i && o) ≡ false → T i → out_of o ≡ 0
no_bit true true e t = absurd (true≢false e)
no_bit true false e t = refl
no_bit false o e t = absurd t

keeps_written : (n : ℕ) (e : Eqn) (o : Bool) (p : ℕ) → AllBelow n (reads e) → (is_input e && o) ≡ false → keeps n (fields_of (record { eqn = e; out = o }) p) ≡ true
keeps_written n e o p b h = fields_pass bits_of refl n e (out_of o) b (out_pass e (out_of o) (bit_below o) (no_bit (is_input e) o h))

-- and a window's width is one
bits_are : (k : ℤ) → of_z w64 k ≡ bits_of k
bits_are (pos n) = refl
bits_are (negsuc n) = refl

width-written : (e : Eqn) → IsWidth e → width_ok (number_of e) (bits_of (value_of e)) ≡ true
width-written e h = ap (width_ok (number_of e)) (sym (bits_are (value_of e))) ∙ width_pass e h

-- ## All streams

-- what reading the streams' text gives: fields that declare the plan, keep rule 5 and have good widths
pub record Read (s : List ℕ) (at n : ℕ) (ds : List Declared) (r : List ℕ) : Type 0 where
  pub fields : List Fields
  pub end : ℕ
  pub found : streams s at (length ds) ≡ formed fields end
  pub behind : drop end s ≡ r
  pub within : end ≤ length s
  pub declare : map declared_from fields ≡ ds
  pub kept : all_keep n fields ≡ true
  pub widths : all_widths fields ≡ true

append_middle : (d : Declared) (ds : List Declared) (r : List ℕ) → all_text (d ∷ ds) ++ r ≡ declared_text d ++ (all_text ds ++ r)
unfolding all_text
append_middle d ds r = append_assoc (declared_text d) (all_text ds) r

no_text : (r : List ℕ) → all_text [] ++ r ≡ r
unfolding all_text
no_text r = refl

no_streams : (s : List ℕ) (at : ℕ) → streams s at 0 ≡ formed [] at
unfolding streams
no_streams s at = refl

none_keep : (n : ℕ) → all_keep n [] ≡ true
unfolding all_keep
none_keep n = refl

more_keep : (n : ℕ) (f : Fields) (fs : List Fields) → keeps n f ≡ true → all_keep n fs ≡ true → all_keep n (f ∷ fs) ≡ true
unfolding all_keep
more_keep n f fs e g = rw (e, g)

no_widths : all_widths [] ≡ true
unfolding all_widths
no_widths = refl

more_widths : (f : Fields) (fs : List Fields) → width_ok f.op f.k ≡ true → all_widths fs ≡ true → all_widths (f ∷ fs) ≡ true
unfolding all_widths
more_widths f fs e g = rw (e, g)

stream_text_lem : (s : List ℕ) (at : ℕ) (d : Declared) (r : List ℕ) (n : ℕ) → StreamKeeps n d → n ≤ most_streams → drop at s ≡ declared_text d ++ r → (p : ℕ) × (stream s at ≡ Ok (fields_of d p)) × (drop p s ≡ r) × (p ≤ length s)
unfolding declared_text
stream_text_lem s at d r n k h e =
    stream_written s at (number_of d.eqn) (arg_a d.eqn) (arg_b d.eqn) (value_of d.eqn) d.out r
    (number_range d.eqn).0 (number_range d.eqn).1 (first_small n d.eqn k.arguments h) (second_small n d.eqn k.arguments h) k.value e

pub streams_written : (s : List ℕ) (n : ℕ) → n ≤ most_streams → (ds : List Declared) → Each n ds → (at : ℕ) (r : List ℕ) → at ≤ length s → drop at s ≡ all_text ds ++ r → Read s at n ds r
streams_written s n h [] k at r l e = record { fields = []; end = at; found = no_streams s at; behind = e ∙ no_text r; within = l; declare = refl; kept = none_keep n; widths = no_widths }
streams_written s n h (d ∷ ds) k at r l e =
    let t = stream_text_lem s at d (all_text ds ++ r) n k.0 h (e ∙ append_middle d ds r) in
    let f = fields_of d t.0 in
    let w = streams_written s n h ds k.1 t.0 r t.3 t.2 in
    record {
      fields = f ∷ w.fields;
      end = w.end;
      found = put_streams s at (length ds) f t.1 w.fields w.end w.found;
      behind = w.behind;
      within = w.within;
      declare = λ i. fields_declare d t.0 k.0.value i ∷ w.declare i;
      kept = more_keep n f w.fields (keeps_written n d.eqn d.out t.0 k.0.arguments k.0.output) w.kept;
      widths = more_widths f w.fields (width-written d.eqn k.0.width) w.widths;
    }

-- ## The length

value_length : (k : ℤ) → mag k < 2 ^ 63 → length (value_text k) ≤ 20
value_length (pos n) h = omega (arith, digits_few 19 n 19 (lit< tt) (omega arith))
value_length (negsuc n) h = omega (arith, digits_few 19 (suc n) 19 (lit< tt) (omega arith))

declared_length : (n : ℕ) (d : Declared) → StreamKeeps n d → n ≤ most_streams → length (declared_text d) ≤ 50
unfolding declared_text
declared_length n d k h =
    let e = d.eqn in
    let r = number_range e in
    omega (arith, stream_length (number_of e) (arg_a e) (arg_b e) (value_of e) d.out, name_short (number_of e) r.0 r.1, digits_few 19 (arg_a e) 3 (lit< tt) (first_small n e k.arguments h), digits_few 19 (arg_b e) 3 (lit< tt) (second_small n e k.arguments h), value_length (value_of e) k.value)

all_length : (n : ℕ) (ds : List Declared) → Each n ds → n ≤ most_streams → length (all_text ds) ≤ 50 * length ds
unfolding all_text
all_length n [] k h = lit≤ tt
all_length n (d ∷ ds) k h = rw (length-append (declared_text d) (all_text ds)) (omega (arith, declared_length n d k.0 h, all_length n ds k.1 h))

-- every plan that keeps the rules renders within the limit
opening_short : (n : ℕ) → n < 10 ^ 3 → length (opening n) ≤ 19
opening_short zero h = omega arith
opening_short (suc n) h =
    omega (arith, opening_length (suc n) (omega arith), digits_few 19 (suc n) 3 (lit< tt) h)

pub render_short : (cap : ℕ) → cap ≤ most_streams → (ds : List Declared) → KeepsRules cap ds → length (render ds) ≤ text_limit
unfolding render
render_short cap c ds k =
    let n = length ds in
    rw (length-append (opening n) (all_text ds))
    (omega (arith, opening_short n (omega (arith, k.few)), all_length n ds k.each (omega (arith, k.few)), k.few))

-- ## Rule 6

pub arguments_at : (n : ℕ) (ds : List Declared) (s : ℕ) → Each n ds → AllBelow n (reads (eqn_at (declared_plan ds) s))
arguments_at n [] s h = tt
arguments_at n (d ∷ ds) zero h = h.0.arguments
arguments_at n (d ∷ ds) (suc s) h = arguments_at n ds s h.1

plan_length : (ds : List Declared) → length (declared_plan ds) ≡ length ds
plan_length ds = length-map ds (λ d. d.eqn)

-- the test, as deep as the state has room for streams, passes a plan that keeps the rules
test_passes : (cap : ℕ) (ds : List Declared) → KeepsRules cap ds → acyclic cap (declared_plan ds) ≡ true
test_passes cap ds k =
    test_complete cap (declared_plan ds) k.clear
    (reads_within (declared_plan ds) (λ s l. rw (plan_length ds) (arguments_at (length ds) ds s k.each)))
    (rw (plan_length ds) k.few)

-- ## Rule 18

pub windows_pass : (fs : List Fields) → all_widths fs ≡ true → windows (plan_from fs) ≤ window_limit → windows_ok fs ≡ true
unfolding windows_ok
windows_pass fs e h = rw (e, le-leb (windows (plan_from fs)) window_limit h)

-- ## The whole text

pub same_plan : (fs : List Fields) → plan_from fs ≡ declared_plan (map declared_from fs)
unfolding plan_from
same_plan [] = refl
same_plan (f ∷ fs) = ap (λ (l : List Eqn). (declared_from f).eqn ∷ l) (same_plan fs)

numbered : (cap : ℕ) (s : List ℕ) (n at : ℕ) (fs : List Fields) (end : ℕ) → length s ≤ text_limit → head cap s ≡ Ok (n, at) → streams s at n ≡ formed fs end → end ≡ length s → all_keep n fs ≡ true → windows_ok fs ≡ true → acyclic cap (plan_from fs) ≡ true → number cap s ≡ 0
unfolding number number_after
numbered cap s n at fs end l h e q k w c = rw (le-ltb text_limit (length s) l, h, e, eq-eqb end (length s) q, k, w, c)

read_back : (cap : ℕ) (s : List ℕ) (n at : ℕ) (fs : List Fields) (end : ℕ) → head cap s ≡ Ok (n, at) → streams s at n ≡ formed fs end → declared cap s ≡ map declared_from fs
unfolding declared
read_back cap s n at fs end h e = rw (h, e)

rendered : (ds : List Declared) → render ds ≡ opening (length ds) ++ all_text ds
unfolding render
rendered ds = refl

no_lines : (ds : List Declared) → length ds ≡ 0 → all_text ds ≡ []
unfolding all_text
no_lines [] e = refl
no_lines (d ∷ ds) e = absurd (omega arith)

-- the text of a plan that keeps the rules is taken, and reading it gives the plan back
pub render_taken : (cap : ℕ) → cap ≤ most_streams → (ds : List Declared) → KeepsRules cap ds → (number cap (render ds) ≡ 0) × (declared cap (render ds) ≡ ds)
render_taken cap c ds k =
    let s = render ds in
    let n = length ds in
    let few : n ≤ most_streams = omega (arith, k.few) in
    let h = head_written cap s n (all_text ds) k.few (omega arith) (no_lines ds) (rendered ds) in
    let w = streams_written s n few ds k.each h.0 [] h.3 (h.2 ∙ sym (append-nil (all_text ds))) in
    let z : length s - w.end ≡ 0 = sym (length-drop w.end s) ∙ ap length w.behind in
    let end : w.end ≡ length s = omega (arith, w.within) in
    let plan : plan_from w.fields ≡ declared_plan ds = same_plan w.fields ∙ ap declared_plan w.declare in (
      numbered cap s n h.0 w.fields w.end (render_short cap c ds k) h.1 w.found end w.kept (windows_pass w.fields w.widths (rw plan k.few_windows)) (ap (acyclic cap) plan ∙ test_passes cap ds k),
      read_back cap s n h.0 w.fields w.end h.1 w.found ∙ w.declare,
    )
