-- What the pass notes of a plan that keeps rule 5 is the plan's graph, and so the code's test decides rule 6.
use Prim.Native.Nat.{ℕ, zero, suc, ◌+◌, ◌*◌, ◌<◌, ◌≤◌}
use mathlib.Core.Path.{◌≡◌, refl, sym, ap, ◌∙◌, subst}
use mathlib.Core.Bool.{true}
use mathlib.Core.List.{List, [], ◌∷◌, ◌++◌, append_assoc}
use native.Mathlib.Omega.{arith}
use Rattle.operators.proofs.Tests.{left, right}
use lib.ListN.{length, drop, length-append, length-map, length-drop}
use lib.Seq.{sets-eq, take_at, drop-append-add, drop-drop}
use mir.Syntax.{w64}
use mir.Val.{to_z}
use Rattle.meaning.specs.Arguments.{undelayed, arg_a, arg_b, AllBelow}
use Rattle.meaning.specs.CycleTest.{acyclic}
use Rattle.operators.specs.Limits.{most_streams}
use Rattle.operators.specs.Operators.{operator_count, number_of}
use Rattle.operators.proofs.Laws.{number_back}
use Rattle.operators.proofs.Rules.{fields_first, fields_second, fields_undelayed}
use Rattle.cycle.specs.Graph.{entry_of, graph_of, cleared}
use Rattle.cycle.proofs.Tied.{args_at}
use Rattle.cycle.proofs.Graphs.{entry_length, graph_acyclic}
use Rattle.text.specs.declared.Fields.{Fields}
use Rattle.std.specs.Prelude.{Result, Ok, Err}
use Rattle.refusal.specs.declared.Refusal.{Refusal}
use Rattle.text.specs.Grammar.{stream}
use Rattle.render.proofs.Ranges.{op_range}
use Rattle.plan.specs.Rules.{keeps, all_keep, Form, refused, formed, put, others, streams, eqn_from, plan_from}
use Rattle.plan.specs.Pass.{noted_stream, noted_all}
use Rattle.plan.proofs.Forms.{fields_in, clash}

-- ## The streams that were read

abbrev pub Sound : Fields → Type 0
Sound f = (1 ≤ f.op) × (f.op ≤ operator_count)

abbrev pub All : (Fields → Type 0) → List Fields → Type 0
All P [] = Unit {0}
All P (f ∷ fs) = P f × All P fs

-- all have a stored number of an operator, and there are as many as were asked for
pub read_sound : (s : List ℕ) (n at : ℕ) (fs : List Fields) (end : ℕ) → streams s at n ≡ formed fs end → All Sound fs × (length fs ≡ n)
unfolding streams
read_sound s zero at fs end e = subst (λ (l : List Fields). All Sound l × (length l ≡ 0)) (ap fields_in e) (tt, refl)
read_sound s (suc n) at fs end e = by_lines (λ at fs end e. read_sound s n at fs end e) (stream s at) refl e
  where
    by_rest : (f : Fields) → Sound f → (r : Form) → ((gs : List Fields) (q : ℕ) → r ≡ formed gs q → All Sound gs × (length gs ≡ n)) → put f r ≡ formed fs end → All Sound fs × (length fs ≡ suc n)
    by_rest f h (refused r) ih e = clash e
    by_rest f h (formed gs q) ih e =
        let k = ih gs q refl in
        subst (λ (l : List Fields). All Sound l × (length l ≡ suc n)) (ap fields_in e) ((h, k.0), ap suc k.1)

    by_lines : ((at : ℕ) (fs : List Fields) (end : ℕ) → streams s at n ≡ formed fs end → All Sound fs × (length fs ≡ n)) → (l : Result Fields Refusal) → stream s at ≡ l → others l (λ f. streams s f.next n) ≡ formed fs end → All Sound fs × (length fs ≡ suc n)
    by_lines ih (Err r) q e = clash e
    by_lines ih (Ok f) q e = by_rest f (op_range s at f q) (streams s f.next n) (λ gs t z. ih f.next gs t z) e

-- ## The graph

module _ (n : ℕ) (f : Fields) (h : Sound f) (e : keeps n f ≡ true) where
  same_entry : entry_of f.op f.a f.b ≡ entry_of (number_of (eqn_from f)) (arg_a (eqn_from f)) (arg_b (eqn_from f))
  same_entry =
      let k = to_z w64 f.k in
      sym (rw (number_back f.a f.b k f.op h.0 h.1, fields_first n f.op f.a f.b f.k f.out e k, fields_second n f.op f.a f.b f.k f.out e k))

  -- the arguments that are followed are streams of the plan
  below : AllBelow n (undelayed (eqn_from f))
  below = fields_undelayed n f.op f.a f.b f.k f.out e (to_z w64 f.k)

noted_step : (n i : ℕ) (f : Fields) → Sound f → keeps n f ≡ true → (pre r : List ℕ) → length pre ≡ 3 * i → 3 ≤ length r → noted_stream n i f (pre ++ r) ≡ pre ++ entry_of f.op f.a f.b ++ drop 3 r
unfolding noted_stream
noted_step n i f h e pre r l k =
    let v = entry_of f.op f.a f.b in
    let z : 3 * i + length v ≡ length pre + 3 = omega (arith, entry_length f.op f.a f.b) in
    rw e (sets-eq v (pre ++ r) (3 * i) (rw (length-append pre r, entry_length f.op f.a f.b) (omega arith)) ∙ rw (take_at pre r (3 * i) l, z, drop-append-add pre r 3))

pub noted_graph : (n i : ℕ) (fs : List Fields) → All Sound fs → all_keep n fs ≡ true → (pre r : List ℕ) → length pre ≡ 3 * i → 3 * length fs ≤ length r → noted_all n i fs (pre ++ r) ≡ pre ++ (graph_of (plan_from fs) ++ drop (3 * length fs) r)
unfolding noted_all all_keep plan_from graph_of
noted_graph n i [] h e pre r l k = refl
noted_graph n i (f ∷ fs) h e pre r l k =
    let kept = left (keeps n f) (all_keep n fs) e in
    let v = entry_of f.op f.a f.b in
    let z : 3 * suc (length fs) ≡ 3 + 3 * length fs = omega arith in
    rw (noted_step n i f h.0 kept pre r l (omega arith))
    (noted_graph n (i + 1) fs h.1 (right (keeps n f) (all_keep n fs) e) (pre ++ v) (drop 3 r) (rw (length-append pre v, entry_length f.op f.a f.b) (omega arith)) (rw (length-drop 3 r) (omega arith))
    ∙ rw (z, append_assoc pre v (graph_of (plan_from fs) ++ drop (3 * length fs) (drop 3 r)), drop-drop (3 * length fs) 3 r, ← same_entry n f h.0 kept, append_assoc v (graph_of (plan_from fs)) (drop (3 + 3 * length fs) r)))

pub all_below : (n : ℕ) (fs : List Fields) → All Sound fs → all_keep n fs ≡ true → (i : ℕ) → i < length fs → AllBelow n (args_at (plan_from fs) i)
unfolding all_keep plan_from
all_below n [] h e i l = absurd (omega arith)
all_below n (f ∷ fs) h e zero l = below n f h.0 (left (keeps n f) (all_keep n fs) e)
all_below n (f ∷ fs) h e (suc i) l = all_below n fs h.1 (right (keeps n f) (all_keep n fs) e) i (omega arith)

pub plan_length : (fs : List Fields) → length (plan_from fs) ≡ length fs
unfolding plan_from
plan_length fs = length-map fs eqn_from

-- the code's test on what was noted is the definition's test of the plan
pub cleared_plan : (s : List ℕ) (n at : ℕ) (fs : List Fields) (end : ℕ) → streams s at n ≡ formed fs end → all_keep n fs ≡ true → (g : List ℕ) → 3 * n ≤ length g → n ≤ most_streams → (d : ℕ) → (cleared d n (noted_all n 0 fs g)).is_clear ≡ acyclic d (plan_from fs)
cleared_plan s n at fs end e k g h few d =
    let r = read_sound s n at fs end e in
    let m : length (plan_from fs) ≡ n = plan_length fs ∙ r.1 in
    ap (λ (x : List ℕ). (cleared d n x).is_clear) (noted_graph n 0 fs r.0 k [] g refl (omega (arith, r.1)))
    ∙ ap (λ (x : ℕ). (cleared d x (graph_of (plan_from fs) ++ drop (3 * length fs) g)).is_clear) (sym m)
    ∙ graph_acyclic (plan_from fs) (drop (3 * length fs) g) (omega arith) (λ i l. subst (λ (x : ℕ). AllBelow x (args_at (plan_from fs) i)) (sym m) (all_below n fs r.0 k i (omega arith))) d
