-- The graph of a plan is tied to it, and so the test on the graph's bytes decides the cycle rule.
use Prim.Native.Nat.{ℕ, zero, suc, ◌+◌, ◌*◌, ◌<◌, ◌≤◌}
use mathlib.Core.Path.{◌≡◌, refl, sym, ap, ◌∙◌, subst}
use mathlib.Core.List.{List, [], ◌∷◌, ◌++◌, append_assoc}
use mathlib.Core.Bool.{false}
use native.Mathlib.Omega.{arith}
use lib.Dec.{lit<}
use lib.ListN.{length, get_or, length-append, get_or-append}
use lib.Seq.{get_or-append-add}
use Rattle.meaning.specs.Plan.{Eqn, input, nil, unit, one, two, last, delay, signal, window, Plan, eqn_at}
use Rattle.meaning.specs.Arguments.{undelayed, prompts, arg_a, arg_b, AllBelow}
use Rattle.meaning.specs.CycleTest.{acyclic}
use Rattle.operators.specs.Limits.{most_streams}
use Rattle.operators.specs.Operators.{group_of, arguments_of, number_of}
use Rattle.operators.proofs.Laws.{arguments_of_lem}
use Rattle.cycle.specs.Graph.{entry_by, entry_of, graph_of, cleared}
use Rattle.cycle.proofs.Tied.{how_of, Args, args_at, Tied, cleared_acyclic}

entry_by_lem : (e : Eqn) → entry_of (number_of e) (arg_a e) (arg_b e) ≡ entry_by (undelayed e)
unfolding entry_of
entry_by_lem e = ap (λ l. entry_by (prompts l)) (arguments_of_lem e)

three : (l : List ℕ) → length (entry_by l) ≡ 3
three [] = refl
three (a ∷ []) = refl
three (a ∷ b ∷ l) = refl

-- three bytes, whatever the numbers
pub entry_length : (n a b : ℕ) → length (entry_of n a b) ≡ 3
unfolding entry_of
entry_length n a b = three (prompts (arguments_of (group_of n) a b))

how_by : (l : List ℕ) → get_or (entry_by l) 0 0 ≡ how_of false l
how_by [] = refl
how_by (a ∷ []) = refl
how_by (a ∷ b ∷ l) = refl

args_by : (e : Eqn) → Args (undelayed e) (get_or (entry_by (undelayed e)) 1 0) (get_or (entry_by (undelayed e)) 2 0)
args_by input = tt
args_by nil = tt
args_by unit = tt
args_by (one f a) = (refl, refl)
args_by (two g a b) = (refl, refl)
args_by (last a b) = (refl, refl)
args_by (delay a b) = (refl, refl)
args_by (signal c a b) = (refl, refl)
args_by (window f k a) = (refl, refl)

more : (e : Eqn) (plan : Plan) (r : List ℕ) → graph_of (e ∷ plan) ++ r ≡ entry_by (undelayed e) ++ (graph_of plan ++ r)
unfolding graph_of
more e plan r = rw (entry_by_lem e, append_assoc)

pub graph_size : (plan : Plan) → length (graph_of plan) ≡ 3 * length plan
unfolding graph_of
graph_size [] = refl
graph_size (e ∷ plan) = rw (entry_by_lem e, length-append (entry_by (undelayed e)) (graph_of plan), three (undelayed e), graph_size plan) (omega arith)

-- byte j of stream i
at : (plan : Plan) (r : List ℕ) (i j : ℕ) → i < length plan → j < 3 → get_or (graph_of plan ++ r) (3 * i + j) 0 ≡ get_or (entry_by (args_at plan i)) j 0
at [] r i j h l = absurd (omega arith)
at (e ∷ plan) r zero j h l =
    let z : 3 * 0 + j ≡ j = omega arith in
    rw (more e plan r, z) (get_or-append (entry_by (undelayed e)) (graph_of plan ++ r) 0 j (omega (arith, three (undelayed e))))
at (e ∷ plan) r (suc i) j h l =
    let z : 3 * suc i + j ≡ length (entry_by (undelayed e)) + (3 * i + j) = omega (arith, three (undelayed e)) in
    rw (more e plan r, z) (get_or-append-add (entry_by (undelayed e)) (graph_of plan ++ r) (3 * i + j) 0 ∙ at plan r i j (omega arith) l)

-- bytes that are at each stream of the plan its three bytes are tied to the plan
pub entries_tied : (plan : Plan) (g : List ℕ) → 3 * length plan ≤ length g
    → ((i j : ℕ) → i < length plan → j < 3 → get_or g (3 * i + j) 0 ≡ get_or (entry_of (number_of (eqn_at plan i)) (arg_a (eqn_at plan i)) (arg_b (eqn_at plan i))) j 0)
    → Tied plan g (λ s. false)
entries_tied plan g size f = record {
  size = size;
  how = λ i l.
      let z : 3 * i ≡ 3 * i + 0 = omega arith in
      ap (λ (n : ℕ). get_or g n 0) z ∙ byte i 0 l (lit< tt) ∙ how_by (args_at plan i);
  args = λ i l.
      subst (λ (x : ℕ). Args (args_at plan i) x (get_or g (3 * i + 2) 0)) (sym (byte i 1 l (lit< tt)))
      (subst (λ (y : ℕ). Args (args_at plan i) (get_or (entry_by (args_at plan i)) 1 0) y) (sym (byte i 2 l (lit< tt))) (args_by (eqn_at plan i)));
}
  where
    byte : (i j : ℕ) → i < length plan → j < 3 → get_or g (3 * i + j) 0 ≡ get_or (entry_by (args_at plan i)) j 0
    byte i j l h = f i j l h ∙ ap (λ (e : List ℕ). get_or e j 0) (entry_by_lem (eqn_at plan i))

pub graph_tied : (plan : Plan) (r : List ℕ) → Tied plan (graph_of plan ++ r) (λ s. false)
graph_tied plan r =
    entries_tied plan (graph_of plan ++ r) (rw (length-append (graph_of plan) r, graph_size plan) (omega arith))
    (λ i j l h. at plan r i j l h ∙ ap (λ (e : List ℕ). get_or e j 0) (sym (entry_by_lem (eqn_at plan i))))

-- The code's test on the graph of a plan whose arguments are streams of the plan is the definition's test of the plan.
pub graph_acyclic : (plan : Plan) (r : List ℕ) → length plan ≤ most_streams → ((i : ℕ) → i < length plan → AllBelow (length plan) (args_at plan i)) → (d : ℕ) → (cleared d (length plan) (graph_of plan ++ r)).is_clear ≡ acyclic d plan
graph_acyclic plan r few bound d = cleared_acyclic plan few bound d (graph_of plan ++ r) (graph_tied plan r)
