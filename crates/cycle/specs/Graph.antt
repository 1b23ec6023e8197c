-- How: the graph of a plan in bytes, and the test that follows it.
use Rattle.std.specs.Prelude.{ℕ, zero, suc, ◌+◌, ◌*◌, Bool, true, false, cond, ◌&&◌, List, [], ◌∷◌, ◌++◌, eqb, ltb, get_or, set}
use Rattle.meaning.specs.Plan.{Plan}
use Rattle.meaning.specs.Arguments.{prompts, arg_a, arg_b}
use Rattle.operators.specs.Limits.{most_streams}
use Rattle.operators.specs.Operators.{group_of, arguments_of, number_of}

-- the bytes of a graph: three for each stream that a plan may have
abbrev pub graph_length : ℕ
graph_length = 3 * most_streams

-- Three bytes for each stream: how it stands (0: its arguments are to be followed, 1: found clear, 2: it has no undelayed
-- argument), and its two undelayed arguments; a single one stands twice.
abbrev pub entry_by : List ℕ → List ℕ
entry_by [] = 2 ∷ 0 ∷ 0 ∷ []
entry_by (a ∷ []) = 0 ∷ a ∷ a ∷ []
entry_by (a ∷ b ∷ l) = 0 ∷ a ∷ b ∷ []

unfoldable pub entry_of : ℕ → ℕ → ℕ → List ℕ
entry_of n a b = entry_by (prompts (arguments_of (group_of n) a b))

unfoldable pub graph_of : Plan → List ℕ
graph_of [] = []
graph_of (e ∷ plan) = entry_of (number_of e) (arg_a e) (arg_b e) ++ graph_of plan

-- What following gives: whether it was clear, and the graph with the marks of those found clear
pub record Walk : Type 0 where
  pub is_clear : Bool
  pub graph : List ℕ

abbrev pub walked : Bool → List ℕ → Walk
walked b g = record { is_clear = b; graph = g }

-- stream i is clear if its second argument is, and is then marked
abbrev pub marked : ℕ → Walk → Walk
marked i w = cond w.is_clear (walked true (set w.graph (3 * i) 1)) w

-- with the first argument followed, the second is
abbrev pub both : ℕ → (ℕ → List ℕ → Walk) → Walk → Walk
both i follow w = cond w.is_clear (marked i (follow (get_or w.graph (3 * i + 2) 0) w.graph)) w

-- whether the graph has stream i
abbrev pub present : ℕ → Bool
present i = ltb i most_streams

-- stream i is followed, with this depth left: at depth 0 only a stream found clear before is clear
unfoldable pub followed : ℕ → ℕ → List ℕ → Walk
followed zero i g = walked (present i && eqb (get_or g (3 * i) 0) 1) g
followed (suc d) i g =
    cond (present i)
    (cond (eqb (get_or g (3 * i) 0) 1)
    (walked true g)
    (cond (eqb (get_or g (3 * i) 0) 2)
    (walked true (set g (3 * i) 1))
    (both i (followed d) (followed d (get_or g (3 * i + 1) 0) g))))
    (walked false g)

-- with one stream found clear, the others
abbrev pub rest : Walk → (List ℕ → Walk) → Walk
rest w others = cond w.is_clear (others w.graph) w

-- the streams below n, from the last on
unfoldable pub cleared : ℕ → ℕ → List ℕ → Walk
cleared depth zero g = walked true g
cleared depth (suc n) g = rest (followed depth n g) (cleared depth n)
