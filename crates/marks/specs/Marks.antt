-- How: the streams that undelayed arguments lead to, marked over the bytes of a plan's graph.
use Rattle.std.specs.Prelude.{ℕ, zero, suc, ◌+◌, ◌*◌, ◌<◌, ◌≤◌, ◌≡◌, Bool, true, false, cond, List, [], ◌∷◌, eqb, ltb, get_or, set, replicate}
use Rattle.meaning.specs.Plan.{Plan}
use Rattle.meaning.specs.Cycle.{Leads}
use Rattle.operators.specs.Limits.{most_streams}

-- ## Marks: a byte for each stream, 0 if it is not marked

unfoldable pub marked : ℕ → List ℕ → List ℕ
marked x m = cond (eqb (get_or m x 0) 0) (set m x 1) m

-- the undelayed arguments of stream i, by its three bytes in the graph
unfoldable pub args_marked : List ℕ → ℕ → List ℕ → List ℕ
args_marked g i m = cond (eqb (get_or g (3 * i) 0) 2) m (marked (get_or g (3 * i + 2) 0) (marked (get_or g (3 * i + 1) 0) m))

-- if it is marked itself
unfoldable pub turned : List ℕ → ℕ → List ℕ → List ℕ
turned g i m = cond (eqb (get_or m i 0) 0) m (args_marked g i m)

-- n streams from stream i on, one after the other
unfoldable pub passed : List ℕ → ℕ → ℕ → List ℕ → List ℕ
passed g i zero m = m
passed g i (suc n) m = passed g (i + 1) n (turned g i m)

-- how many streams are not marked
unfoldable pub unmarked : List ℕ → ℕ
unmarked [] = 0
unmarked (b ∷ m) = cond (eqb b 0) (suc (unmarked m)) (unmarked m)

-- whether marking was new: it leaves fewer to mark, or nothing changed
pub record Grown (m k : List ℕ) (new : Bool) : Type 0 where
  pub fewer : new ≡ true → unmarked k < unmarked m
  pub same : new ≡ false → k ≡ m

-- ## Passes over n streams until nothing is new

pub data Passes (g : List ℕ) (n : ℕ) (m : List ℕ) : List ℕ → Type 0 where
  start : Passes g n m m
  pass : {k : List ℕ} → Passes g n m k → Passes g n m (passed g 0 n k)

-- m after passes is k, which another pass would not change
pub record Spread (g : List ℕ) (n : ℕ) (m k : List ℕ) : Type 0 where
  pub from : Passes g n m k
  pub still : passed g 0 n k ≡ k

-- whether stream s is marked, with its arguments marked first and then what they lead to
pub record Back (g : List ℕ) (n s : ℕ) (b : Bool) : Type 0 where
  pub marks : List ℕ
  pub spread : Spread g n (args_marked g s (replicate most_streams 0)) marks
  pub told : b ≡ ltb 0 (get_or marks s 0)

-- the lowest such stream below n, or n
pub record LowestBack (g : List ℕ) (n r : ℕ) : Type 0 where
  pub few : r ≤ n
  pub itself : r < n → Back g n r true
  pub below : (x : ℕ) → x < r → Back g n x false

-- ## The same of the plan

-- the lowest stream below n that leads to itself, or n
pub record LowestTo (n : ℕ) (plan : Plan) (r : ℕ) : Type 0 where
  pub few : r ≤ n
  pub itself : r < n → Leads plan r r
  pub below : (x : ℕ) → x < r → Leads plan x x → ⊥
