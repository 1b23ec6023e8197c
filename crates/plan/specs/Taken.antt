-- Believe: the written rules: what a plan keeps so that its text is taken.
use Rattle.std.specs.Prelude.{ℕ, ◌^◌, ◌<◌, ◌≤◌, ◌≡◌, false, ◌&&◌, List, [], ◌∷◌, length}
use Rattle.std.specs.Int.Signed.{mag}
use Rattle.meaning.specs.Plan.{is_input}
use Rattle.meaning.specs.Arguments.{reads, AllBelow}
use Rattle.meaning.specs.Cycle.{Acyclic}
use Rattle.machine.specs.State.{Declared, declared_plan}
use Rattle.operators.specs.Limits.{window_limit}
use Rattle.operators.specs.Operators.{value_of}
use Rattle.operators.specs.Windows.{IsWidth, windows}

-- one stream of a plan of n streams
pub record StreamKeeps (n : ℕ) (d : Declared) : Type 0 where
  -- a used argument is below N
  pub arguments : AllBelow n (reads d.eqn)
  -- "`k` is a value": from −2^63 to 2^63 − 1
  pub value : mag (value_of d.eqn) < 2 ^ 63
  -- no out=1 on in
  pub output : (is_input d.eqn && d.out) ≡ false
  -- the width of a window is from 1 to 64
  pub width : IsWidth d.eqn

abbrev pub Each : ℕ → List Declared → Type 0
Each n [] = Unit {0}
Each n (d ∷ ds) = StreamKeeps n d × Each n ds

-- the plan of a state with room for so many streams
pub record KeepsRules (cap : ℕ) (ds : List Declared) : Type 0 where
  -- from 1 to the capacity, or none: "An empty plan text now means a plan of no streams"
  pub few : length ds ≤ cap
  pub each : Each (length ds) ds
  -- no "ninth window"
  pub few_windows : windows (declared_plan ds) ≤ window_limit
  -- "Every cycle of arguments must contain the first argument of a last or a delay"
  pub clear : Acyclic (declared_plan ds)
