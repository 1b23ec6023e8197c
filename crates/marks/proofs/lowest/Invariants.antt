-- `marks::lowest` meets its contract.
use Prim.Native.Nat.{ℕ, ◌≤◌, ◌<◌}
use mathlib.Core.Bool.{false}
use Rattle.marks.specs.Marks.{Back}
use Rattle.marks.proofs.lowest.Given as goal

abbrev pub invariant-loop-s : goal.invariant-loop-s
invariant-loop-s l = (l.s ≤ l.n) × ((x : ℕ) → x < l.s → Back l.graph l.n x false)
