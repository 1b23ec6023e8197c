-- `marks::pass` meets its contract.
use mathlib.Core.Path.{◌≡◌}
use Prim.Native.Nat.{◌≤◌, ◌-◌}
use lib.ListN.{length}
use Rattle.marks.specs.Marks.{passed, Grown}
use Rattle.marks.proofs.pass.Given as goal

abbrev pub invariant-loop-i : goal.invariant-loop-i
invariant-loop-i l = (l.i ≤ l.n) × ((passed l.graph l.i (l.n - l.i) l.marks ≡ passed l.graph 0 l.n l.initial.marks) × (Grown l.initial.marks l.marks l.new × (length l.marks ≡ length l.initial.marks)))
