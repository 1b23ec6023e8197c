-- `replaying::next_output` meets its contract.
use Prim.Native.Nat.{ℕ, ◌+◌, ◌-◌, ◌<◌, ◌≤◌}
use mathlib.Core.Bool.{not}
use lib.Dec.{T}
use Rattle.replaying.specs.Replay.{is_output}
use Rattle.replaying.proofs.next_output.Given as goal

abbrev pub invariant-loop-i : goal.invariant-loop-i
invariant-loop-i l = (l.from ≤ l.i) × (l.i ≤ l.from + (l.n - l.from)) × ((j : ℕ) → l.from ≤ j → j < l.i → T (not (is_output l.state j)))

abbrev pub decreases-loop-i : goal.decreases-loop-i
decreases-loop-i l = l.n - l.i
