-- `playing::replay_lines` meets its contract.
use Prim.Native.Nat.{◌-◌, ◌≤◌}
use mathlib.Core.Path.{◌≡◌}
use lib.ListN.{length}
use Rattle.playing.specs.Hand.{Between}
use Rattle.playing.proofs.replay_lines.Given as goal

abbrev pub invariant-loop-from : goal.invariant-loop-from
invariant-loop-from g l = (l.from ≤ length l.text) × (length l.state ≡ length l.initial.state) × Between l.n l.text l.at l.last l.first l.initial.state l.from l.line l.state

abbrev pub decreases-loop-from : goal.decreases-loop-from
decreases-loop-from g l = length l.text - l.from
