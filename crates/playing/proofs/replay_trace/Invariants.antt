-- `playing::replay_trace` meets its contract.
use Prim.Native.Nat.{◌≤◌}
use mathlib.Core.Path.{◌≡◌}
use mathlib.Core.List.{[]}
use lib.ListN.{length}
use Rattle.playing.specs.Hand.{hand, Onward}
use Rattle.playing.proofs.replay_trace.Given as goal

abbrev pub invariant-loop-reads : goal.invariant-loop-reads
invariant-loop-reads g l = (l.left.from ≤ l.left.end) × (l.left.end ≤ length l.buffer) × (4096 ≡ length l.buffer) × (length l.state ≡ length l.initial.state) × Onward l.n 1 [] l.initial.state (hand l.buffer l.left.from l.left.end) l.left.line l.state

abbrev pub decreases-loop-reads : goal.decreases-loop-reads
decreases-loop-reads g l = l.reads
