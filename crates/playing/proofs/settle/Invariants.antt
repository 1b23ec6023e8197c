-- `playing::settle` meets its contract.
use mathlib.Core.Path.{◌≡◌}
use lib.ListN.{length}
use Rattle.replaying.specs.Rank.{rank}
use Rattle.replaying.specs.Replay.{start}
use Rattle.playing.specs.Played.{Goes}
use Rattle.playing.proofs.settle.Given as goal

abbrev pub invariant-loop-place : goal.invariant-loop-place
invariant-loop-place g l = (length l.state ≡ length l.initial.state) × Goes l.n start l.initial.state l.place l.state

abbrev pub decreases-loop-place : goal.decreases-loop-place
decreases-loop-place g l = rank l.n l.place l.state
