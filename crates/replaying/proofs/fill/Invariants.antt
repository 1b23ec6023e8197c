-- `replaying::fill` meets its contract.
use Prim.Native.Nat.{◌<◌, ◌≤◌}
use mathlib.Core.Path.{◌≡◌}
use mathlib.Core.Logic.{◌⊎◌}
use lib.ListN.{length, take}
use Rattle.le.specs.Bytes.{Bytes}
use Rattle.replaying.specs.Replay.{Prints}
use Rattle.replaying.specs.Rank.{rank}
use Rattle.replaying.proofs.fill.Given as goal

abbrev pub invariant-loop-out : goal.invariant-loop-out
invariant-loop-out l = (l.end ≤ length l.out) × (length l.out ≡ length l.initial.out) × (length l.state ≡ length l.initial.state) × Bytes l.state × Prints l.n l.initial.p l.initial.state (take l.end l.out) l.p l.state × ((rank l.n l.p l.state < rank l.n l.initial.p l.initial.state) ⊎ ((l.end ≡ 0) × (l.p ≡ l.initial.p) × (l.state ≡ l.initial.state)))

abbrev pub decreases-loop-out : goal.decreases-loop-out
decreases-loop-out l = rank l.n l.p l.state
