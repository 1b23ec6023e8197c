use Rattle.machine.specs.State.{room}
use Prim.Native.Nat.{◌≤◌}
use mathlib.Core.Path.{◌≡◌}
use Rattle.layout.specs.Record.{dec_raw}
use Rattle.meaning.specs.Events.{found}
use Rattle.machine.specs.Reach.{past_latest}
use Rattle.queue.proofs.Turns as turn
use Rattle.queue.proofs.past_latest.Given as goal

abbrev pub invariant-loop-i : goal.invariant-loop-i
invariant-loop-i l = (l.i ≤ l.n) × (l.n ≤ room) × (l.best ≡ past_latest (found (turn.left (dec_raw l.r).slots l.i l.n)) l.t)

abbrev pub decreases-loop-i : goal.decreases-loop-i
decreases-loop-i l = l.i
