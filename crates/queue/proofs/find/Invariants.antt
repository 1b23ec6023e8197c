use Rattle.machine.specs.State.{room}
use Prim.Native.Nat.{◌≤◌}
use mathlib.Core.Path.{◌≡◌}
use Rattle.layout.specs.Record.{dec_raw}
use Rattle.meaning.specs.Events.{found}
use Rattle.encoding.specs.Back.{held_of}
use Rattle.queue.proofs.Turns as turn
use Rattle.queue.proofs.find.Given as goal

abbrev pub invariant-loop-i : goal.invariant-loop-i
invariant-loop-i l = (l.n ≤ room) × (found (turn.left (dec_raw l.r).slots l.i l.n) l.t ≡ found (held_of (dec_raw l.r)) l.t)
