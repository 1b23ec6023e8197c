use Prim.Native.Nat.{◌+◌, ◌-◌, ◌≤◌}
use mathlib.Core.Path.{◌≡◌}
use lib.ListN.{drop}
use Rattle.layout.specs.Record.{dec_raw}
use Rattle.queue.specs.Queue.{below}
use Rattle.plain.proofs.Tests.{waited}
use Rattle.plain.proofs.free.Given as goal

abbrev pub invariant-loop-j : goal.invariant-loop-j
invariant-loop-j l = (l.j ≤ l.m) × (l.j + below (waited l.n l.state l.r l.i) (l.m - l.j) (drop l.j (dec_raw l.r).slots) ≡ below (waited l.n l.state l.r l.i) l.m (dec_raw l.r).slots)
