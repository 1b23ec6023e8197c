use Prim.Native.Nat.{◌+◌, ◌-◌}
use mathlib.Core.Path.{◌≡◌}
use lib.ListN.{drop}
use Rattle.layout.specs.Record.{dec_raw}
use Rattle.queue.specs.Queue.{below}
use Rattle.queue.proofs.first_from.Given as goal

abbrev pub invariant-loop-i : goal.invariant-loop-i
invariant-loop-i l = (l.i + below l.w (l.n - l.i) (drop l.i (dec_raw l.r).slots) ≡ below l.w l.n (dec_raw l.r).slots)
