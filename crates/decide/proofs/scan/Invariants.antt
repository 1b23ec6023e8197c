use Prim.Native.Nat.{◌≤◌}
use mathlib.Core.Path.{◌≡◌}
use Rattle.layout.specs.Record.{dec_raw}
use Rattle.queue.proofs.Turns.{left}
use Rattle.decide.specs.Near.{search_in}
use Rattle.decide.proofs.scan.Given as goal

abbrev pub invariant-loop-i : goal.invariant-loop-i
invariant-loop-i l = (l.best ≤ l.hi) × (search_in l.give l.l l.a l.b l.best (left (dec_raw l.q).slots l.i l.n) ≡ search_in l.give l.l l.a l.b l.hi (left (dec_raw l.q).slots 0 l.n))
