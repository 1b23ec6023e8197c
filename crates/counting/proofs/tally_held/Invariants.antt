-- `counting::tally_held` meets its contract.
use mathlib.Core.Path.{◌≡◌}
use Prim.Native.Nat.{◌+◌, ◌≤◌}
use Rattle.meaning.specs.Missing.{Reason}
use Rattle.machine.specs.Step.{drop_below}
use Rattle.machine.specs.Windows.{take_below}
use Rattle.machine.specs.Counting.{tally_of}
use Rattle.layout.specs.Record.{dec_raw}
use Rattle.encoding.specs.Back.{held_of}
use Rattle.windows.proofs.Fits.{events_in}
use Rattle.counting.specs.Tally.{count_in, asked_in}
use Rattle.counting.proofs.tally_held.Given as goal

abbrev pub invariant-loop-i : goal.invariant-loop-i
invariant-loop-i l = (l.c.outside + l.first ≤ l.i) × (l.c.divisors + l.first ≤ l.i) × ((q : Reason) → count_in q l.c + tally_of (asked_in q l.second l.op l.k l.a l.b) (take_below l.x (events_in l.i l.n (dec_raw l.held).slots)) ≡ tally_of (asked_in q l.second l.op l.k l.a l.b) (take_below l.x (drop_below l.y (held_of (dec_raw l.held)))))
