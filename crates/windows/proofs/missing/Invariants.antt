use Prim.Native.Nat.{◌+◌, ◌≤◌}
use mathlib.Core.Path.{◌≡◌}
use Rattle.machine.specs.Step.{drop_below}
use Rattle.machine.specs.Counting.{sum_tally}
use Rattle.layout.specs.Record.{dec_raw}
use Rattle.encoding.specs.Back.{held_of}
use Rattle.windows.specs.Window.{kept}
use Rattle.windows.proofs.Fits.{events_in, grown}
use Rattle.windows.proofs.missing.Given as goal

abbrev pub invariant-loop-i : goal.invariant-loop-i
invariant-loop-i l = (l.c + l.first ≤ l.i) × (l.c + sum_tally l.k l.x (grown l.first l.i (kept l.n l.w) (dec_raw l.a)) (events_in l.i l.count (dec_raw l.a).slots) ≡ sum_tally l.k l.x (kept l.n l.w) (drop_below l.y (held_of (dec_raw l.a))))
