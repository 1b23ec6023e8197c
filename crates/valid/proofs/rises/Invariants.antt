use Prim.Native.Nat.{◌-◌, ◌≤◌}
use mathlib.Core.Path.{◌≡◌}
use lib.ListN.{drop}
use Rattle.layout.specs.Record.{dec_raw}
use Rattle.valid.specs.Valid.{risen}
use Rattle.valid.proofs.rises.Given as goal

abbrev pub invariant-loop-i : goal.invariant-loop-i
invariant-loop-i l = (l.low ≤ 4294967296) × (risen l.top l.low (l.n - l.i) (drop l.i (dec_raw l.r).slots) ≡ risen l.top 0 l.n (dec_raw l.r).slots)
