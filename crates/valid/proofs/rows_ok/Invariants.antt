use Prim.Native.Nat.{◌-◌, ◌*◌}
use mathlib.Core.Path.{◌≡◌}
use lib.ListN.{drop}
use Rattle.valid.specs.Valid.{row_ok, all_rows}
use Rattle.valid.proofs.rows_ok.Given as goal

abbrev pub invariant-loop-i : goal.invariant-loop-i
invariant-loop-i l = all_rows (row_ok l.n) (l.n - l.i) (drop (l.i * 256) l.state) ≡ all_rows (row_ok l.n) l.n l.state
