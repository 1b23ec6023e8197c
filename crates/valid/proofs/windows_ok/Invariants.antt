-- `valid::windows_ok` meets its contract.
use Prim.Native.Nat.{◌≤◌}
use mathlib.Core.Path.{◌≡◌}
use Rattle.valid.specs.Valid.{windows_ok}
use Prim.Native.Nat.{◌≤◌}
use mathlib.Core.Path.{◌≡◌}
use Rattle.operators.specs.Limits.{window_limit}
use Rattle.valid.specs.Valid.{windows_ok}
use Rattle.valid.proofs.Area.{left_at}
use Rattle.valid.proofs.windows_ok.Given as goal

abbrev pub invariant-loop-i : goal.invariant-loop-i
invariant-loop-i l = (l.j ≤ window_limit) × (left_at l.n l.state l.i l.j ≡ windows_ok l.n l.state)
