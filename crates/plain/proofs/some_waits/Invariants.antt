use Prim.Native.Nat.{◌≤◌}
use Rattle.plain.proofs.Tests.{NoneBefore}
use Rattle.plain.proofs.some_waits.Given as goal

abbrev pub invariant-loop-i : goal.invariant-loop-i
invariant-loop-i l = (l.i ≤ l.n) × NoneBefore l.n l.state l.s l.t l.i
