use Prim.Native.Nat.{◌≤◌}
use mathlib.Core.Path.{◌≡◌}
use Rattle.layout.specs.Record.{decode}
use Rattle.readers.specs.Step.{last_reader}
use Rattle.readers.proofs.last_reader.Given as goal

abbrev pub invariant-loop-i : goal.invariant-loop-i
invariant-loop-i l = (l.i ≤ l.n) × (last_reader l.s (decode l.n l.state).rows l.i ≡ last_reader l.s (decode l.n l.state).rows l.n)
