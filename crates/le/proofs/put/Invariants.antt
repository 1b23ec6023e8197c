use Prim.Native.Nat.{◌≤◌, ◌+◌, ◌-◌}
use mathlib.Core.Path.{◌≡◌}
use lib.ListN.{length}
use lib.Seq.{sets}
use Rattle.le.specs.Bytes.{enc}
use Rattle.le.proofs.put.Given as goal

abbrev pub invariant-loop-i : goal.invariant-loop-i
invariant-loop-i l = (l.i ≤ l.n) × (length l.s ≡ length l.initial.s) × (sets l.s (l.at + l.i) (enc (l.n - l.i) l.w) ≡ sets l.initial.s l.at (enc l.n l.v))
