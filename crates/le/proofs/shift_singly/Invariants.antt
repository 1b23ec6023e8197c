use Prim.Native.Nat.{◌≤◌, ◌+◌, ◌-◌}
use mathlib.Core.Path.{◌≡◌}
use lib.ListN.{length}
use lib.Seq.{sets}
use Rattle.le.specs.Bytes.{part}
use Rattle.le.proofs.shift_singly.Given as goal

abbrev pub invariant-loop-moved : goal.invariant-loop-moved
invariant-loop-moved l = (l.moved ≤ l.n) × (length l.s ≡ length l.initial.s) × (sets l.s (l.at + l.moved) (part l.s (l.at + l.by + l.moved) (l.n - l.moved)) ≡ sets l.initial.s l.at (part l.initial.s (l.at + l.by) l.n))
