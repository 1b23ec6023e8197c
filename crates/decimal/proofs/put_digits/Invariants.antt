-- `decimal::put_digits` meets its contract.
use Prim.Native.Nat.{◌-◌, ◌≤◌}
use mathlib.Core.Path.{◌≡◌}
use lib.ListN.{length}
use lib.Seq.{sets}
use Rattle.decimal.specs.Put.{last_digits}
use Rattle.decimal.proofs.put_digits.Given as goal

abbrev pub invariant-loop-p : goal.invariant-loop-p
invariant-loop-p l = (l.at ≤ l.p) × (l.p ≤ l.end) × (l.rest ≤ l.n) × (length l.out ≡ length l.initial.out) × (sets l.out l.at (last_digits (l.p - l.at) l.rest) ≡ sets l.initial.out l.at (last_digits (l.end - l.at) l.n))
