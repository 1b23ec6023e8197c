-- `faults::ninth_fault` meets its contract.
use Prim.Native.Nat.{◌≤◌, ◌-◌}
use mathlib.Core.Path.{◌≡◌}
use Rattle.operators.specs.Limits.{window_limit}
use Rattle.faults.specs.Faults.{first_broken, ninth_rule, ninth_fault}
use Rattle.faults.proofs.ninth_fault.Given as goal

abbrev pub invariant-loop-i : goal.invariant-loop-i
invariant-loop-i l = (l.w ≤ window_limit) × (first_broken ninth_rule l.text l.w l.i l.p (l.n - l.i) ≡ ninth_fault l.text l.n l.at)
