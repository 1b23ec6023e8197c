-- `faults::width_fault` meets its contract.
use Prim.Native.Nat.{◌-◌}
use mathlib.Core.Path.{◌≡◌}
use Rattle.faults.specs.Faults.{first_broken, width_rule, width_fault}
use Rattle.faults.proofs.width_fault.Given as goal

abbrev pub invariant-loop-i : goal.invariant-loop-i
invariant-loop-i l = first_broken width_rule l.text 0 l.i l.p (l.n - l.i) ≡ width_fault l.text l.n l.at
