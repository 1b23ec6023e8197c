-- `faults::form_fault` meets its contract.
use Prim.Native.Nat.{◌-◌}
use mathlib.Core.Path.{◌≡◌}
use Rattle.faults.specs.Faults.{form_fault}
use Rattle.faults.proofs.form_fault.Given as goal

abbrev pub invariant-loop-i : goal.invariant-loop-i
invariant-loop-i l = form_fault l.text l.i l.p (l.n - l.i) ≡ form_fault l.text 0 l.at l.n
