-- `faults::rule_fault` meets its contract.
use Prim.Native.Nat.{◌-◌}
use mathlib.Core.Path.{◌≡◌}
use Rattle.faults.specs.Faults.{first_broken, field_rule, rule_fault}
use Rattle.faults.proofs.rule_fault.Given as goal

abbrev pub invariant-loop-i : goal.invariant-loop-i
invariant-loop-i l = first_broken (field_rule l.n) l.text 0 l.i l.p (l.n - l.i) ≡ rule_fault l.text l.n l.at
