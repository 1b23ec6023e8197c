-- `lines::digits` meets its contract.
use mathlib.Core.Path.{◌≡◌}
use Prim.Native.Nat.{◌<◌, ◌-◌, ◌^◌}
use Rattle.lines.specs.Form.{scan}
use Rattle.lines.proofs.digits.Given as goal

abbrev pub invariant-loop : goal.invariant-loop
invariant-loop l = (l.value < 10 ^ l.counter) × (scan l.text l.p l.value (l.max - l.counter) ≡ scan l.text l.at 0 l.max)
