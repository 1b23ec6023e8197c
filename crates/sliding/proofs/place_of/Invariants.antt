-- `sliding::place_of` meets its contract.
use Prim.Native.Nat.{◌+◌, ◌≤◌}
use mathlib.Core.Path.{◌≡◌}
use Rattle.layout.specs.Record.{decode}
use Rattle.sliding.specs.Slide.{windows_before}
use Rattle.sliding.proofs.place_of.Given as goal

abbrev pub invariant-loop-r : goal.invariant-loop-r
invariant-loop-r l = (l.r ≤ l.i) × (l.j + l.r ≤ l.i) × (l.j + windows_before l.r (decode l.n l.state).rows ≡ windows_before l.i (decode l.n l.state).rows)
