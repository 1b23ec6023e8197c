-- `writing::streams_length` meets its contract.
use Prim.Native.Nat.{◌+◌}
use mathlib.Core.Path.{◌≡◌}
use lib.ListN.{length}
use Rattle.writing.proofs.Turns.{rest}
use Rattle.writing.proofs.streams_length.Given as goal

abbrev pub invariant-loop-i : goal.invariant-loop-i
invariant-loop-i l = l.sum + length (rest l.n l.state l.i) ≡ length (rest l.n l.state 0)
