-- `writing::put_streams` meets its contract.
use Prim.Native.Nat.{◌+◌}
use mathlib.Core.Path.{◌≡◌}
use lib.ListN.{length}
use lib.Seq.{sets}
use Rattle.writing.proofs.Turns.{rest}
use Rattle.writing.proofs.put_streams.Given as goal

abbrev pub invariant-loop-i : goal.invariant-loop-i
invariant-loop-i l = (l.p + length (rest l.n l.state l.i) ≡ l.at + length (rest l.n l.state 0)) × (length l.out ≡ length l.initial.out) × (sets l.out l.p (rest l.n l.state l.i) ≡ sets l.initial.out l.at (rest l.n l.state 0))
