-- `decimal::put_word` meets its contract.
use mathlib.Core.Path.{◌≡◌}
use Prim.Native.Nat.{◌+◌, ◌≤◌}
use lib.ListN.{length, drop}
use lib.Seq.{sets}
use Rattle.decimal.proofs.put_word.Given as goal

abbrev pub invariant-loop-i : goal.invariant-loop-i
invariant-loop-i l = (l.i ≤ length l.word) × (length l.out ≡ length l.initial.out) × (sets l.out (l.at + l.i) (drop l.i l.word) ≡ sets l.initial.out l.at l.word)
