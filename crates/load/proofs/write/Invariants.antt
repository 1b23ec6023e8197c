use Prim.Native.Nat.{ℕ, ◌-◌, ◌<◌}
use mathlib.Core.Path.{◌≡◌}
use lib.ListN.{length, get_or}
use Rattle.layout.specs.Record.{encode, decode}
use Rattle.load.specs.Filled.{written}
use Rattle.load.proofs.write.Given as goal

abbrev pub invariant-loop-i : goal.invariant-loop-i
invariant-loop-i l = (length l.state ≡ length l.initial.state) × ((j : ℕ) → get_or l.state j 0 < 256) × (encode l.n (written l.text l.p (l.n - l.i) l.i (decode l.n l.state)) ≡ encode l.n (written l.text l.at l.n 0 (decode l.n l.initial.state)))
