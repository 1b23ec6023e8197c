-- `valid::streams_in` meets its contract.
use Prim.Native.Nat.{◌+◌, ◌-◌, ◌*◌}
use mathlib.Core.Path.{◌≡◌}
use lib.ListN.{drop}
use Rattle.valid.specs.Valid.{streams_in}
use Rattle.valid.proofs.streams_in.Given as goal

abbrev pub invariant-loop-i : goal.invariant-loop-i
invariant-loop-i l = l.i + streams_in (l.most - l.i) (drop (l.i * 256) l.state) ≡ streams_in l.most l.state
