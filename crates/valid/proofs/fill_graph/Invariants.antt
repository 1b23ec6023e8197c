-- `valid::fill_graph` meets its contract.
use mathlib.Core.Path.{◌≡◌}
use lib.ListN.{length}
use Rattle.valid.specs.Valid.{noted}
use Rattle.valid.proofs.fill_graph.Given as goal

abbrev pub invariant-loop-i : goal.invariant-loop-i
invariant-loop-i l = (length l.graph ≡ length l.initial.graph) × (l.graph ≡ noted l.i l.state l.initial.graph)
