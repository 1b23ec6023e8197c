-- `valid::clear` meets its contract.
use Prim.Native.Nat.{ℕ}
use mathlib.Core.Path.{ap, ◌∙◌}
use mathlib.Core.List.{List}
use Rattle.valid.specs.Valid.{clear_in}
use Rattle.cycle.specs.Graph.{Walk, cleared}
use lib.ListN.{length-replicate}
use native.Mathlib.Omega.{arith}
use Rattle.valid.proofs.clear.Goals as goal

pub fill_graph-requires : goal.fill_graph-requires
fill_graph-requires c = (omega arith, simp length-replicate (omega arith))

pub returns : goal.returns
unfolding clear_in
returns c = let a = c.args in ap (λ (w : Walk). w.is_clear) c.clear.ensures ∙ ap (λ (g : List ℕ). (cleared a.most a.n g).is_clear) c.fill_graph.ensures
