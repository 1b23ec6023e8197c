-- `marks::mark_arguments` meets its contract.
use mathlib.Core.Path.{ap, ◌∙◌}
use Prim.Native.Nat.{◌+◌, ◌*◌}
use Rattle.marks.specs.Marks.{marked}
use lib.ListN.{get_or}
use Rattle.marks.proofs.Grown.{grown_none, grown_both, args_none, args_both}
use Rattle.marks.proofs.mark_arguments.Goals as goal

pub returns-then-graph-at-eq-BARE : goal.returns-then-graph-at-eq-BARE
returns-then-graph-at-eq-BARE c = record { marks_after = args_none c.args.graph.now c.args.i c.args.marks.now c.if-graph-at-eq-BARE.true; grown = grown_none c.args.marks.now }

pub returns : goal.returns
returns c = record { marks_after = c.mark-second.ensures.marks_after ∙ ap (marked (get_or c.args.graph.now (3 * c.args.i + 2) 0)) c.mark-first.ensures.marks_after ∙ args_both c.args.graph.now c.args.i c.args.marks.now c.if-graph-at-eq-BARE.false; grown = grown_both c.mark-first.result c.mark-second.result c.mark-first.ensures.grown c.mark-second.ensures.grown }
