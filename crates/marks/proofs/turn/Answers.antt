-- `marks::turn` meets its contract.
use mathlib.Core.Path.{◌∙◌}
use Rattle.marks.proofs.Grown.{grown_none, turned_none, turned_on}
use Rattle.marks.proofs.turn.Goals as goal

pub returns-then-marks-i-eq0 : goal.returns-then-marks-i-eq0
returns-then-marks-i-eq0 c = record { marks_after = turned_none c.args.graph.now c.args.i c.args.marks.now c.if-marks-i-eq0.true; grown = grown_none c.args.marks.now }

pub returns : goal.returns
returns c = record { marks_after = c.mark_arguments.ensures.marks_after ∙ turned_on c.args.graph.now c.args.i c.args.marks.now c.if-marks-i-eq0.false; grown = c.mark_arguments.ensures.grown }
