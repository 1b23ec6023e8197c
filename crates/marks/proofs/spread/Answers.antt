-- `marks::spread` meets its contract.
use mathlib.Core.Path.{refl, ap, ◌∙◌}
use mathlib.Core.Bool.{not}
use Rattle.marks.specs.Marks.{start}
use Rattle.marks.proofs.Grown.{spread_more, spread_still, spread_fewer}
use native.Mathlib.Omega.{arith}
use Rattle.marks.proofs.spread.Goals as goal

pub loop-init : goal.loop-init
loop-init c = (start, refl)

pub pass-requires : goal.pass-requires
pass-requires c = omega arith

pub returns : goal.returns
returns c = spread_still c.args.graph.now c.args.n c.args.marks.now c.loop.marks c.pass.new.marks c.loop.invariant.0 c.pass.ensures.marks_after c.pass.result c.pass.ensures.grown (ap not c.loop-test.false)

pub loop-smaller : goal.loop-smaller
loop-smaller c = spread_fewer c.args.graph.now c.args.n c.args.marks.now c.loop.marks c.pass.new.marks c.loop.invariant.0 c.pass.ensures.marks_after c.pass.result c.pass.ensures.grown (ap not c.loop-test.true)

pub loop-preserved : goal.loop-preserved
loop-preserved c = (spread_more c.args.graph.now c.args.n c.args.marks.now c.loop.marks c.pass.new.marks c.loop.invariant.0 c.pass.ensures.marks_after, c.pass.auto.marks ∙ c.loop.invariant.1)
