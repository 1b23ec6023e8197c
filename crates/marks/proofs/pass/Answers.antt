-- `marks::pass` meets its contract.
use mathlib.Core.Path.{refl, ◌∙◌}
use native.Mathlib.Nat.{sub-zero}
use Rattle.marks.proofs.Grown.{grown_none, grown_both, passed_go, passed_end}
use native.Mathlib.Omega.{arith}
use Rattle.marks.proofs.pass.Goals as goal

pub loop-i-init : goal.loop-i-init
loop-i-init c = (omega arith, (simp sub-zero, (grown_none c.args.marks.now, refl)))

pub turn-more-requires : goal.turn-more-requires
turn-more-requires c = omega arith

pub loop-i-preserved : goal.loop-i-preserved
loop-i-preserved c = (omega arith, (passed_go c.args.graph.now c.args.n c.loop-i.i c.loop-i.marks (omega arith) c.turn-more.new.marks c.turn-more.ensures.marks_after ∙ c.loop-i.invariant.1.0, (grown_both c.loop-i.new c.turn-more.result c.loop-i.invariant.1.1.0 c.turn-more.ensures.grown, c.turn-more.auto.marks ∙ c.loop-i.invariant.1.1.1)))

pub returns : goal.returns
returns c = record { marks_after = passed_end c.args.graph.now c.args.n c.loop-i.i c.loop-i.marks (omega arith) ∙ c.loop-i.invariant.1.0; grown = c.loop-i.invariant.1.1.0 }
