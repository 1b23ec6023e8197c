-- `block::fill` meets its contract.
use mathlib.Core.Path.{ap, ◌∙◌}
use mir.Syntax.{w64}
use mir.Val.{of_z}
use mir.Facts.{to_z-of_z}
use Rattle.block.proofs.Flags.{filled_is}
use Rattle.block.proofs.fill.Goals as goal

pub returns : goal.returns
returns c = let a = c.args in filled_is a.block.now c.put.new.s c.put-2.new.s a.stamp c.bits.result a.value c.put.ensures (c.bits.ensures ∙ ap (of_z w64) (to_z-of_z c.ranges.value)) c.put-2.ensures
