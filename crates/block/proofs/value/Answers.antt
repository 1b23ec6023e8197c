-- `block::value` meets its contract.
use mathlib.Core.Path.{ap, ◌∙◌}
use mir.Syntax.{w64}
use mir.Val.{to_z}
use mir.Facts.{to_z-of_z}
use Rattle.block.proofs.value.Goals as goal

pub returns : goal.returns
returns c = to_z-of_z {w = w64} {z = c.of_bits.result} (record { sfits = c.of_bits.type_inv }) ∙ c.of_bits.ensures ∙ ap (to_z w64) c.get.ensures.0
