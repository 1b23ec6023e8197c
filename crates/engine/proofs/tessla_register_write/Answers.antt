-- `engine::tessla_register_write` meets its contract.
use mathlib.Core.Path.{◌∙◌}
use Rattle.engine.proofs.tessla_register_write.Goals as goal

pub returns : goal.returns
returns c = let h = c.write.ensures in record { number = c.code.ensures.0 ∙ h.number; block = h.block; buffer = h.state }
