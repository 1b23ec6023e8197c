-- `num::sub` meets its contract.
use mathlib.Core.Path.{ap, ap₂, ◌∙◌}
use mir.Facts.{to_z-of_z}
use lib.IntN.{◌-ℤ◌}
use Rattle.num.specs.Arithmetic.{fit, subtracted}
use Rattle.num.proofs.Arith.{checked}
use Rattle.num.proofs.sub.Goals as goal

pub returns : goal.returns
unfolding subtracted
returns c = c.ok_or.ensures.value ∙ checked c.checked_sub.result _ c.checked_sub.ensures ∙ ap fit (ap₂ ◌-ℤ◌ (to_z-of_z c.ranges.a) (to_z-of_z c.ranges.b))
