use mathlib.Core.Path.{ap₂, ◌∙◌}
use lib.IntN.{ℤ}
use lib.Signed.{le_z}
use mir.Facts.{to_z-of_z}
use Rattle.num.specs.Arithmetic.{truth, at_most}
use Rattle.num.proofs.le.Goals as goal

pub returns : goal.returns
unfolding at_most
returns c = c.one_or_zero.ensures ∙ ap₂ (λ (x y : ℤ). truth (le_z x y)) (to_z-of_z c.ranges.a) (to_z-of_z c.ranges.b)
