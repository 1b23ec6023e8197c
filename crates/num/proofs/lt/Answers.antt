use mathlib.Core.Path.{ap₂, ◌∙◌}
use lib.IntN.{ℤ}
use lib.Signed.{lt_z}
use mir.Facts.{to_z-of_z}
use Rattle.num.specs.Arithmetic.{truth, less}
use Rattle.num.proofs.lt.Goals as goal

pub returns : goal.returns
unfolding less
returns c = c.one_or_zero.ensures ∙ ap₂ (λ (x y : ℤ). truth (lt_z x y)) (to_z-of_z c.ranges.a) (to_z-of_z c.ranges.b)
