-- `num::neg` meets its contract.
use mathlib.Core.Path.{ap, ◌∙◌}
use mir.Facts.{to_z-of_z}
use lib.IntN.{neg_ℤ}
use Rattle.num.specs.Arithmetic.{fit, negated}
use Rattle.num.proofs.Arith.{checked}
use Rattle.num.proofs.neg.Goals as goal

pub returns : goal.returns
unfolding negated
returns c = c.ok_or.ensures.value ∙ checked c.checked_neg.result _ c.checked_neg.ensures ∙ ap fit (ap neg_ℤ (to_z-of_z c.ranges.a))
