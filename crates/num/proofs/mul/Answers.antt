use mathlib.Core.Path.{sym, ap, ap₂, ◌∙◌}
use mathlib.Core.Bool.{not, beq}
use lib.IntN.{◌*ℤ◌}
use mir.Facts.{to_z-of_z}
use Prim.Native.Nat.{ℕ, ◌*◌}
use Rattle.num.specs.Arithmetic.{fit, multiplied}
use Rattle.num.specs.Parts.{signed}
use Rattle.num.proofs.Arith.{capped, product}
use Rattle.num.proofs.mul.Goals as goal

pub returns : goal.returns
unfolding multiplied
returns c = c.join.ensures ∙ ap (λ (n : ℕ). fit (signed (not (beq c.split-p.result.neg c.split-q.result.neg)) n)) c.product.ensures ∙ capped (not (beq c.split-p.result.neg c.split-q.result.neg)) (c.split-p.result.mag * c.split-q.result.mag) ∙ ap fit (sym (product c.split-p.result.neg c.split-q.result.neg c.split-p.result.mag c.split-q.result.mag) ∙ ap₂ ◌*ℤ◌ (c.split-p.ensures.0 ∙ to_z-of_z c.ranges.a) (c.split-q.ensures.0 ∙ to_z-of_z c.ranges.b))
