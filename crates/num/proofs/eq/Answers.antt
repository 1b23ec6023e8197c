use mathlib.Core.Path.{ap, ◌∙◌}
use Rattle.num.specs.Arithmetic.{truth, equal}
use Rattle.num.proofs.Signed.{same_bits}
use Rattle.num.proofs.eq.Goals as goal

pub returns : goal.returns
unfolding equal
returns c = c.one_or_zero.ensures ∙ ap truth (same_bits c.args.a c.args.b c.ranges.a c.ranges.b)
