use mathlib.Core.Path.{sym, ap, ◌∙◌}
use mir.Syntax.{w64}
use mir.Val.{of_z}
use native.Mathlib.Omega.{arith}
use Rattle.encoding.specs.View.{bits_of}
use Rattle.apply.proofs.Rows.{back}
use Rattle.keeping.proofs.bits_of.Goals as goal

pub returns-in-Some : goal.returns-in-Some
returns-in-Some c = c.bits.ensures ∙ ap (of_z w64) (back c.in-Some.v (omega arith)) ∙ ap bits_of (sym c.in-Some.is)
