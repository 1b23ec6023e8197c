use mir.Syntax.{w64}
use mathlib.Core.Path.{ap, ◌∙◌}
use Rattle.std.specs.Prelude.{Some}
use mir.Facts.{to_z-of_z}
use Rattle.streams.proofs.Laws as law
use Rattle.streams.proofs.optional.Goals as goal

pub returns-then-has-eq0 : goal.returns-then-has-eq0
returns-then-has-eq0 c = law.optional_none c.args.has c.args.bits c.if-has-eq0.true

pub returns : goal.returns
returns c = ap Some (to_z-of_z {w = w64} (record { sfits = c.of_bits.type_inv }) ∙ c.of_bits.ensures) ∙ law.optional_some c.args.has c.args.bits c.if-has-eq0.false
