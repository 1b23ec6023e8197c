-- `windows::total` meets its contract.
use mathlib.Core.Path.{refl, ap, ◌∙◌}
use Rattle.std.specs.Prelude.{Some}
use mir.Syntax.{w64}
use mir.Val.{to_z}
use mir.Facts.{to_z-of_z}
use Rattle.windows.proofs.Sums.{total_under, total_over, total_in}
use native.Mathlib.Omega.{arith}
use Rattle.windows.proofs.total.Goals as goal

pub returns-then-high-below : goal.returns-then-high-below
returns-then-high-below c = let a = c.args in total_under a.n a.h.low a.h.high (omega arith) c.if-high-below.true

pub returns-then-top-ge-BASE : goal.returns-then-top-ge-BASE
returns-then-top-ge-BASE c = let a = c.args in total_over a.n a.h.low a.h.high (omega arith) (omega arith)

pub returns : goal.returns
returns c = let a = c.args in ap Some (to_z-of_z {w = w64} (record { sfits = c.of_bits.type_inv }) ∙ c.of_bits.ensures ∙ ap (to_z w64) c.raise.ensures) ∙ total_in a.n a.h.low a.h.high (omega arith) _ refl (omega arith) (omega arith)
