-- `passing::summed` meets its contract.
use mathlib.Core.Logic.{inl, inr}
use Rattle.layout.specs.Record.{decode, row_at}
use Rattle.encoding.specs.Back.{held_of}
use Rattle.sliding.specs.Slide.{missing_row}
use native.Mathlib.Omega.{arith}
use Rattle.passing.proofs.Counts as law
use Rattle.passing.proofs.summed.Goals as goal

pub returns-in-Sum : goal.returns-in-Sum
returns-in-Sum c = let st = decode c.args.n c.args.state.now in ((λ q. law.summed_sum q c.missing.result (missing_row c.args.k c.args.i c.args.y c.args.x (held_of (row_at st c.args.a)) st) c.in-Sum.is c.missing.ensures.0), omega arith, omega arith)

pub returns-in-Least : goal.returns-in-Least
returns-in-Least c = let st = decode c.args.n c.args.state.now in let m = missing_row c.args.k c.args.i c.args.y c.args.x (held_of (row_at st c.args.a)) st in ((λ q. elim c.in-Least.is [ inl e ↦ law.summed_least q m e | inr e ↦ law.summed_greatest q m e ]), omega arith, omega arith)
