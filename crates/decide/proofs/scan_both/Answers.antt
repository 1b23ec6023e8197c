-- `decide::scan_both` meets its contract.
use Prim.Native.Nat.{ℕ}
use mathlib.Core.Path.{ap, ◌∙◌}
use mathlib.Core.Bool.{true}
use Rattle.layout.specs.Record.{dec_raw}
use Rattle.encoding.specs.Back.{held_of}
use Rattle.decide.specs.Near.{search_in}
use Rattle.decide.proofs.scan_both.Goals as goal

pub returns : goal.returns
returns c = let x = c.args in c.scan.ensures.0 ∙ ap (λ (h : ℕ). search_in true x.l x.a.now x.b.now h (held_of (dec_raw x.a.now))) c.scan-best.ensures.0
