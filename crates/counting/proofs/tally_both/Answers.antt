-- `counting::tally_both` meets its contract.
use mathlib.Core.Path.{ap₂, ◌∙◌}
use Prim.Native.Nat.{◌+◌}
use native.Mathlib.Omega.{arith}
use Rattle.counting.proofs.Laws as law
use Rattle.counting.proofs.tally_both.Goals as goal

pub returns : goal.returns
returns c = ((λ q. law.both_sum q c.tally_held-first.result c.tally_held-second.result ∙ ap₂ ◌+◌ (c.tally_held-first.ensures.0 q) (c.tally_held-second.ensures.0 q)), omega arith, omega arith)
