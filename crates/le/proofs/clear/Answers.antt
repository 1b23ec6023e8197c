-- `le::clear` meets its contract.
use Prim.Native.Nat.{ℕ, ◌+◌, ◌-◌}
use native.Mathlib.Omega.{arith}
use mathlib.Core.Path.{ap, ◌∙◌}
use lib.ListN.{replicate, length-replicate}
use Rattle.std.proofs.Common.{rules}
use Rattle.le.proofs.Laws.{put_part}
use Rattle.le.proofs.clear.Goals as goal

pub returns : goal.returns
returns c = put_part c.args.s.now c.fill.new.self (replicate c.args.n 0) c.args.at (c.args.at + c.args.n - c.args.at) (c.fill.ensures.after (search rules) ∙ ap (λ (k : ℕ). replicate k 0) (omega arith)) (length-replicate c.args.n 0 ∙ omega arith) (omega arith)
