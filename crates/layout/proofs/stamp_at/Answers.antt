use mathlib.Core.Path.{sym, ◌∙◌}
use native.Mathlib.Omega.{arith}
use Rattle.layout.proofs.Slots.{stamp_get}
use Rattle.layout.proofs.stamp_at.Goals as goal

pub returns : goal.returns
returns c =
    let a = c in
    (c.get.ensures.0 ∙ sym (stamp_get a.args.r.now a.args.j (omega arith)), omega arith)
