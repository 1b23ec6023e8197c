use mathlib.Core.Path.{sym, ◌∙◌}
use native.Mathlib.Omega.{arith}
use Rattle.layout.proofs.Slots.{value_get}
use Rattle.layout.proofs.value_at.Goals as goal

pub returns : goal.returns
returns c =
    let a = c in
    c.get.ensures.0 ∙ sym (value_get a.args.r.now a.args.j (omega arith))
