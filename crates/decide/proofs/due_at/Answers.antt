use Prim.Native.Nat.{pred, ◌+◌}
use native.Mathlib.Omega.{arith}
use mathlib.Core.Path.{◌≡◌, ap, ap₂, ◌∙◌}
use Rattle.events.specs.Near.{size}
use Rattle.decide.proofs.due_at.Goals as goal

pub returns : goal.returns
returns c = let e : c.saturating_sub.result ≡ pred c.args.z = omega arith in ap₂ ◌+◌ e (c.stamps_of.ensures.0 ∙ ap size c.set_value.ensures)
