use mathlib.Core.Path.{ap, ◌∙◌}
use Rattle.events.specs.Near.{keeping, holding, size}
use native.Mathlib.Omega.{arith}
use Rattle.machine.specs.Reach as machine
use Rattle.events.proofs.Laws as law
use Rattle.events.proofs.due.Goals as goal

pub returns-then-z-eq0 : goal.returns-then-z-eq0
returns-then-z-eq0 c = law.due_none c.args.z _ c.if-z-eq0.true

pub returns : goal.returns
returns c = let a = c.args in law.due_some a.z a.t c.stamps_of-n.result (machine.value_at (keeping a.k) (holding a.a.now) a.z) c.if-z-eq0.false (omega arith) (c.stamps_of-n.ensures.0 ∙ ap size c.set_value.ensures)
