-- `making::bound_after` meets its contract.
use mathlib.Core.Path.{sym, ap, ◌∙◌}
use Rattle.machine.specs.State.{room}
use lib.Dec.{leb}
use native.Mathlib.Omega.{arith}
use Rattle.making.proofs.bound_after.Goals as goal

pub returns-then-is_full : goal.returns-then-is_full
returns-then-is_full c = (sym (rw (c.in-Event.is, sym (c.is_full.ensures ∙ ap (leb room) c.new.ensures) ∙ c.if-is_full.true)), omega arith)

pub returns-in-Silent : goal.returns-in-Silent
returns-in-Silent c = (sym (rw c.in-Silent.is), rw c.in-Silent.is at c.requires)

pub returns-else-is_full : goal.returns-else-is_full
returns-else-is_full c = (c.past.ensures.0 ∙ sym (rw (c.in-Event.is, sym (c.is_full.ensures ∙ ap (leb room) c.new.ensures) ∙ c.if-is_full.false)), c.past.ensures.1)
