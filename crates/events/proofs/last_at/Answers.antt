-- `events::last_at` meets its contract.
use mathlib.Core.Path.{ap, ◌∙◌}
use Rattle.std.specs.Prelude.{Option}
use lib.IntN.{ℤ}
use Rattle.meaning.specs.Table.{last_at}
use Rattle.machine.specs.Reach.{held_latest}
use Rattle.events.specs.Near.{holding}
use Rattle.events.proofs.last_at.Goals as goal

pub returns-in_err-find : goal.returns-in_err-find
unfolding last_at
returns-in_err-find c = let a = c.args in c.from_residual.ensures ∙ ap (λ (o : Option ℤ). last_at o (held_latest (holding a.a.now) a.t a.k.prev)) c.in_err-find.ensures

pub returns : goal.returns
unfolding last_at
returns c = let a = c.args in c.held_latest.ensures ∙ ap (λ (o : Option ℤ). last_at o (held_latest (holding a.a.now) a.t a.k.prev)) c.in_ok-find.ensures
