use Prim.Native.Nat.{ℕ}
use mathlib.Core.Path.{sym, ap, ◌∙◌}
use Rattle.meaning.specs.Events.{found}
use Rattle.meaning.specs.Table.{delay_at}
use Rattle.machine.proofs.Window.{past_le}
use Rattle.layout.specs.Record.{dec_raw}
use Rattle.encoding.specs.Back.{held_of}
use Rattle.events.specs.Near.{keeping, holding}
use native.Mathlib.Omega.{arith}
use Rattle.machine.specs.Reach as machine
use Rattle.events.proofs.delay_at.Goals as goal

pub due-requires : goal.due-requires
unfolding machine.point
due-requires c = let h = past_le (found (held_of (dec_raw c.args.b.now))) c.args.t in (omega arith, omega arith)

pub returns-then-due : goal.returns-then-due
unfolding delay_at
returns-then-due c = let a = c.args in ap delay_at (sym c.if-due.true ∙ c.due.ensures ∙ ap (λ (z : ℕ). machine.due (keeping a.k) (holding a.a.now) z a.t) c.point-z.ensures)

pub returns : goal.returns
unfolding delay_at
returns c = let a = c.args in ap delay_at (sym c.if-due.false ∙ c.due.ensures ∙ ap (λ (z : ℕ). machine.due (keeping a.k) (holding a.a.now) z a.t) c.point-z.ensures)
