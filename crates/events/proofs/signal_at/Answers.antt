-- `events::signal_at` meets its contract.
use Prim.Native.Nat.{ℕ, suc}
use native.Mathlib.Numerals.{add-one}
use mathlib.Core.Logic.{inl, inr}
use mathlib.Core.Path.{sym, ap, ap₂, ◌∙◌}
use Rattle.std.specs.Prelude.{is_some}
use Rattle.meaning.specs.Plan.{calc}
use Rattle.meaning.specs.Events.{found}
use Rattle.meaning.specs.Table.{two_at}
use Rattle.machine.specs.Reach.{held_latest}
use Rattle.layout.specs.Record.{dec_raw}
use Rattle.encoding.specs.Back.{held_of}
use Rattle.apply.specs.Named.{calculation}
use Rattle.events.specs.Near.{holding}
use Rattle.events.proofs.Laws as law
use Rattle.events.proofs.signal_at.Goals as goal
use Rattle.events.proofs.signal_at.Goals.{else-is_none-via-then-is_none+else-is_none-2, else-is_none-via-else-is_none}

pub returns-then-is_none-2 : goal.returns-then-is_none-2
returns-then-is_none-2 c = let a = c.args in let t = a.t in let v = held_latest (holding a.a.now) (suc t) a.k.prev in let w = held_latest (holding a.b.now) (suc t) a.k.prevb in let g = calculation a.g in law.signal_none g (found (held_of (dec_raw a.a.now)) t) (found (held_of (dec_raw a.b.now)) t) v w (sym (ap is_some c.find-x.ensures) ∙ c.if-is_none.ensures) (sym (ap is_some c.find-y.ensures) ∙ c.if-is_none-2.ensures)

pub returns : goal.returns
returns c = let a = c.args in let t = a.t in let v = held_latest (holding a.a.now) (suc t) a.k.prev in let w = held_latest (holding a.b.now) (suc t) a.k.prevb in let g = calculation a.g in c.calc_at.ensures ∙ ap₂ (two_at (calc g)) (c.held_latest-v.ensures ∙ ap (λ (n : ℕ). held_latest (holding a.a.now) n a.k.prev) (add-one t)) (c.held_latest-w.ensures ∙ ap (λ (n : ℕ). held_latest (holding a.b.now) n a.k.prevb) (add-one t)) ∙ law.signal_some g (found (held_of (dec_raw a.a.now)) t) (found (held_of (dec_raw a.b.now)) t) v w (elim c.else-is_none.branch [ else-is_none-via-then-is_none+else-is_none-2 m ↦ inr (sym (ap is_some c.find-y.ensures) ∙ m.if-is_none-2.ensures) | else-is_none-via-else-is_none m ↦ inl (sym (ap is_some c.find-x.ensures) ∙ m.if-is_none.ensures) ])
