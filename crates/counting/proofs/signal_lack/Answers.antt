-- `counting::signal_lack` meets its contract.
use mathlib.Core.Path.{sym, ap, ap₂, ◌∙◌}
use Prim.Native.Nat.{ℕ, suc}
use native.Mathlib.Numerals.{add-one}
use mathlib.Core.Logic.{inl, inr}
use Rattle.std.specs.Prelude.{Option, is_some}
use lib.IntN.{ℤ}
use Rattle.meaning.specs.Events.{found}
use Rattle.meaning.specs.Missing.{said_for, calc_says}
use Rattle.machine.specs.Reach.{held_latest}
use Rattle.layout.specs.Record.{dec_raw}
use Rattle.encoding.specs.Back.{held_of}
use Rattle.apply.specs.Named.{calculation}
use Rattle.events.specs.Near.{holding}
use Rattle.counting.proofs.Laws as law
use Rattle.counting.proofs.signal_lack.Goals as goal
use Rattle.counting.proofs.signal_lack.Goals.{else-is_none-via-then-is_none+else-is_none-2, else-is_none-via-else-is_none}

pub returns-then-is_none-2 : goal.returns-then-is_none-2
returns-then-is_none-2 c = let t = c.args.t in let u = found (held_of (dec_raw c.args.a.now)) t in let z = found (held_of (dec_raw c.args.b.now)) t in let v = held_latest (holding c.args.a.now) (suc t) c.args.k.prev in let w = held_latest (holding c.args.b.now) (suc t) c.args.k.prevb in let g = calculation c.args.g in λ q. law.signal_quiet q g u z v w (sym (ap is_some c.find-x.ensures) ∙ c.if-is_none.ensures) (sym (ap is_some c.find-y.ensures) ∙ c.if-is_none-2.ensures)

pub returns : goal.returns
returns c = let t = c.args.t in let u = found (held_of (dec_raw c.args.a.now)) t in let z = found (held_of (dec_raw c.args.b.now)) t in let v = held_latest (holding c.args.a.now) (suc t) c.args.k.prev in let w = held_latest (holding c.args.b.now) (suc t) c.args.k.prevb in let g = calculation c.args.g in λ q. c.calc_lack.ensures q ∙ ap₂ (λ (x y : Option ℤ). said_for q (calc_says g x y)) (c.held_latest-v.ensures ∙ ap (λ (n : ℕ). held_latest (holding c.args.a.now) n c.args.k.prev) (add-one t)) (c.held_latest-w.ensures ∙ ap (λ (n : ℕ). held_latest (holding c.args.b.now) n c.args.k.prevb) (add-one t)) ∙ law.signal_heard q g u z v w (elim c.else-is_none.branch [ else-is_none-via-then-is_none+else-is_none-2 m ↦ inr (sym (ap is_some c.find-y.ensures) ∙ m.if-is_none-2.ensures) | else-is_none-via-else-is_none m ↦ inl (sym (ap is_some c.find-x.ensures) ∙ m.if-is_none.ensures) ])
