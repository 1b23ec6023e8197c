-- `making::make` meets its contract.
use Prim.Native.Nat.{ℕ}
use mathlib.Core.Path.{◌≡◌, sym, ap, ◌∙◌}
use borrow.Author.Tests.{not-true, not-false}
use lib.Dec.{leb}
use mir.Syntax.{w64}
use mir.Val.{of_z}
use mir.Facts.{to_z-of_z}
use Rattle.machine.specs.State.{room}
use Rattle.layout.specs.Record.{encode, decode}
use Rattle.streams.specs.Look.{equation, kept_in}
use Rattle.decide.specs.Near.{to_next}
use Rattle.making.specs.Make.{bound_raw, silent_raw, event_raw, step_raw}
use Rattle.making.proofs.Steps
use Rattle.making.proofs.make.Goals as goal
use Rattle.making.proofs.make.Goals.{in-Silent, in-Event+else-not-is_full}

pub returns-then-not-is_full : goal.returns-then-not-is_full
returns-then-not-is_full c = let a = c.args in let n = a.n in let s = a.state.now in let st = decode n s in let e = equation a.op in c.move_event.ensures ∙ ap (λ (u : ℕ). encode n (event_raw n a.i e (kept_in a.k) c.in-Event.t u st)) (c.bits.ensures ∙ ap (of_z w64) (to_z-of_z {w = w64} {z = c.in-Event.v} (record { sfits = c.in-Event.known_told-1-own.given.1.0.1 }))) ∙ ap (encode n) (sym (rw (c.in-Event.is, sym (c.is_full.ensures ∙ ap (leb room) c.new.ensures) ∙ not-true c.is_full.result c.if-not-is_full.true-raw)))

pub returns : goal.returns
returns c = let a = c.args in let n = a.n in let s = a.state.now in let st = decode n s in let e = equation a.op in let f : silent_raw n a.i e (kept_in a.k) (bound_raw (to_next a.next) a.held) st ≡ step_raw n a.i e (kept_in a.k) (to_next a.next) a.held st = elim c.match-next.branch [ in-Silent w ↦ rw w.in-Silent.is | in-Event+else-not-is_full w ↦ Steps.step_full n a.i e (kept_in a.k) (to_next a.next) a.held st (sym (w.is_full.ensures ∙ ap (leb room) w.new.ensures) ∙ not-false w.is_full.result w.if-not-is_full.false-raw) ] in c.move_silent.ensures ∙ ap (encode n) (ap (λ (u : ℕ). silent_raw n a.i e (kept_in a.k) u st) c.bound_after-y.ensures.0 ∙ f)
