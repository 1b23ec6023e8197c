-- `moves::window_ahead` meets its contract.
use Prim.Native.Nat.{ℕ, max}
use mathlib.Core.Path.{sym, ap, ◌∙◌}
use Rattle.machine.specs.Reach.{event}
use Rattle.layout.specs.Record.{Raw, decode, row_at}
use Rattle.layout.proofs.Laws.{record_row}
use Rattle.encoding.specs.Back.{held_of}
use Rattle.apply.specs.Named.{folding}
use Rattle.apply.proofs.Rows.{back}
use Rattle.streams.specs.Look.{look_of}
use Rattle.windows.specs.Window.{fitted}
use Rattle.sliding.specs.Slide.{fit_row}
use native.Mathlib.Omega.{arith}
use Rattle.moves.proofs.window_ahead.Goals as goal

pub returns-in-Some-clause-next : goal.returns-in-Some-clause-next
returns-in-Some-clause-next c = let a = c.args in let n = a.n in let s = a.state.now in let st = decode n s in ap (event c.in-Some.t) (back c.in-Some.v (omega arith)) ∙ ap (fitted c.max-hi.result) (sym c.in-Some.is) ∙ c.fit.ensures ∙ ap (λ (x : ℕ). fit_row (folding a.f) a.k a.i a.y x (held_of (row_at st a.a)) st) (c.max-hi.ensures ∙ ap (max a.y) (c.bound_of.ensures.0 ∙ ap (λ (r : Raw). (look_of r).bound) (record_row n s c.row_at.result.now a.a (omega arith) c.row_at.ensures.0)))

pub returns-in-None : goal.returns-in-None
returns-in-None c = let a = c.args in let n = a.n in let s = a.state.now in let st = decode n s in record { next = ap (fitted c.max-hi.result) (sym c.in-None.is) ∙ c.fit.ensures ∙ ap (λ (x : ℕ). fit_row (folding a.f) a.k a.i a.y x (held_of (row_at st a.a)) st) (c.max-hi.ensures ∙ ap (max a.y) (c.bound_of.ensures.0 ∙ ap (λ (r : Raw). (look_of r).bound) (record_row n s c.row_at.result.now a.a (omega arith) c.row_at.ensures.0))); known = omega arith }
