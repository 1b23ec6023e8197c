-- `faults::form_fault` meets its contract.
use Prim.Native.Nat.{ℕ, ◌+◌, ◌*◌}
use Rattle.refusal.specs.Numbers.{number_of}
use mathlib.Core.Path.{◌≡◌, sym, ap, ◌∙◌}
use lib.Dec.{lit<}
use Rattle.faults.specs.Faults.{fault, in_stream}
use Rattle.faults.proofs.Walk.{form_go, form_halt, form_right, form_left_over}
use native.Mathlib.Omega.{arith}
use Rattle.faults.proofs.form_fault.Goals as goal

pub loop-i-preserved : goal.loop-i-preserved
loop-i-preserved c = form_go c.args.text.now c.args.n c.loop-i.i c.loop-i.p (omega arith) c.in-Ok.f (sym c.in-Ok.ensures) ∙ c.loop-i.invariant

pub returns-in-Err : goal.returns-in-Err
returns-in-Err c = (c.in_stream.ensures.0 ∙ ap (in_stream (number_of c.in-Err.r) c.loop-i.i) c.stream_line-j.ensures.0 ∙ form_halt c.args.text.now c.args.n c.loop-i.i c.loop-i.p (omega arith) c.in-Err.r (sym c.in-Err.ensures) ∙ c.loop-i.invariant, c.in_stream.ensures.1)

pub returns-then-p-text : goal.returns-then-p-text
returns-then-p-text c = (form_right c.args.text.now c.args.n c.loop-i.i c.loop-i.p (omega arith) c.if-p-text.true ∙ c.loop-i.invariant, tt)

pub returns : goal.returns
returns c = rw c.number.ensures.0 (let z : c.loop-i.i ≡ c.args.n = omega arith in (ap (λ (k : ℕ). fault 2 (3 + 5 * k) 0) (sym z) ∙ form_left_over c.args.text.now c.args.n c.loop-i.i c.loop-i.p (omega arith) c.if-p-text.false ∙ c.loop-i.invariant, (lit< tt, omega arith)))
