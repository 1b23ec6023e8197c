use Prim.Native.Nat.{ℕ, ◌+◌, ◌-◌}
use mathlib.Core.Path.{sym, ap, ◌∙◌}
use borrow.Author.Tests.{le-leb, lt-leb}
use native.Mathlib.Nat.{sub-zero}
use lib.ListN.{drop, get_or}
use Rattle.layout.specs.Record.{no_slot, dec_raw}
use Rattle.layout.proofs.Slots.{slots_many}
use Rattle.valid.specs.Valid.{risen}
use native.Mathlib.Omega.{arith}
use Rattle.valid.proofs.Tests
use Rattle.valid.proofs.rises.Goals as goal

pub loop-i-init : goal.loop-i-init
loop-i-init c = (omega arith, simp sub-zero)

pub stamp_at-t-requires : goal.stamp_at-t-requires
stamp_at-t-requires c = (omega arith, omega arith)

pub returns-then-t-low : goal.returns-then-t-low
returns-then-t-low c = let a = c.args in let l = c.loop-i in let sl = (dec_raw a.r.now).slots in let many = slots_many a.r.now in let x = (get_or sl l.i no_slot).stamp in let turn = Tests.risen_turn a.top l.low a.n l.i sl (omega arith) (omega arith) in sym (turn ∙ rw (lt-leb l.low x (omega arith))) ∙ l.invariant.1

pub overflow_add-low : goal.overflow_add-low
overflow_add-low c = omega arith

pub loop-i-preserved : goal.loop-i-preserved
loop-i-preserved c = let a = c.args in let l = c.loop-i in let sl = (dec_raw a.r.now).slots in let many = slots_many a.r.now in let x = (get_or sl l.i no_slot).stamp in let turn = Tests.risen_turn a.top l.low a.n l.i sl (omega arith) (omega arith) in (omega arith, ap (λ (j : ℕ). risen a.top (j + 1) (a.n - (l.i + 1)) (drop (l.i + 1) sl)) c.stamp_at-t.ensures.0 ∙ sym (turn ∙ rw (le-leb l.low x (omega arith))) ∙ l.invariant.1)

pub returns : goal.returns
returns c = let a = c.args in let l = c.loop-i in let sl = (dec_raw a.r.now).slots in sym (Tests.risen_none a.top l.low (a.n - l.i) (drop l.i sl) (omega arith)) ∙ l.invariant.1
