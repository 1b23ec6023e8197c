-- `calls::move_from` meets its contract. The invariant: nothing has changed, and no equation below i can move.
use mathlib.Core.Path.{refl, ap}
use mathlib.Core.Logic.{inl, inr}
use borrow.Author.Count.{below_more}
use lib.ListN.{length}
use native.Mathlib.Omega.{arith}
use Rattle.roundtrip.proofs.In
use Rattle.calls.proofs.Turns
use Rattle.calls.proofs.move_from.Goals as goal

pub loop-i-init : goal.loop-i-init
loop-i-init c = (refl, c.requires.2)

pub move_one-requires : goal.move_one-requires
move_one-requires c = let a = c.args in let s = a.state.now in let n = a.n in let h = c.requires.0 in let l = c.loop-i in let f = In.area_for_lem s (λ j. omega (arith, c.slice_known-1.given j)) n h in (rw (ap length l.invariant.0) f, omega arith)

pub returns-then-move_one : goal.returns-then-move_one
returns-then-move_one c = let a = c.args in let s = a.state.now in let n = a.n in let h = c.requires.0 in let l = c.loop-i in inl (omega arith, Turns.turn_moved s (λ j. omega (arith, c.slice_known-1.given j)) n h l.state c.move_one.new.state l.invariant.0 c.move_one.result l.i (omega arith) c.move_one.ensures.can c.move_one.ensures.moved c.if-move_one.true l.invariant.1)

pub loop-i-preserved : goal.loop-i-preserved
loop-i-preserved c = let a = c.args in let s = a.state.now in let n = a.n in let h = c.requires.0 in let l = c.loop-i in let p = Turns.turn_stays s (λ j. omega (arith, c.slice_known-1.given j)) n h l.state c.move_one.new.state l.invariant.0 c.move_one.result l.i (omega arith) c.move_one.ensures.can c.move_one.ensures.moved c.if-move_one.false in (p.0, below_more _ _ l.invariant.1 p.1)

pub returns : goal.returns
returns c = let l = c.loop-i in inr (refl, (l.invariant.0, λ j h. l.invariant.1 j (omega arith)))
