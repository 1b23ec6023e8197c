-- `calls::move_touched` meets its contract. The invariant: nothing has changed, and no equation below j can move.
use mathlib.Core.Path.{◌≡◌, refl, ap, ◌∙◌}
use mathlib.Core.Logic.{inl, inr}
use mathlib.Core.Bool.{false}
use borrow.Author.Count.{below_more}
use lib.ListN.{length}
use Rattle.machine.specs.Step.{can_move}
use Rattle.roundtrip.specs.In.{state_in}
use native.Mathlib.Omega.{arith}
use Rattle.roundtrip.proofs.In
use Rattle.calls.proofs.Turns
use Rattle.calls.proofs.Searches
use Rattle.calls.proofs.move_touched.Goals as goal
use Rattle.calls.proofs.move_touched.Goals.{else-touched-via-then-touched+else-move_one, else-touched-via-else-touched}

pub row_at-row-requires : goal.row_at-row-requires
row_at-row-requires c = let a = c.args in let s = a.state.now in let n = a.n in let h = c.requires.0 in Searches.row_fits s (λ j. omega (arith, c.slice_known-1.given j)) n h a.s c.requires.1

pub overflow_cast-a : goal.overflow_cast-a
overflow_cast-a c = omega arith

pub overflow_cast-b : goal.overflow_cast-b
overflow_cast-b c = omega arith

pub overflow_cast-last : goal.overflow_cast-last
overflow_cast-last c = let a = c.args in let s = a.state.now in let n = a.n in let h = c.requires.0 in omega (arith, Searches.byte_number s (λ j. omega (arith, c.slice_known-1.given j)) n h a.s c.requires.1)

pub loop-j-init : goal.loop-j-init
loop-j-init c = (refl, λ j h. absurd (omega arith))

pub overflow_cast-i : goal.overflow_cast-i
overflow_cast-i c = omega arith

pub row_at-requires : goal.row_at-requires
row_at-requires c = let a = c.args in let s = a.state.now in let n = a.n in let h = c.requires.0 in let l = c.loop-j in let k = c.requires.1 (omega arith) in let f = In.room_for s (λ j. omega (arith, c.slice_known-1.given j)) n h in rw (ap length l.invariant.0) (omega arith)

pub move_one-requires : goal.move_one-requires
move_one-requires c = let a = c.args in let s = a.state.now in let n = a.n in let h = c.requires.0 in let l = c.loop-j in let k = c.requires.1 (omega arith) in let f = In.area_for_lem s (λ j. omega (arith, c.slice_known-1.given j)) n h in (rw (ap length l.invariant.0) f, omega arith)

pub returns-then-move_one : goal.returns-then-move_one
returns-then-move_one c = let a = c.args in let s = a.state.now in let n = a.n in let h = c.requires.0 in let l = c.loop-j in let k = c.requires.1 (omega arith) in inl (omega arith, Turns.turn_moved s (λ j. omega (arith, c.slice_known-1.given j)) n h l.state c.move_one.new.state l.invariant.0 c.move_one.result l.j (omega arith) c.move_one.ensures.can c.move_one.ensures.moved c.if-move_one.true l.invariant.1)

pub loop-j-preserved : goal.loop-j-preserved
loop-j-preserved c = let a = c.args in let s = a.state.now in let n = a.n in let h = c.requires.0 in let l = c.loop-j in let k = c.requires.1 (omega arith) in let p : (c.else-touched.state ≡ s) × (can_move l.j (state_in s) ≡ false) = elim c.else-touched.branch [ else-touched-via-then-touched+else-move_one x ↦ let p = Turns.turn_stays s (λ j. omega (arith, c.slice_known-1.given j)) n h l.state x.move_one.new.state l.invariant.0 x.move_one.result l.j (omega arith) x.move_one.ensures.can x.move_one.ensures.moved x.if-move_one.false in (x.state-is ∙ p.0, p.1) | else-touched-via-else-touched x ↦ (x.state-is ∙ l.invariant.0, Searches.untouched_rests s (λ j. omega (arith, c.slice_known-1.given j)) n h a.s l.j c.byte_at-a.result c.byte_at-b.result c.row_at-row.result.now c.row_at.result.now l.state k (omega arith) c.requires.2 c.row_at-row.ensures.0 c.byte_at-a.ensures.0 c.byte_at-b.ensures.0 l.invariant.0 c.row_at.ensures.0 (c.touched.ensures x.if-touched.false)) ] in (p.0, below_more _ _ l.invariant.1 p.1)

pub returns : goal.returns
returns c = let l = c.loop-j in inr (refl, (l.invariant.0, λ j h. l.invariant.1 j (omega arith)))
