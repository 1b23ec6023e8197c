-- `playing::replay_lines` meets its contract.
use mathlib.Core.Path.{refl, sym, ◌∙◌}
use mathlib.Core.Bool.{true≢false}
use mathlib.Core.Logic.{inl, inr}
use Rattle.chunks.proofs.Held.{window_next}
use Rattle.playing.proofs.Hand.{between_none, between_more, between_bad}
use native.Mathlib.Omega.{arith}
use Rattle.playing.proofs.replay_lines.Goals as goal
use Rattle.playing.proofs.replay_lines.Goals.{else-text-from-lt-LINE-via-then-text-from-lt-LINE+else-not-last, else-text-from-lt-LINE-via-else-text-from-lt-LINE}

pub loop-from-init : goal.loop-from-init
loop-from-init g c = (omega arith, refl, between_none c.args.n c.args.text.now c.args.at c.args.last c.args.first c.args.state.now (omega arith))

pub overflow_sub-text : goal.overflow_sub-text
overflow_sub-text g c = omega arith

pub shape_of-state-then-not-last : goal.shape_of-state-then-not-last
shape_of-state-then-not-last g c = c.loop-from.invariant.1

pub returns-then-not-last : goal.returns-then-not-last
returns-then-not-last g c = (c.loop-from.invariant.0, λ q. absurd (true≢false (sym q ∙ c.if-not-last.true)), omega arith, c.loop-from.invariant.2)

pub replay_line-requires : goal.replay_line-requires
replay_line-requires g c = let e = c.loop-from.invariant.1 in let h = c.requires.0 in omega arith

pub shape_of-state-in_err-next : goal.shape_of-state-in_err-next
shape_of-state-in_err-next g c = c.replay_line.auto.state ∙ c.loop-from.invariant.1

pub returns-in_err-next : goal.returns-in_err-next
returns-in_err-next g c = rw c.from_residual.ensures (between_bad c.loop-from-test.true (elim c.else-text-from-lt-LINE.branch [ else-text-from-lt-LINE-via-then-text-from-lt-LINE+else-not-last w ↦ inr (w.if-not-last.false) | else-text-from-lt-LINE-via-else-text-from-lt-LINE w ↦ inl (let z = w.if-text-from-lt-LINE in omega arith) ]) c.loop-from.invariant.2 (sym c.in_err-next.ensures.found) c.in_err-next.ensures.follows)

pub loop-from-smaller : goal.loop-from-smaller
loop-from-smaller g c = let w = window_next c.args.text.now c.loop-from.from c.loop-from.invariant.0 c.in_ok-next.field-0-0 c.in_ok-next.next (sym c.in_ok-next.ensures.found) in let a = w.0 in let b = w.1 in omega arith

pub loop-from-preserved : goal.loop-from-preserved
loop-from-preserved g c = let w = window_next c.args.text.now c.loop-from.from c.loop-from.invariant.0 c.in_ok-next.field-0-0 c.in_ok-next.next (sym c.in_ok-next.ensures.found) in (w.1, c.replay_line.auto.state ∙ c.loop-from.invariant.1, between_more c.loop-from.invariant.0 (elim c.else-text-from-lt-LINE.branch [ else-text-from-lt-LINE-via-then-text-from-lt-LINE+else-not-last w ↦ inr (w.if-not-last.false) | else-text-from-lt-LINE-via-else-text-from-lt-LINE w ↦ inl (let z = w.if-text-from-lt-LINE in omega arith) ]) c.loop-from.invariant.2 c.in_ok-next.field-0-0 c.in_ok-next.next (sym c.in_ok-next.ensures.found) w.1 c.next_line-line.ensures c.in_ok-next.ensures.follows)

pub shape_of-state : goal.shape_of-state
shape_of-state g c = c.loop-from.invariant.1

pub returns : goal.returns
returns g c = let h = c.loop-from.invariant.0 in (c.loop-from.invariant.0, λ q. omega arith, omega arith, c.loop-from.invariant.2)
