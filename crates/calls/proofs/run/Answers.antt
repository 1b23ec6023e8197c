-- `calls::run` meets its contract. The invariant: the moves made and the run that is left are the whole run, and before the
-- stream that moved last only what its move touched can move.
use mathlib.Core.Path.{refl, ◌∙◌}
use Rattle.machine.proofs.Touched.{none_still}
use Rattle.roundtrip.specs.In.{state_in}
use native.Mathlib.Omega.{arith}
use Rattle.calls.proofs.Turns
use Rattle.calls.proofs.Replies
use Rattle.calls.proofs.run.Goals as goal

pub loop-made-init : goal.loop-made-init
loop-made-init c = let a = c.args in (refl, (λ j. omega (arith, c.slice_known-1.given j)), c.requires, Turns.left_start a.most a.state.now, (λ h. absurd (omega arith)), none_still (state_in a.state.now))

pub move_next-s-requires : goal.move_next-s-requires
move_next-s-requires c = let l = c.loop-made in (l.invariant.2, l.invariant.4, l.invariant.5)

pub returns-then-s-n : goal.returns-then-s-n
returns-then-s-n c = let a = c.args in let s₀ = a.state.now in let l = c.loop-made in let q = Turns.none_found a.n c.move_next-s.result l.state c.move_next-s.new.state c.move_next-s.ensures (omega arith) in let r = Replies.run_finished s₀ (λ j. omega (arith, c.slice_known-1.given j)) a.n c.requires a.most l.made c.move_next-s.new.state (Turns.run_ended a.most l.made a.n s₀ l.state c.move_next-s.new.state l.invariant.1 l.invariant.2 l.invariant.3 q l.invariant.0) in record { moves = r.0; buffer = r.1; still = r.2 }

pub loop-made-preserved : goal.loop-made-preserved
loop-made-preserved c = let a = c.args in let s₀ = a.state.now in let l = c.loop-made in let m = Turns.one_found a.n c.move_next-s.result l.state c.move_next-s.new.state c.move_next-s.ensures c.if-s-n.false in (Turns.next_length_is a.most l.made a.n s₀ l.state c.move_next-s.new.state l.invariant.1 l.invariant.2 l.invariant.3 (omega arith) c.move_next-s.result m.0 m.1 ∙ l.invariant.0, (λ j. omega (arith, c.slice_known-in-loop-made-1.given j)), Turns.next_is_state a.most l.made a.n s₀ l.state c.move_next-s.new.state l.invariant.1 l.invariant.2 l.invariant.3 (omega arith) c.move_next-s.result m.0 m.1, Turns.next_left a.most l.made a.n s₀ l.state c.move_next-s.new.state l.invariant.1 l.invariant.2 l.invariant.3 (omega arith) c.move_next-s.result m.0 m.1, (λ h. m.0), Turns.next_still a.most l.made a.n s₀ l.state c.move_next-s.new.state l.invariant.1 l.invariant.2 l.invariant.3 (omega arith) c.move_next-s.result m.0 m.1)

pub returns : goal.returns
returns c = let a = c.args in let s₀ = a.state.now in let l = c.loop-made in let r = Replies.run_finished s₀ (λ j. omega (arith, c.slice_known-1.given j)) a.n c.requires a.most l.made l.state (Turns.run_done a.most l.made a.n s₀ l.state l.invariant.1 l.invariant.2 l.invariant.3 (omega arith) (omega arith) l.invariant.0) in record { moves = omega (arith, r.0); buffer = r.1; still = r.2 }
