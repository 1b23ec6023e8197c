-- `playing::replay_trace` meets its contract.
use mathlib.Core.Path.{refl, sym, ◌∙◌}
use Rattle.std.specs.Prelude.{Some}
use Rattle.playing.specs.Hand.{hand, Advances}
use Rattle.playing.proofs.Hand.{onward_none, onward_then, onward_trailed, ended_trailed}
use native.Mathlib.Omega.{arith}
use borrow.Author.Rules.{rules}
use Rattle.playing.proofs.replay_trace.Goals as goal

pub loop-reads-init : goal.loop-reads-init
loop-reads-init g c = (omega arith, omega arith, search rules, refl, onward_none c.args.n 1 c.args.state.now _ (omega arith) refl)

pub slice_bounds-advance-end : goal.slice_bounds-advance-end
slice_bounds-advance-end g c = c.loop-reads.invariant.2

pub advance-requires : goal.advance-requires
advance-requires g c = (let e = c.loop-reads.invariant.3 in let h = c.requires in omega arith, c.loop-reads.invariant.0, c.loop-reads.invariant.1)

pub shape_of-state-in_default : goal.shape_of-state-in_default
shape_of-state-in_default g c = c.advance.auto.state ∙ c.loop-reads.invariant.3

pub returns-in_default : goal.returns-in_default
returns-in_default g c = ended_trailed c.loop-reads.invariant.4 (rw c.in_default.is at c.advance.ensures)

pub overflow_sub-reads : goal.overflow_sub-reads
overflow_sub-reads g c = omega arith

pub loop-reads-smaller : goal.loop-reads-smaller
loop-reads-smaller g c = omega arith

pub loop-reads-preserved : goal.loop-reads-preserved
loop-reads-preserved g c = let a : Advances c.args.n c.loop-reads.left.line (hand c.loop-reads.buffer c.loop-reads.left.from c.loop-reads.left.end) c.loop-reads.state (Some c.in-Some.next) c.advance.new.buffer c.advance.new.state = (rw c.in-Some.is at c.advance.ensures) in (a.0, a.1, c.loop-reads.invariant.2 ∙ sym c.advance.auto.buffer, c.advance.auto.state ∙ c.loop-reads.invariant.3, onward_then c.loop-reads.invariant.4 a.2)

pub shape_of-state : goal.shape_of-state
shape_of-state g c = c.loop-reads.invariant.3

pub returns : goal.returns
returns g c = onward_trailed c.loop-reads.invariant.4
