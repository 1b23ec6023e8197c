-- `valid::streams_in` meets its contract.
use native.Mathlib.Nat.{sub-zero, zero-add}
use native.Mathlib.Omega.{arith}
use Rattle.valid.proofs.Tests
use Rattle.valid.proofs.streams_in.Goals as goal

pub loop-i-init : goal.loop-i-init
loop-i-init c = simp (sub-zero, zero-add)

pub overflow_mul-i : goal.overflow_mul-i
overflow_mul-i c = omega arith

pub bounds-state-i : goal.bounds-state-i
bounds-state-i c = omega arith

pub returns-then-state-i-eq0 : goal.returns-then-state-i-eq0
returns-then-state-i-eq0 c = let a = c.args in let l = c.loop-i in (Tests.in_stop a.most l.i a.state.now l.invariant (omega arith) c.if-state-i-eq0.true, omega arith)

pub loop-i-preserved : goal.loop-i-preserved
loop-i-preserved c = let a = c.args in let l = c.loop-i in Tests.in_go a.most l.i a.state.now l.invariant (omega arith) c.if-state-i-eq0.false

pub returns : goal.returns
returns c = let a = c.args in let l = c.loop-i in (Tests.in_end a.most l.i a.state.now l.invariant (omega arith), omega arith)
