use mathlib.Core.Path.{ap}
use Rattle.machine.specs.Calls.{moving}
use Rattle.roundtrip.proofs.In.{room_for, area_for_lem}
use Rattle.calls.specs.Reply.{Reply}
use borrow.Author.Tests.{not-true, not-false}
use native.Mathlib.Omega.{arith}
use Rattle.calls.proofs.Replies
use Rattle.calls.proofs.MoveReplies
use Rattle.calls.proofs.move_stream.Goals as goal

pub is_equation-requires : goal.is_equation-requires
is_equation-requires c = let a = c.args in let s = a.state.now in let n = a.n in let h = c.requires in room_for s (λ j. omega (arith, c.slice_known-1.given j)) n h

pub returns-then-not-is_equation : goal.returns-then-not-is_equation
returns-then-not-is_equation c = let a = c.args in let s = a.state.now in let n = a.n in let h = c.requires in let p = MoveReplies.move_11 s (λ j. omega (arith, c.slice_known-1.given j)) n h a.stream c.is_equation.result c.is_equation.ensures (not-true c.is_equation.result c.if-not-is_equation.true-raw) in let q = ap (λ (y : Reply). y.buffer) p in record { number = ap (λ (y : Reply). y.number) p; buffer = q; still = Replies.still s (λ j. omega (arith, c.slice_known-1.given j)) n h (moving a.stream) tt (s) q }

pub move_one-requires : goal.move_one-requires
move_one-requires c = let a = c.args in let s = a.state.now in let n = a.n in let h = c.requires in (area_for_lem s (λ j. omega (arith, c.slice_known-1.given j)) n h, MoveReplies.move_there s (λ j. omega (arith, c.slice_known-1.given j)) n h a.stream c.is_equation.result c.is_equation.ensures (not-false c.is_equation.result c.if-not-is_equation.false-raw))

pub returns-then-not-move_one : goal.returns-then-not-move_one
returns-then-not-move_one c = let a = c.args in let s = a.state.now in let n = a.n in let h = c.requires in let p = MoveReplies.move_12 s (λ j. omega (arith, c.slice_known-1.given j)) n h a.stream c.is_equation.result c.is_equation.ensures (not-false c.is_equation.result c.if-not-is_equation.false-raw) c.move_one.result c.move_one.new.state c.move_one.ensures.can c.move_one.ensures.moved (not-true c.move_one.result c.if-not-move_one.true-raw) in let q = ap (λ (y : Reply). y.buffer) p in record { number = ap (λ (y : Reply). y.number) p; buffer = q; still = Replies.still s (λ j. omega (arith, c.slice_known-1.given j)) n h (moving a.stream) tt c.move_one.new.state q }

pub returns : goal.returns
returns c = let a = c.args in let s = a.state.now in let n = a.n in let h = c.requires in let p = MoveReplies.move_done s (λ j. omega (arith, c.slice_known-1.given j)) n h a.stream c.is_equation.result c.is_equation.ensures (not-false c.is_equation.result c.if-not-is_equation.false-raw) c.move_one.result c.move_one.new.state c.move_one.ensures.can c.move_one.ensures.moved (not-false c.move_one.result c.if-not-move_one.false-raw) in let q = ap (λ (y : Reply). y.buffer) p in record { number = ap (λ (y : Reply). y.number) p; buffer = q; still = Replies.still s (λ j. omega (arith, c.slice_known-1.given j)) n h (moving a.stream) tt c.move_one.new.state q }
