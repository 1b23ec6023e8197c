-- `registers::perform` meets its contract.
use Prim.Native.Nat.{ℕ}
use mathlib.Core.Path.{◌≡◌, sym, ap, ap₂, ◌∙◌}
use native.Mathlib.Omega.{arith}
use mir.Syntax.{w64}
use mir.Facts.{to_z-of_z}
use Rattle.machine.specs.Calls.{Call, reading, running, collecting}
use Rattle.block.specs.Block.{stream_in}
use Rattle.calls.specs.Reply.{reply_in}
use Rattle.calls.proofs.Answers.{run_done}
use Rattle.registers.specs.Write.{call_in, answered}
use Rattle.registers.proofs.Commands.{call_1, call_2, call_3, answered_other}
use Rattle.registers.proofs.perform.Goals as goal

pub returns-in-1 : goal.returns-in-1
returns-in-1 c = let e : reading c.stream.result c.stamp.result c.value.result ≡ call_in c.args.block.now c.args.command = (λ y. reading (c.stream.ensures y) (c.stamp.ensures y) (c.value.ensures y)) ∙ sym (call_1 c.args.block.now c.args.command c.in-1.is) in let f = ap (reading c.stream.result c.stamp.result) (to_z-of_z {w = w64} {z = c.value.result} (record { sfits = c.value.type_inv })) ∙ e in let h = c.offer_reading.ensures in record { number = h.number ∙ ap (λ (k : Call). (reply_in k c.args.state.now).number) f; state = h.buffer ∙ ap (λ (k : Call). (reply_in k c.args.state.now).buffer) f; block = sym (answered_other c.args.block.now c.args.command (reply_in (call_in c.args.block.now c.args.command) c.args.state.now) (λ q. omega arith)); still = h.still }

pub returns-in-2 : goal.returns-in-2
returns-in-2 c = let e : collecting (stream_in c.args.block.now) ≡ call_in c.args.block.now c.args.command = sym (call_2 c.args.block.now c.args.command c.in-2.is) in let h = c.collect.ensures in record { number = h.number ∙ ap (λ (k : Call). (reply_in k c.args.state.now).number) e; state = h.state ∙ ap (λ (k : Call). (reply_in k c.args.state.now).buffer) e; block = h.block ∙ ap₂ (λ (y : ℕ) (k : Call). answered y (reply_in k c.args.state.now) c.args.block.now) (sym c.in-2.is) e; still = h.still }

pub returns-in_default : goal.returns-in_default
returns-in_default c = let d = c.in_default.in_default-own.rest in let e : running 64 ≡ call_in c.args.block.now c.args.command = sym (call_3 c.args.block.now c.args.command d.0.1 d.1) in let h = c.run.ensures in record { number = sym (run_done 64 c.args.state.now) ∙ ap (λ (k : Call). (reply_in k c.args.state.now).number) e; state = h.buffer ∙ ap (λ (k : Call). (reply_in k c.args.state.now).buffer) e; block = sym (answered_other c.args.block.now c.args.command (reply_in (call_in c.args.block.now c.args.command) c.args.state.now) d.1); still = h.still }
