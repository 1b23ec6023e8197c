-- `registers::collect` meets its contract.
use Prim.Native.Nat.{ℕ}
use mathlib.Core.Path.{◌≡◌, refl, sym, ap, ap₂, ◌∙◌}
use native.Mathlib.Omega.{arith}
use lib.IntN.{ℤ}
use mir.Syntax.{w64}
use mir.Facts.{to_z-of_z}
use Rattle.machine.specs.Calls.{collecting}
use Rattle.block.specs.Block.{stream_in, filled}
use Rattle.calls.specs.Reply.{Reply, reply_in}
use Rattle.refusal.proofs.Laws.{some_number}
use Rattle.registers.proofs.Commands.{value_fits, answered_refused, answered_done}
use Rattle.registers.proofs.collect.Goals as goal

pub returns-in_err-stamp-clause-block : goal.returns-in_err-stamp-clause-block
returns-in_err-stamp-clause-block c = let z = c.in_err-stamp in sym (answered_refused c.args.block.now 2 (reply_in (collecting (stream_in c.args.block.now)) c.args.state.now) (λ q. some_number z.field-0.0 (z.ensures.number ∙ ap (λ (i : ℕ). (reply_in (collecting i) c.args.state.now).number) c.stream.ensures ∙ q)))

pub returns : goal.returns
returns c = let b = c.args.block.now in let s = c.args.state.now in let a = ap (λ (i : ℕ). reply_in (collecting i) s) c.stream.ensures in let z = c.in_ok-stamp in let h = z.ensures in let k : 0 ≡ (reply_in (collecting (stream_in b)) s).number = h.number ∙ ap (λ (y : Reply). y.number) a in record { number = k; state = h.buffer ∙ ap (λ (y : Reply). y.buffer) a; block = c.fill.ensures ∙ ap₂ (λ (t : ℕ) (v : ℤ). filled t v b) (h.stamp ∙ ap (λ (y : Reply). y.stamp) a) (to_z-of_z {w = w64} {z = z.value} (value_fits s (λ j. omega (arith, c.slice_known-1.given j)) c.args.n c.requires.0 c.stream.result z.value h.value) ∙ h.value ∙ ap (λ (y : Reply). y.value) a) ∙ sym (answered_done b 2 (reply_in (collecting (stream_in b)) s) refl (sym k)); still = h.still }
