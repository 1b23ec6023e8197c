-- `engine::tessla_collect` meets its contract.
use mir.Syntax.{w64}
use mir.Facts.{to_z-of_z}
use Rattle.registers.proofs.Commands.{value_fits}
use mathlib.Core.Path.{refl, sym, ap, ◌∙◌}
use native.Mathlib.Omega.{arith}
use Rattle.roundtrip.proofs.In.{tested_state, tested_none}
use Rattle.calls.specs.Reply.{Reply}
use Rattle.calls.proofs.Answers.{reply_state, reply_none, refused_plain}
use Rattle.refusal.proofs.Laws.{some_number}
use Rattle.machine.specs.Calls.{collecting}
use Rattle.engine.proofs.tessla_collect.Goals as goal

pub collect-requires : goal.collect-requires
collect-requires c = tested_state _ _ (sym c.in-Some.is ∙ c.streams.ensures)

pub returns-in-Ok : goal.returns-in-Ok
returns-in-Ok c = let a = c.args in let s = a.state.now in let h = c.in-Ok.ensures in let t = tested_state s _ (sym c.in-Some.is ∙ c.streams.ensures) in let same = to_z-of_z {w = w64} {z = c.in-Ok.event} (value_fits s (λ j. omega (arith, c.slice_known-1.given j)) _ t a.stream c.in-Ok.event h.value) in rw (reply_state (collecting a.stream) s t.is_valid) record { number = h.number; stamp = h.stamp; value = same ∙ h.value; buffer = h.buffer }

pub returns-in-Err : goal.returns-in-Err
returns-in-Err c = let a = c.args in let s = a.state.now in let h = c.in-Err.ensures in let e = sym (reply_state (collecting a.stream) s (tested_state s _ (sym c.in-Some.is ∙ c.streams.ensures)).is_valid) in let k = h.number ∙ ap (λ (y : Reply). y.number) e in let p = sym (refused_plain (collecting a.stream) s (λ j. omega (arith, c.slice_known-1.given j)) (λ q. some_number c.in-Err.reason (k ∙ q))) in record { number = c.number.ensures.0 ∙ k; stamp = ap (λ (y : Reply). y.stamp) p; value = ap (λ (y : Reply). y.value) p; buffer = h.buffer ∙ ap (λ (y : Reply). y.buffer) e }

pub returns-in-None : goal.returns-in-None
returns-in-None c = let a = c.args in rw (reply_none (collecting a.stream) a.state.now (tested_none a.state.now (sym c.in-None.is ∙ c.streams.ensures))) record { number = c.number-in-None.ensures.0; stamp = refl; value = refl; buffer = refl }
