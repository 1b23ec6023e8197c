use mathlib.Core.Path.{ap, refl, ◌≡◌, ◌∙◌}
use Rattle.machine.specs.Calls.{reading}
use Rattle.refusal.specs.Numbers.{number_of, code_of}
use Rattle.std.proofs.lemmas.Result.{err_from_is_err_and}
use Rattle.roundtrip.proofs.In.{room_for}
use Rattle.calls.specs.Reply.{Reply}
use mir.Syntax.{w64}
use mir.Val.{of_z}
use mir.Facts.{to_z-of_z}
use native.Mathlib.Omega.{arith}
use Rattle.calls.proofs.Replies
use Rattle.refusal.proofs.Laws.{some_number}
use Rattle.calls.proofs.offer_reading.Goals as goal

pub check_reading-requires : goal.check_reading-requires
check_reading-requires c = let a = c.args in room_for a.state.now (λ j. omega (arith, c.slice_known-1.given j)) a.n c.requires

pub returns-in_err-check_reading : goal.returns-in_err-check_reading
returns-in_err-check_reading c = let a = c.args in let s = a.state.now in let n = a.n in let h = c.requires in let z = c.in_err-check_reading in let p = err_from_is_err_and c.from_residual.result c.from_residual.ensures.1 in let k : code_of c.from_residual.result ≡ number_of z.field-0.0 = rw (p.1, p.2) refl in let r = Replies.reading_refused s (λ j. omega (arith, c.slice_known-1.given j)) n h a.stream a.stamp a.value (number_of z.field-0.0) z.ensures (some_number z.field-0.0) in let q = ap (λ (y : Reply). y.buffer) r in record { number = k ∙ ap (λ (y : Reply). y.number) r; buffer = q; still = Replies.still s (λ j. omega (arith, c.slice_known-1.given j)) n h (reading a.stream a.stamp a.value) (omega (arith, c.ranges.stamp), c.ranges.value.sfits) s q }

pub offer-requires : goal.offer-requires
offer-requires c = let a = c.args in let s = a.state.now in let n = a.n in let h = c.requires in (room_for s (λ j. omega (arith, c.slice_known-1.given j)) n h, Replies.reading_there s (λ j. omega (arith, c.slice_known-1.given j)) n h a.stream a.stamp a.value 0 c.in_ok-check_reading.ensures refl)

pub returns : goal.returns
returns c = let a = c.args in let s = a.state.now in let n = a.n in let h = c.requires in let v = a.value in let bits : c.bits.result ≡ of_z w64 v = c.bits.ensures ∙ ap (of_z w64) (to_z-of_z c.ranges.value) in let p = Replies.reading_finished s (λ j. omega (arith, c.slice_known-1.given j)) n h a.stream a.stamp a.value 0 c.in_ok-check_reading.ensures refl c.offer.new.state (rw bits at c.offer.ensures) in let q = ap (λ (y : Reply). y.buffer) p in record { number = ap (λ (y : Reply). y.number) p; buffer = q; still = Replies.still s (λ j. omega (arith, c.slice_known-1.given j)) n h (reading a.stream a.stamp a.value) (omega (arith, c.ranges.stamp), c.ranges.value.sfits) c.offer.new.state q }
