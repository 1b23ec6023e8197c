use mathlib.Core.Path.{ap, refl, ◌≡◌, ◌∙◌}
use Rattle.machine.specs.Calls.{collecting}
use Rattle.refusal.specs.Numbers.{number_of, code_of}
use Rattle.std.proofs.lemmas.Result.{err_from_is_err_and}
use Rattle.roundtrip.proofs.In.{room_for}
use Rattle.calls.specs.Reply.{Reply}
use mir.Syntax.{w64}
use mir.Facts.{to_z-of_z}
use native.Mathlib.Omega.{arith}
use Rattle.calls.proofs.Replies
use Rattle.refusal.proofs.Laws.{some_number}
use Rattle.calls.proofs.collect.Goals as goal

pub check_collect-requires : goal.check_collect-requires
check_collect-requires c = let a = c.args in room_for a.state.now (λ j. omega (arith, c.slice_known-1.given j)) a.n c.requires

pub returns-in_err-check_collect : goal.returns-in_err-check_collect
returns-in_err-check_collect c = let a = c.args in let s = a.state.now in let n = a.n in let h = c.requires in let z = c.in_err-check_collect in let p = err_from_is_err_and c.from_residual.result c.from_residual.ensures.1 in let k : code_of c.from_residual.result ≡ number_of z.field-0.0 = rw (p.1, p.2) refl in let r = Replies.collect_refused s (λ j. omega (arith, c.slice_known-1.given j)) n h a.stream (number_of z.field-0.0) z.ensures (some_number z.field-0.0) in let q = ap (λ (y : Reply). y.buffer) r in record { number = k ∙ ap (λ (y : Reply). y.number) r; stamp = rw p.1 tt; value = rw p.1 tt; buffer = q; still = Replies.still s (λ j. omega (arith, c.slice_known-1.given j)) n h (collecting a.stream) tt s q }

pub oldest-j-requires : goal.oldest-j-requires
oldest-j-requires c = let a = c.args in let s = a.state.now in let n = a.n in let h = c.requires in (room_for s (λ j. omega (arith, c.slice_known-1.given j)) n h, Replies.collect_there s (λ j. omega (arith, c.slice_known-1.given j)) n h a.stream 0 c.in_ok-check_collect.ensures refl)

pub stamp_of-stamp-requires : goal.stamp_of-stamp-requires
stamp_of-stamp-requires c = let a = c.args in let s = a.state.now in let n = a.n in let h = c.requires in (room_for s (λ j. omega (arith, c.slice_known-1.given j)) n h, Replies.collect_there s (λ j. omega (arith, c.slice_known-1.given j)) n h a.stream 0 c.in_ok-check_collect.ensures refl, Replies.collect_inside s (λ j. omega (arith, c.slice_known-1.given j)) n h a.stream 0 c.in_ok-check_collect.ensures refl c.oldest-j.result c.oldest-j.ensures.0)

pub value_of-requires : goal.value_of-requires
value_of-requires c = let a = c.args in let s = a.state.now in let n = a.n in let h = c.requires in (room_for s (λ j. omega (arith, c.slice_known-1.given j)) n h, Replies.collect_there s (λ j. omega (arith, c.slice_known-1.given j)) n h a.stream 0 c.in_ok-check_collect.ensures refl, Replies.collect_inside s (λ j. omega (arith, c.slice_known-1.given j)) n h a.stream 0 c.in_ok-check_collect.ensures refl c.oldest-j.result c.oldest-j.ensures.0)

pub collect-requires : goal.collect-requires
collect-requires c = let a = c.args in let s = a.state.now in let n = a.n in let h = c.requires in (room_for s (λ j. omega (arith, c.slice_known-1.given j)) n h, Replies.collect_there s (λ j. omega (arith, c.slice_known-1.given j)) n h a.stream 0 c.in_ok-check_collect.ensures refl, Replies.collect_inside s (λ j. omega (arith, c.slice_known-1.given j)) n h a.stream 0 c.in_ok-check_collect.ensures refl c.oldest-j.result c.oldest-j.ensures.0)

pub returns : goal.returns
returns c = let a = c.args in let s = a.state.now in let n = a.n in let h = c.requires in let p = Replies.collect_finished s (λ j. omega (arith, c.slice_known-1.given j)) n h a.stream 0 c.in_ok-check_collect.ensures refl c.oldest-j.result c.oldest-j.ensures.0 c.stamp_of-stamp.result c.of_bits-value.result c.value_of.result c.collect.new.state c.stamp_of-stamp.ensures c.of_bits-value.ensures c.value_of.ensures c.collect.ensures in let q = ap (λ (y : Reply). y.buffer) p in record { number = ap (λ (y : Reply). y.number) p; stamp = ap (λ (y : Reply). y.stamp) p; value = to_z-of_z {w = w64} {z = c.of_bits-value.result} (record { sfits = c.of_bits-value.type_inv }) ∙ ap (λ (y : Reply). y.value) p; buffer = q; still = Replies.still s (λ j. omega (arith, c.slice_known-1.given j)) n h (collecting a.stream) tt c.collect.new.state q }
