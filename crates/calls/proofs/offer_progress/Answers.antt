use mathlib.Core.Path.{ap, refl, ◌≡◌, ◌∙◌}
use Rattle.machine.specs.Calls.{progress}
use Rattle.refusal.specs.Numbers.{number_of, code_of}
use Rattle.std.proofs.lemmas.Result.{err_from_is_err_and}
use Rattle.roundtrip.proofs.In.{room_for}
use Rattle.calls.specs.Reply.{Reply}
use native.Mathlib.Omega.{arith}
use Rattle.calls.proofs.Replies
use Rattle.refusal.proofs.Laws.{some_number}
use Rattle.calls.proofs.offer_progress.Goals as goal

pub check_progress-requires : goal.check_progress-requires
check_progress-requires c = let a = c.args in room_for a.state.now (λ j. omega (arith, c.slice_known-1.given j)) a.n c.requires

pub returns-in_err-check_progress : goal.returns-in_err-check_progress
returns-in_err-check_progress c = let a = c.args in let s = a.state.now in let n = a.n in let h = c.requires in let z = c.in_err-check_progress in let p = err_from_is_err_and c.from_residual.result c.from_residual.ensures.1 in let k : code_of c.from_residual.result ≡ number_of z.field-0.0 = rw (p.1, p.2) refl in let r = Replies.progress_refused s (λ j. omega (arith, c.slice_known-1.given j)) n h a.stream a.bound (number_of z.field-0.0) z.ensures (some_number z.field-0.0) in let q = ap (λ (y : Reply). y.buffer) r in record { number = k ∙ ap (λ (y : Reply). y.number) r; buffer = q; still = Replies.still s (λ j. omega (arith, c.slice_known-1.given j)) n h (progress a.stream a.bound) tt s q }

pub progress-requires : goal.progress-requires
progress-requires c = let a = c.args in let s = a.state.now in let n = a.n in let h = c.requires in (room_for s (λ j. omega (arith, c.slice_known-1.given j)) n h, Replies.progress_there s (λ j. omega (arith, c.slice_known-1.given j)) n h a.stream a.bound 0 c.in_ok-check_progress.ensures refl)

pub returns : goal.returns
returns c = let a = c.args in let s = a.state.now in let n = a.n in let h = c.requires in let p = Replies.progress_finished s (λ j. omega (arith, c.slice_known-1.given j)) n h a.stream a.bound 0 c.in_ok-check_progress.ensures refl c.progress.new.state c.progress.ensures in let q = ap (λ (y : Reply). y.buffer) p in record { number = ap (λ (y : Reply). y.number) p; buffer = q; still = Replies.still s (λ j. omega (arith, c.slice_known-1.given j)) n h (progress a.stream a.bound) tt c.progress.new.state q }
