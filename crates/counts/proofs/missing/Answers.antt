-- `counts::missing` meets its contract.
use Prim.Native.Nat.{ℕ, ◌%◌, ◌/◌, ◌^◌}
use mathlib.Core.Path.{sym, ap, ◌∙◌}
use Rattle.machine.specs.Calls.{Missing}
use Rattle.roundtrip.proofs.In.{room_for}
use native.Mathlib.Omega.{arith}
use Rattle.counts.proofs.Cases as law
use Rattle.counts.proofs.missing.Goals as goal

pub returns-then-n-i : goal.returns-then-n-i
returns-then-n-i c = let e = sym (law.missing_none c.args.state.now c.args.n c.requires c.args.stream c.if-n-i.true) in record { number = ap (λ (m : Missing). m.number) e; outside = tt; zero = tt }

pub row_at-requires : goal.row_at-requires
row_at-requires c = let r = room_for c.args.state.now (λ j. omega (arith, c.shared_slice_known-1.given j)) c.args.n c.requires in omega arith

pub returns : goal.returns
returns c = let e = sym (law.missing_there c.args.state.now c.args.n c.requires c.args.stream (omega arith) c.row_at.result.now c.row_at.ensures.0) in record { number = ap (λ (m : Missing). m.number) e; outside = ap (λ (x : ℕ). x % 2 ^ 32) c.word_at-both.ensures ∙ ap (λ (m : Missing). m.outside) e; zero = ap (λ (x : ℕ). x / 2 ^ 32) c.word_at-both.ensures ∙ ap (λ (m : Missing). m.divisors) e }
