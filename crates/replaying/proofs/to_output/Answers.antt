-- `replaying::to_output` meets its contract.
use Prim.Native.Nat.{ℕ, ◌<◌, ◌≤◌}
use mathlib.Core.Path.{◌≡◌, sym, ap, ◌∙◌}
use Rattle.replaying.specs.declared.Place.TheVariants.{Collect}
use Rattle.replaying.specs.Replay.{round_after, next_output}
use Rattle.replaying.proofs.Steps.{to_next_lem, to_last}
use native.Mathlib.Omega.{arith}
use Rattle.replaying.proofs.to_output.Goals as goal

pub returns-then-i-n : goal.returns-then-i-n
returns-then-i-n c = let e : c.next_output-i.result ≡ next_output c.args.n c.args.from c.args.state.now = c.next_output-i.ensures in let h : next_output c.args.n c.args.from c.args.state.now < c.args.n = omega arith in ap (λ (j : ℕ). Collect j c.args.busy) e ∙ to_next_lem c.args.n c.args.from c.args.busy c.args.state.now h

pub returns-then-busy : goal.returns-then-busy
returns-then-busy c = let e : c.next_output-i.result ≡ next_output c.args.n c.args.from c.args.state.now = c.next_output-i.ensures in let h : c.args.n ≤ next_output c.args.n c.args.from c.args.state.now = omega arith in ap round_after (sym c.if-busy.true) ∙ to_last c.args.n c.args.from c.args.busy c.args.state.now h

pub returns : goal.returns
returns c = let e : c.next_output-i.result ≡ next_output c.args.n c.args.from c.args.state.now = c.next_output-i.ensures in let h : c.args.n ≤ next_output c.args.n c.args.from c.args.state.now = omega arith in ap round_after (sym c.if-busy.false) ∙ to_last c.args.n c.args.from c.args.busy c.args.state.now h
