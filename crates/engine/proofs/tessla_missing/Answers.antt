-- `engine::tessla_missing` meets its contract.
use mathlib.Core.Path.{refl, sym, ap, ◌∙◌}
use Rattle.roundtrip.proofs.In.{tested_state, tested_none}
use Rattle.machine.specs.Calls.{Missing}
use Rattle.refusal.proofs.Laws.{some_number}
use Rattle.counts.proofs.Cases.{reply_state, reply_none, missing_refused}
use Rattle.engine.proofs.tessla_missing.Goals as goal

pub missing-requires : goal.missing-requires
missing-requires c = tested_state _ _ (sym c.in-Some.is ∙ c.streams.ensures)

pub returns-in-Ok : goal.returns-in-Ok
returns-in-Ok c = let s = c.args.state.now in let h = c.in-Ok.ensures in rw (reply_state c.args.stream s (tested_state s _ (sym c.in-Some.is ∙ c.streams.ensures)).is_valid) record { number = h.number; outside = h.outside; zero = h.zero }

pub returns-in-Err : goal.returns-in-Err
returns-in-Err c = let i = c.args.stream in let s = c.args.state.now in let k = c.in-Err.ensures.number ∙ ap (λ (m : Missing). m.number) (sym (reply_state i s (tested_state s _ (sym c.in-Some.is ∙ c.streams.ensures)).is_valid)) in let p = sym (missing_refused i s (λ q. some_number c.in-Err.reason (k ∙ q))) in record { number = c.number.ensures.0 ∙ k; outside = ap (λ (m : Missing). m.outside) p; zero = ap (λ (m : Missing). m.divisors) p }

pub returns-in-None : goal.returns-in-None
returns-in-None c = let s = c.args.state.now in rw (reply_none c.args.stream s (tested_none s (sym c.in-None.is ∙ c.streams.ensures))) record { number = c.number-in-None.ensures.0; outside = refl; zero = refl }
