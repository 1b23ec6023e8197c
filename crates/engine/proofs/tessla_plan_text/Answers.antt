-- `engine::tessla_plan_text` meets its contract.
use mathlib.Core.Path.{refl, sym, ap, ◌∙◌}
use Rattle.roundtrip.proofs.In.{tested_state, tested_none}
use Rattle.refusal.proofs.Laws.{some_number}
use Rattle.writing.specs.Text.{TextReply}
use Rattle.writing.proofs.Cases.{text_state, text_none, text_refused}
use Rattle.engine.proofs.tessla_plan_text.Goals as goal

pub write-requires : goal.write-requires
write-requires c = tested_state _ _ (sym c.in-Some.is ∙ c.streams.ensures)

pub returns-in-Ok : goal.returns-in-Ok
returns-in-Ok c = let s = c.args.state.now in let h = c.in-Ok.ensures in rw (text_state s c.args.text.now (tested_state s _ (sym c.in-Some.is ∙ c.streams.ensures)).is_valid) record { number = h.number; length = h.length; buffer = h.buffer }

pub returns-in-Err : goal.returns-in-Err
returns-in-Err c = let s = c.args.state.now in let b = c.args.text.now in let h = c.in-Err.ensures in let e = sym (text_state s b (tested_state s _ (sym c.in-Some.is ∙ c.streams.ensures)).is_valid) in let k = h.number ∙ ap (λ (r : TextReply). r.number) e in record { number = c.number.ensures.0 ∙ k; length = sym (text_refused s b (λ q. some_number c.in-Err.reason (k ∙ q))).0; buffer = h.buffer ∙ ap (λ (r : TextReply). r.buffer) e }

pub returns-in-None : goal.returns-in-None
returns-in-None c = let s = c.args.state.now in rw (text_none s c.args.text.now (tested_none s (sym c.in-None.is ∙ c.streams.ensures))) record { number = c.number-in-None.ensures.0; length = refl; buffer = refl }
