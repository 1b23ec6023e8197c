-- `engine::tessla_move` meets its contract.
use mathlib.Core.Path.{refl, sym, ◌∙◌}
use Rattle.roundtrip.proofs.In.{tested_state, tested_none}
use Rattle.calls.proofs.Answers.{reply_state, reply_none}
use Rattle.machine.specs.Calls.{moving}
use Rattle.engine.proofs.tessla_move.Goals as goal

pub move_stream-requires : goal.move_stream-requires
move_stream-requires c = tested_state _ _ (sym c.in-Some.is ∙ c.streams.ensures)

pub returns-in-Some : goal.returns-in-Some
returns-in-Some c = let a = c.args in let s = a.state.now in rw (reply_state (moving a.stream) s (tested_state s _ (sym c.in-Some.is ∙ c.streams.ensures)).is_valid) record { number = c.code.ensures.0 ∙ c.move_stream.ensures.number; buffer = c.move_stream.ensures.buffer }

pub returns-in-None : goal.returns-in-None
returns-in-None c = let a = c.args in let s = a.state.now in rw (reply_none (moving a.stream) s (tested_none s (sym c.in-None.is ∙ c.streams.ensures))) record { number = c.number.ensures.0; buffer = refl }
