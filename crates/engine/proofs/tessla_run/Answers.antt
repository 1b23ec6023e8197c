-- `engine::tessla_run` meets its contract.
use mathlib.Core.Path.{refl, sym, ◌∙◌}
use Rattle.roundtrip.proofs.In.{tested_state, tested_none}
use Rattle.calls.proofs.Answers.{reply_state, reply_none, run_done}
use Rattle.machine.specs.Calls.{running}
use Rattle.engine.proofs.tessla_run.Goals as goal

pub run-requires : goal.run-requires
run-requires c = tested_state _ _ (sym c.in-Some.is ∙ c.streams.ensures)

pub returns-in-Some : goal.returns-in-Some
returns-in-Some c = let a = c.args in let s = a.state.now in rw (reply_state (running a.n) s (tested_state s _ (sym c.in-Some.is ∙ c.streams.ensures)).is_valid) record { number = sym (run_done a.n s); moves = c.run.ensures.moves; buffer = c.run.ensures.buffer }

pub returns-in-None : goal.returns-in-None
returns-in-None c = let a = c.args in let s = a.state.now in rw (reply_none (running a.n) s (tested_none s (sym c.in-None.is ∙ c.streams.ensures))) record { number = c.number.ensures.0; moves = refl; buffer = refl }
