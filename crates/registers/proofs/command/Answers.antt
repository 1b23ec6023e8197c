-- `registers::command` meets its contract.
use mathlib.Core.Path.{sym, ◌∙◌}
use Rattle.roundtrip.proofs.In.{tested_state, tested_none}
use Rattle.refusal.specs.Numbers.{code_of}
use Rattle.registers.proofs.Commands.{command_state, command_none}
use Rattle.registers.proofs.command.Goals as goal

pub perform-outcome-requires : goal.perform-outcome-requires
perform-outcome-requires c = (tested_state _ _ (sym c.in-Some.is ∙ c.streams.ensures), c.requires)

pub returns-in-Some : goal.returns-in-Some
returns-in-Some c = let h = c.perform-outcome.ensures in let r = command_state c.args.state.now c.args.block.now c.args.command _ (tested_state _ _ (sym c.in-Some.is ∙ c.streams.ensures)) (code_of c.perform-outcome.result) c.perform-outcome.new.block c.end_command.new.block c.perform-outcome.new.state c.waits.result h.number h.state h.block c.waits.ensures (rw c.code.ensures.0 at c.end_command.ensures) in record { number = r.0; block = r.1.0; state = r.1.1 }

pub returns-in-None : goal.returns-in-None
returns-in-None c = let r = command_none c.args.state.now c.args.block.now c.args.command c.end_command-in-None.new.block (tested_none c.args.state.now (sym c.in-None.is ∙ c.streams.ensures)) (rw c.number.ensures.0 at c.end_command-in-None.ensures) in record { number = r.0; block = r.1.0; state = r.1.1 }
