-- `block::line` meets its contract.
use Rattle.std.proofs.Common.{arith}
use Rattle.std.proofs.lemmas.Grind.{common_steps}
use Rattle.block.specs.Block.{line, line_up}
use Rattle.block.proofs.Flags.{line_17}
use Rattle.block.proofs.line.Goals as goal

pub returns-then-block-ne-LENGTH : goal.returns-then-block-ne-LENGTH
returns-then-block-ne-LENGTH c = record { number = (line_17 c.args.block.now c.if-block-ne-LENGTH.true).0; up = tt }

pub returns-clause-number : goal.returns-clause-number
unfolding line
returns-clause-number c = grind (arith, common_steps)

pub returns-clause-up : goal.returns-clause-up
unfolding line line_up
returns-clause-up c = grind (arith, common_steps)
