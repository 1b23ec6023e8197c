-- `registers::waits` meets its contract.
use Rattle.registers.proofs.Outputs.{NoneBelow}
use Rattle.registers.proofs.waits.Given as goal

abbrev pub invariant-loop-i : goal.invariant-loop-i
invariant-loop-i l = NoneBelow l.state l.i
