use Rattle.readers.proofs.Rounds.{Downward}
use Rattle.readers.proofs.least_reader.Given as goal

abbrev pub invariant-loop-i : goal.invariant-loop-i
invariant-loop-i l = Downward l.s l.n l.state l.least l.i

abbrev pub decreases-loop-i : goal.decreases-loop-i
decreases-loop-i l = l.i
