-- Each case ends behind where it starts.
use Rattle.std.proofs.Common.{◌≤◌, ◌-◌, length}
use Rattle.texts.proofs.run.Given as goal

abbrev pub invariant-loop-at : goal.invariant-loop-at
invariant-loop-at g l = l.at ≤ length l.table

abbrev pub decreases-loop-at : goal.decreases-loop-at
decreases-loop-at g l = length l.table - l.at
