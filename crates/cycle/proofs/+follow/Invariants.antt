-- `cycle::follow` meets its contract.
use Rattle.cycle.proofs.+follow.Given as goal

abbrev pub decreases-follow : goal.decreases-follow
decreases-follow l = l.depth
