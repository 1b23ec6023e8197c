-- `playing::play` meets its contract.
use Rattle.playing.proofs.Hand.{trailed_none}
use Rattle.playing.proofs.Whole.{settled_played}
use Rattle.playing.proofs.play.Goals as goal

pub returns-in_default : goal.returns-in_default
returns-in_default g c = settled_played c.settle.ensures (trailed_none c.args.n c.settle.new.state)

pub returns : goal.returns
returns g c = settled_played c.settle.ensures c.replay_trace.ensures
