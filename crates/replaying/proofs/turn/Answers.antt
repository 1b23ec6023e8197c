-- `replaying::turn` meets its contract.
use mathlib.Core.Path.{refl, sym, ◌∙◌}
use Rattle.machine.specs.Calls.{running}
use Rattle.decimal.proofs.Puts.{put_none}
use Rattle.calls.specs.Reply.{reply}
use Rattle.replaying.specs.Replay.{all_moves, step}
use Rattle.replaying.proofs.Steps.{ran_state}
use Rattle.replaying.proofs.turn.Goals as goal

pub returns-in-Run : goal.returns-in-Run
unfolding step
returns-in-Run c = rw c.in-Run.is (let q = ran_state c.args.n (reply (running all_moves) c.args.state.now) in record { place = c.run.ensures.place; put = rw q.1 (put_none _ _); state = c.run.ensures.state ∙ sym q.0 })

pub returns-in-Collect : goal.returns-in-Collect
unfolding step
returns-in-Collect c = rw c.in-Collect.is c.collect.ensures

pub returns-in-Rest : goal.returns-in-Rest
unfolding step
returns-in-Rest c = rw c.in-Rest.is (record { place = refl; put = put_none _ _; state = refl })
