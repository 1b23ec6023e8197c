-- `plan::check` meets its contract.
use mathlib.Core.Path.{sym}
use Rattle.render.proofs.Heads.{head_fits}
use Rattle.plan.proofs.check.Goals as goal

pub check_streams-requires : goal.check_streams-requires
check_streams-requires c = (head_fits c.args.most c.args.text.now c.in_ok-n.n c.in_ok-n.at (sym c.in_ok-n.ensures), c.requires)
