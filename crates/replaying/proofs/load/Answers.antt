-- `replaying::load` meets its contract.
use mathlib.Core.Path.{sym}
use Rattle.replaying.proofs.load.Goals as goal

pub returns : goal.returns
returns c = record { number = c.tessla_load-number.ensures.number; put = rw (sym c.tessla_load-number.ensures.number) c.put_refusal-end.ensures; state = c.tessla_load-number.ensures.buffer }
