-- `counting::none` meets its contract.
use Rattle.counting.proofs.Laws as law
use Rattle.counting.proofs.none.Goals as goal

pub returns : goal.returns
returns c = law.none_is
