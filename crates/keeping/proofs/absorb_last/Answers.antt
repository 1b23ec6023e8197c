-- `keeping::absorb_last` meets its contract.
use Rattle.keeping.proofs.absorb_last.Goals as goal

pub returns : goal.returns
returns c = λ es b. let k = c.args.k in let e = c.held_latest.ensures in λ i. record { prev = e i; prev_b = k.prevb; since = k.since; value = k.value; prior = k.prior }
