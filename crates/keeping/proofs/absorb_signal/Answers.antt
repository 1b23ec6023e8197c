-- `keeping::absorb_signal` meets its contract.
use Rattle.keeping.proofs.absorb_signal.Goals as goal

pub returns : goal.returns
returns c = λ g es. let k = c.args.k in let e = c.held_latest-prev.ensures in let d = c.held_latest-prevb.ensures in λ i. record { prev = e i; prev_b = d i; since = k.since; value = k.value; prior = k.prior }
