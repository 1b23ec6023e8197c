-- `sliding::counted` meets its contract.
use native.Mathlib.Numerals.{add-one}
use Rattle.sliding.proofs.counted.Goals as goal

pub returns-then-w : goal.returns-then-w
returns-then-w c = rw c.if-w.true (add-one c.args.j)
