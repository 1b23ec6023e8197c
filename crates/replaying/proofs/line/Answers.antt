-- `replaying::line` meets its contract.
use mathlib.Core.Path.{refl, sym}
use Rattle.replaying.proofs.line.Goals as goal

pub returns-in_default : goal.returns-in_default
returns-in_default c = record { found = c.read-found.ensures; put = rw (sym c.in_default.ensures) (rw c.number.ensures.0 at c.put_refused-end.ensures); state = rw (sym c.in_default.ensures) refl }

pub returns : goal.returns
returns c = record { found = c.read-found.ensures; put = rw (sym c.in-Some.ensures, sym c.offered-number.ensures.number) c.put_refusal-end.ensures; state = rw (sym c.in-Some.ensures) c.offered-number.ensures.buffer }
