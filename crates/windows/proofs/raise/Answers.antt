-- `windows::raise` meets its contract.
use mathlib.Core.Path.{sym}
use Rattle.windows.proofs.Heights.{raised_low, raised_high}
use Rattle.windows.proofs.raise.Goals as goal

pub returns-then-bits-lt-HALF : goal.returns-then-bits-lt-HALF
returns-then-bits-lt-HALF c = sym (raised_low c.args.bits c.if-bits-lt-HALF.true)

pub returns-else-bits-lt-HALF : goal.returns-else-bits-lt-HALF
returns-else-bits-lt-HALF c = sym (raised_high c.args.bits c.if-bits-lt-HALF.false)
