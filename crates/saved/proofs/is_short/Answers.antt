-- `saved::is_short` meets its contract.
use mathlib.Core.Path.{sym, ◌∙◌}
use native.Mathlib.Omega.{arith}
use lib.Seq.{length-take-le}
use Rattle.operators.specs.Limits.{state_length}
use Rattle.saved.proofs.Cases as law
use Rattle.saved.proofs.is_short.Goals as goal

pub returns-then-n-gt-STATE : goal.returns-then-n-gt-STATE
returns-then-n-gt-STATE c = sym (law.too_long c.args.n c.args.room.now c.if-n-gt-STATE.true)

pub slice_bounds-streams-end : goal.slice_bounds-streams-end
slice_bounds-streams-end c = sym (length-take-le state_length c.args.room.now (omega arith))

pub returns : goal.returns
returns c = c.is_some.ensures ∙ law.by_test c.args.n c.args.room.now (omega arith) c.streams.result c.streams.ensures
