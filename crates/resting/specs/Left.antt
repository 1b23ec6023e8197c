-- How: what the bounds and marks of a state lack to the horizon, added up.
use Rattle.std.specs.Prelude.{ℕ, zero, suc, ◌+◌, ◌-◌, cond, List, length}
use Rattle.meaning.specs.Events.{horizon}
use Rattle.machine.specs.State.{State, cell_at}
use Rattle.valid.specs.Valid.{valid}
use Rattle.roundtrip.specs.In.{state_in}

unfoldable pub sum : (ℕ → ℕ) → ℕ → ℕ
sum f zero = 0
sum f (suc n) = f n + sum f n

abbrev pub share : State → ℕ → ℕ
share M i = (horizon - (cell_at M i).bound) + (horizon - (cell_at M i).next)

abbrev pub lack : State → ℕ
lack M = sum (share M) (length M)

-- of a state in bytes; nothing moves or waits in bytes that are no state
unfoldable pub left : List ℕ → ℕ
left s = cond (valid s) (lack (state_in s)) 0
