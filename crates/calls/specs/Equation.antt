-- How: whether a stream is there and is an equation, on raw records.
use Rattle.std.specs.Prelude.{ℕ, Bool, false, not, cond, ltb}
use Rattle.operators.specs.Operators.{group_of, is_in}
use Rattle.layout.specs.Record.{Raws, num, row_at, op_f}

unfoldable pub equation_raw : ℕ → Raws → ℕ → Bool
equation_raw n st i = cond (ltb i n) (not (is_in (group_of (num op_f (row_at st i))))) false
