-- Believe: as how many bytes a saved state is read from a file of so many.
use Rattle.std.specs.Prelude.{ℕ, max, Bool, cond, ◌&&◌, List, leb, take}
use Rattle.operators.specs.Limits.{state_length, long_length}
use Rattle.valid.specs.Valid.{valid}

-- The firmware need not save the zeros at the end of a state, so a file of n bytes, which lie in s with zeros behind them, may be the
-- beginning of a state of either length: it is one of the shorter if that is a state,
unfoldable pub is_short : ℕ → List ℕ → Bool
is_short n s = leb n state_length && valid (take state_length s)

-- else one of the longer. A file that is too long for both is left as long as it is.
unfoldable pub length_of : ℕ → List ℕ → ℕ
unfolding is_short
length_of n s = cond (is_short n s) state_length (max n long_length)
