-- Believe: what the call that reads the counts of a stream answers: 15, or the machine's counts on the state that the bytes give.
use Rattle.std.specs.Prelude.{ℕ, cond, List}
use Rattle.machine.specs.Calls.{Missing, no_counts, missing}
use Rattle.valid.specs.Valid.{valid}
use Rattle.roundtrip.specs.In.{state_in}

-- "Number 15 comes before the others". The state is lent for reading alone.
unfoldable pub missing_reply : ℕ → List ℕ → Missing
unfolding missing
missing_reply i s = cond (valid s) (missing i (state_in s)) (no_counts 15)
