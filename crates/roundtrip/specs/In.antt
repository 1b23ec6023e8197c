-- How: the machine state that valid bytes give.
use Rattle.std.specs.Prelude.{ℕ, ◌≡◌, true, List}
use Rattle.machine.specs.State.{State}
use Rattle.encoding.specs.Back.{state_of}
use Rattle.valid.specs.Valid.{count, valid}

abbrev pub state_in : List ℕ → State
state_in s = state_of (count s) s

-- bytes that are a state of n streams
pub record IsState (s : List ℕ) (n : ℕ) : Type 0 where
  pub is_valid : valid s ≡ true
  pub streams : n ≡ count s
