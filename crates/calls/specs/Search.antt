-- How: the search of a run: which records a move can have let move, by their stored numbers, and what a search leaves.
use Rattle.std.specs.Prelude.{ℕ, ◌<◌, ◌≡◌, ◌⊎◌, false, List, length}
use Rattle.machine.specs.Step.{can_move, move}
use Rattle.machine.specs.Calls.{lowest}
use Rattle.operators.specs.Operators.{group_of}
use Rattle.operators.specs.Keepers.{is_keeper}
use Rattle.layout.specs.Record.{Raw, num, op_f, a_f, b_f}
use Rattle.encoding.specs.View.{bytes_of}
use Rattle.roundtrip.specs.In.{state_in}

-- ---- records

-- z is none of the two
abbrev pub Neither : (z x y : ℕ) → Type 0
Neither z x y = (z ≡ x → ⊥) × (z ≡ y → ⊥)

-- a move of stream s, with the arguments a and b as they are stored, does not touch the stream of record r, j. An argument that
-- is not there is stored as 0, so some records that it does not touch are none of these.
pub record Untouched (s a b j : ℕ) (r : Raw) : Type 0 where
  pub reader : Neither s (num a_f r) (num b_f r)
  pub argument : Neither j a b
  pub keeper : (is_keeper (group_of (num op_f r)) ≡ false) ⊎ (Neither (num a_f r) a b × Neither (num b_f r) a b)

-- ---- what a search leaves

-- no equation below can move
abbrev pub NoneBelow : ℕ → List ℕ → Type 0
NoneBelow to s = (j : ℕ) → j < to → can_move j (state_in s) ≡ false

-- stream i is the lowest-numbered that can move, and has moved
abbrev pub Moved : ℕ → (s s' : List ℕ) → Type 0
Moved i s s' = (lowest (state_in s) ≡ i) × (s' ≡ bytes_of (length s) (move i (state_in s)))

-- a search of the streams below `to` answers the stream that has moved, or `to` where none can
abbrev pub Searched : (to i : ℕ) → (s s' : List ℕ) → Type 0
Searched to i s s' = ((i < to) × Moved i s s') ⊎ ((i ≡ to) × ((s' ≡ s) × NoneBelow to s))
