-- How: which equations a move can have let move, so that a run need not look again at the others before the moved one.
use Rattle.std.specs.Prelude.{ℕ, ◌<◌, ◌≡◌, Bool, true, false, ◌&&◌, ◌||◌, List, [], ◌∷◌}
use Rattle.meaning.specs.Plan.{Eqn, input, nil, unit, one, two, last, delay, signal, window}
use Rattle.meaning.specs.Arguments.{reads}
use Rattle.machine.specs.State.{State, cell_at}
use Rattle.machine.specs.Step.{reads_it, can_move}

-- the equation looks at held events below its bound: what it keeps stands in for those that are let go
abbrev pub keeps : Eqn → Bool
keeps input = false
keeps nil = false
keeps unit = false
keeps (one f a) = false
keeps (two g a b) = false
keeps (last a b) = true
keeps (delay a b) = true
keeps (signal c a b) = true
keeps (window f k a) = false

-- the equation reads one of these streams
abbrev pub reads_one : List ℕ → Eqn → Bool
reads_one [] f = false
reads_one (x ∷ xs) f = reads_it x f || reads_one xs f

-- whether a move of stream s, whose equation is e, can have let stream j, whose equation is f, move: it reads s, it is an
-- argument of s, or it keeps something and reads an argument of s
unfoldable pub touches : (s : ℕ) → Eqn → (j : ℕ) → Eqn → Bool
touches s e j f = reads_it s f || (reads_it j e || (keeps f && reads_one (reads e) f))

-- before stream s only what a move of it can have let move can move
abbrev pub Still : ℕ → State → Type 0
Still s M = (j : ℕ) → j < s → touches s (cell_at M s).eqn j (cell_at M j).eqn ≡ false → can_move j M ≡ false
