-- How: a window over the held events of its argument: which of them come into it, and the first at which it gives a value.
use Rattle.std.specs.Prelude.{ℕ, cond, List, [], ◌∷◌, ◌++◌, ltb, ℤ, Option, None, Some}
use Rattle.meaning.specs.Plan.{Fold}
use Rattle.meaning.specs.Events.{Event}
use Rattle.meaning.specs.Table.{value_of, folded, latest_of}
use Rattle.machine.specs.Reach.{Next, event, silent}

-- the events below x, from the first on
unfoldable pub take_below : ℕ → List Event → List Event
take_below x [] = []
take_below x (e ∷ es) = cond (ltb e.stamp x) (e ∷ take_below x es) []

-- an event at t, if there is a value, or else what comes next
abbrev pub fits_at : ℕ → Option ℤ → Next → Next
fits_at t None next = next
fits_at t (Some v) next = event t v

-- the first of these events, below hi, at which a window of k gives a value, where w came before them; or silence up to hi
unfoldable pub first_fit : Fold → (k hi : ℕ) → List ℤ → List Event → Next
first_fit f k hi w [] = silent hi
first_fit f k hi w (e ∷ es) =
    cond (ltb e.stamp hi) (fits_at e.stamp (value_of (folded f (latest_of k (w ++ e.value ∷ [])))) (first_fit f k hi (w ++ e.value ∷ []) es)) (silent hi)
