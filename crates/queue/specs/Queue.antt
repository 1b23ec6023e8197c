-- How: the queue of a record: its held events in the slots, from the oldest on, and how many they are.
use Rattle.std.specs.Prelude.{ℕ, zero, suc, ◌+◌, ◌-◌, min, List, [], ◌∷◌, cond, ltb}
use Rattle.machine.specs.State.{room}
use Rattle.layout.specs.Record.{Slot, Raw, num, with_num, with_slot, dropped, count_f, bound_f}

-- the event (t, v) put after the held ones, and the bound past it; a full record stays as it is
unfoldable pub pushed : ℕ → ℕ → Raw → Raw
pushed t v r =
    cond (ltb (num count_f r) room)
    (with_num bound_f (t + 1) (with_num count_f (num count_f r + 1) (with_slot (num count_f r) t v r)))
    r

-- how many of the first n slots, one after the other, lie below w
unfoldable pub below : ℕ → ℕ → List Slot → ℕ
below w zero l = 0
below w (suc n) [] = 0
below w (suc n) (e ∷ l) = cond (ltb e.stamp w) (suc (below w n l)) 0

-- without its k oldest held events
abbrev pub shed : ℕ → Raw → Raw
shed k r = with_num count_f (num count_f r - k) (dropped k (min (num count_f r) room) r)

unfoldable pub released : ℕ → Raw → Raw
unfolding below
released w r = shed (below w (min (num count_f r) room) r.slots) r
