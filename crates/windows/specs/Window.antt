-- How: what a window's bytes and the slots of a record hold, their values raised, and the folds over them.
use Rattle.std.specs.Prelude.{ℕ, ◌+◌, ◌-◌, ◌*◌, ◌/◌, ◌%◌, ◌^◌, min, max, Bool, true, false, cond, List, [], ◌∷◌, map, ltb, ℤ, Option, None, Some, pos, ◌-ℤ◌, take}
use Rattle.std.proofs.Math.Seq.{slice}
use Rattle.std.specs.Int.{w64}
use Rattle.std.proofs.Common.{to_z}
use Rattle.machine.specs.Reach as machine
use Rattle.layout.specs.Record.{Slot, Raw}
use Rattle.layout.specs.Windows.{dec_window}

-- ---- what is there

-- the values of these words from i on, of the first n
abbrev pub values_in : (i n : ℕ) → List ℕ → List ℤ
values_in i n ws = map (to_z w64) (slice i n ws)

-- the first n values that a window's bytes keep
abbrev pub kept : ℕ → List ℕ → List ℤ
kept n s = map (to_z w64) (take n (dec_window s))

-- the words in the slots of a record
abbrev pub slot_words : Raw → List ℕ
slot_words r = map (λ (s : Slot). s.value) r.slots

-- ---- values raised by 2^63

-- of the value with these bits; and its bits of the value so much raised
unfoldable pub raised : ℕ → ℕ
raised b = cond (ltb b (2 ^ 63)) (b + 2 ^ 63) (b - 2 ^ 63)

-- those of these words from i on, of the first n
abbrev pub heights : (i n : ℕ) → List ℕ → List ℕ
heights i n ws = map raised (slice i n ws)

-- the sums of their lower and of their upper halves
unfoldable pub lows : List ℕ → ℕ
lows [] = 0
lows (u ∷ us) = u % 2 ^ 32 + lows us

unfoldable pub highs : List ℕ → ℕ
highs [] = 0
highs (u ∷ us) = u / 2 ^ 32 + highs us

-- the sum of n values whose raised ones have the halves' sums low and high
abbrev pub total_of : (n low high : ℕ) → ℤ
total_of n low high = pos (high * 2 ^ 32 + low) -ℤ pos (n * 2 ^ 63)

-- the greater (true) or the lesser of two, and of a list and b
abbrev pub better : Bool → ℕ → ℕ → ℕ
better true b u = max b u
better false b u = min b u

unfoldable pub best_of : Bool → ℕ → List ℕ → ℕ
best_of g b [] = b
best_of g b (u ∷ us) = best_of g (better g b u) us

-- ---- where a window first gives a value

-- what the code answers, as the machine's answer, where nothing is found below hi
abbrev pub fitted : ℕ → Option (ℕ × ℤ) → machine.Next
fitted hi (Some (t, v)) = machine.event t v
fitted hi None = machine.silent hi
