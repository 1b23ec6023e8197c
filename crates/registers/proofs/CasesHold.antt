-- The worked cases hold of the definition.
use Prim.Native.Nat.{ℕ}
use mathlib.Core.Path.{◌≡◌, refl}
use mathlib.Core.List.{List, map}
use Rattle.block.specs.Block.{with_flags, cleared, raised, ended}
use Rattle.registers.specs.Write.{write}
use Rattle.registers.specs.Cases.{Case, cases}

-- whatever the state
pub cases_hold : (s : List ℕ) → map (λ (y : Case). write s y.before y.at y.byte) cases ≡ map (λ (y : Case). record { number = y.number; block = y.after; state = s }) cases
unfolding write ended raised cleared with_flags cases
cases_hold s = refl
