-- The worked cases hold of the definitions.
use mathlib.Core.Path.{◌≡◌, refl}
use mathlib.Core.List.{map}
use Rattle.block.specs.Block.{with_flags, cleared, raised, line_up, line}
use Rattle.block.specs.Cases.{Clearing, clearings, Ending, endings, Level, levels, block_with}

pub clearings_hold : map (λ (y : Clearing). cleared y.before y.byte) clearings ≡ map (λ (y : Clearing). y.after) clearings
unfolding cleared with_flags clearings
clearings_hold = refl

pub endings_hold : map (λ (y : Ending). raised y.before y.number y.waits) endings ≡ map (λ (y : Ending). y.after) endings
unfolding raised with_flags endings
endings_hold = refl

pub levels_hold : map (λ (y : Level). (line (block_with y.flags y.mask)).up) levels ≡ map (λ (y : Level). y.up) levels
unfolding line line_up levels
levels_hold = refl
