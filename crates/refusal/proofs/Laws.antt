-- No refusal has the number 0.
use Prim.Native.Nat.{◌<◌}
use mathlib.Core.Path.{◌≡◌}
use lib.Dec.{lit<}
use native.Mathlib.Omega.{arith}
use Rattle.refusal.specs.declared.Refusal.{Refusal}
use Rattle.refusal.specs.declared.Refusal.TheVariants.{TextLong, TextForm, TextStreams, TextOperator, TextField, TextCycle, NoInput, TooEarly, Full, PastHorizon, NoEquation, CannotMove, NoOutput, Nothing, BadState, BadLine, BadWrite, TextWindow, TextRoom}
use Rattle.refusal.specs.Numbers.{number_of}

pub refusal_some : (r : Refusal) → 0 < number_of r
refusal_some TextLong = lit< tt
refusal_some TextForm = lit< tt
refusal_some TextStreams = lit< tt
refusal_some TextOperator = lit< tt
refusal_some TextField = lit< tt
refusal_some TextCycle = lit< tt
refusal_some NoInput = lit< tt
refusal_some TooEarly = lit< tt
refusal_some Full = lit< tt
refusal_some PastHorizon = lit< tt
refusal_some NoEquation = lit< tt
refusal_some CannotMove = lit< tt
refusal_some NoOutput = lit< tt
refusal_some Nothing = lit< tt
refusal_some BadState = lit< tt
refusal_some BadLine = lit< tt
refusal_some BadWrite = lit< tt
refusal_some TextWindow = lit< tt
refusal_some TextRoom = lit< tt

pub some_number : (r : Refusal) → number_of r ≡ 0 → ⊥
some_number r e = absurd (omega (arith, refusal_some r))
