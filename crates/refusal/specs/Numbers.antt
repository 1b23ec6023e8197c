-- Believe: the number of each refusal, and of an outcome: 0 if it is done.
use Rattle.std.specs.Prelude.{ℕ, Result, Ok, Err}
use Rattle.refusal.specs.declared.Refusal.{Refusal}
use Rattle.refusal.specs.declared.Refusal.TheVariants.{TextLong, TextForm, TextStreams, TextOperator, TextField, TextCycle, NoInput, TooEarly, Full, PastHorizon, NoEquation, CannotMove, NoOutput, Nothing, BadState, BadLine, BadWrite, TextWindow, TextRoom}

abbrev pub number_of : Refusal → ℕ
number_of TextLong = 1
number_of TextForm = 2
number_of TextStreams = 3
number_of TextOperator = 4
number_of TextField = 5
number_of TextCycle = 6
number_of NoInput = 7
number_of TooEarly = 8
number_of Full = 9
number_of PastHorizon = 10
number_of NoEquation = 11
number_of CannotMove = 12
number_of NoOutput = 13
number_of Nothing = 14
number_of BadState = 15
number_of BadLine = 16
number_of BadWrite = 17
number_of TextWindow = 18
number_of TextRoom = 19

abbrev pub code_of : {A : Type 0} → Result A Refusal → ℕ
code_of (Ok x) = 0
code_of (Err r) = number_of r
