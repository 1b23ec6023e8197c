-- How: what the code answers of a missing event.
use Rattle.std.specs.Prelude.{Bool, true, false, Option, None, Some}
use Rattle.meaning.specs.Missing.{Reason, Outside, ZeroDivisor}

-- an event is missing, for this reason
abbrev pub lack_for : Reason → Option Reason → Bool
lack_for q None = false
lack_for Outside (Some Outside) = true
lack_for Outside (Some ZeroDivisor) = false
lack_for ZeroDivisor (Some Outside) = false
lack_for ZeroDivisor (Some ZeroDivisor) = true
