-- How: the groups whose operators look at events below their bound; a run's search asks for them.
use Rattle.std.specs.Prelude.{Bool, true, false}
use Rattle.operators.specs.declared.Group.{Group}
use Rattle.operators.specs.declared.Group.TheVariants.{Absent, Input, Plain, One, Two, Last, Delay, Signal, Window}

-- last, delay and the signal forms look at events below their bound, and keep what they need of those let go
abbrev pub is_keeper : Group → Bool
is_keeper Absent = false
is_keeper Input = false
is_keeper Plain = false
is_keeper One = false
is_keeper Two = false
is_keeper Last = true
is_keeper Delay = true
is_keeper Signal = true
is_keeper Window = false
