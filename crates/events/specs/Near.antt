-- How: the three cells of a move as the code has them: the equation's own in a struct, its arguments' in their bytes.
use Rattle.std.specs.Prelude.{ℕ, List, ℤ, pos, negsuc, Option, None, Some}
use Rattle.meaning.specs.Plan.{nil}
use Rattle.machine.specs.State.{Cell}
use Rattle.machine.specs.Reach.{gives}
use Rattle.streams.specs.declared.Kept.{Kept}
use Rattle.streams.specs.declared.Look.{Look}
use Rattle.streams.specs.Look.{plain, kept_in, own_cell, own_of, arg_of}

-- a cell of which only what it keeps is looked at
abbrev pub keeping : Kept → Cell
keeping k = own_cell nil 0 (kept_in k)

-- a cell of which only the held events are looked at
abbrev pub holding : List ℕ → Cell
holding s = arg_of 0 s

-- a value as a number of stamps; one below 0 is 0
abbrev pub size : Option ℤ → ℕ
size None = 0
size (Some (pos n)) = n
size (Some (negsuc n)) = 0

-- what the equation has at t
abbrev pub gives_in : Look → (A B : List ℕ) → ℕ → Option ℤ
gives_in l A B t = gives (plain l.stream.op) (own_of l.stream) (arg_of l.abound A) (arg_of l.bbound B) t
