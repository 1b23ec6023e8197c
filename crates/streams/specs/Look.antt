-- How: a raw record read as a cell with its bound and its set point within their ranges, and the struct that it is rebuilt into.
use Rattle.std.specs.Prelude.{ℕ, ◌≤◌, min, ◌≡◌, false, List}
use Rattle.meaning.specs.Plan.{Eqn, input, nil, unit, one, two, last, delay, signal, window}
use Rattle.meaning.specs.Events.{Event, horizon}
use Rattle.machine.specs.State.{Cell, Kept, absent, fresh, with_bound, with_held, with_kept, with_since}
use Rattle.layout.specs.Record.{Raw, dec_raw}
use Rattle.encoding.specs.Back.{to_cell, held_of}
use Rattle.apply.specs.Named.{unary, calculation, binary, folding}
use Rattle.streams.specs.declared.Op.{Op}
use Rattle.streams.specs.declared.Op.TheVariants.{In, Nil, Unit, One, Two, Last, Delay, Signal, Window}
use Rattle.streams.specs.declared.Kept as code
use Rattle.streams.specs.declared.Stream.{Stream}
use Rattle.streams.specs.declared.Look.{Look}

-- a set point at most y
abbrev pub cut_kept : ℕ → Kept → Kept
cut_kept y k = with_since (min k.since y) k

-- the bound cut to at most the horizon, and the set point to at most that bound
abbrev pub cut : Cell → Cell
cut c = with_kept (cut_kept (min c.bound horizon) c.kept) (with_bound (min c.bound horizon) c)

-- total: every record is one; where bound and set point are within their ranges it is the record's cell itself, but for what a
-- window keeps, which lies outside its record
unfoldable pub look_of : Raw → Cell
unfolding to_cell
look_of r = cut (to_cell r)

-- ---- the struct as a cell

abbrev pub equation : Op → Eqn
equation In = input
equation Nil = nil
equation Unit = unit
equation (One f a) = one (unary f) a
equation (Two g a b) = two (binary g) a b
equation (Last a b) = last a b
equation (Delay a b) = delay a b
equation (Signal g a b) = signal (calculation g) a b
equation (Window f k a) = window (folding f) k a

-- the equation as the search over stamps sees it. A window is none of its: it is looked for otherwise, and nil stands for it.
abbrev pub plain : Op → Eqn
plain In = input
plain Nil = nil
plain Unit = unit
plain (One f a) = one (unary f) a
plain (Two g a b) = two (binary g) a b
plain (Last a b) = last a b
plain (Delay a b) = delay a b
plain (Signal g a b) = signal (calculation g) a b
plain (Window f k a) = nil

abbrev pub kept_in : code.Kept → Kept
kept_in k = record { prev = k.prev; prev_b = k.prevb; since = k.since; value = k.value; prior = k.prior }

-- the equation's own cell, as far as a move looks at it: not its held events, nor what a window keeps
abbrev pub own_cell : Eqn → ℕ → Kept → Cell
own_cell e y k = with_kept k (with_bound y (fresh (record { eqn = e; out = false })))

abbrev pub own_of : Stream → Cell
own_of s = own_cell (equation s.op) s.bound (kept_in s.kept)

-- an argument's: its bound and its held events
abbrev pub arg_cell : ℕ → List Event → Cell
arg_cell y es = with_held es (with_bound y absent)

abbrev pub arg_of : ℕ → List ℕ → Cell
arg_of y s = arg_cell y (held_of (dec_raw s))

-- what validity would say of the struct
pub record Bounded (s : Stream) : Type 0 where
  pub top : s.bound ≤ horizon
  pub since : s.kept.since ≤ s.bound

-- the struct is the record's stream
pub record Is (s : Stream) (r : Raw) : Type 0 where
  pub eqn : equation s.op ≡ (look_of r).eqn
  pub bound : s.bound ≡ (look_of r).bound
  pub kept : kept_in s.kept ≡ (look_of r).kept

-- what validity would say of a stream and its arguments
pub record Within (l : Look) : Type 0 where
  pub top : l.stream.bound ≤ horizon
  pub since : l.stream.kept.since ≤ l.stream.bound
  pub top_a : l.abound ≤ horizon
  pub top_b : l.bbound ≤ horizon
