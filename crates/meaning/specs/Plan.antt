-- Believe: a plan: a list of equations, each an operator with just the arguments which that operator uses.
use Rattle.std.specs.Prelude.{ℕ, Bool, true, false, List, get_or, ℤ}

-- time neg, and with a value k: set plus
pub data Unary : Type 0 where
  time neg : Unary
  set plus : ℤ → Unary

-- the arithmetic of two arguments
pub data Calc : Type 0 where
  add sub mul div rem lt le eq : Calc

pub data Binary : Type 0 where
  calc : Calc → Binary
  keep merge : Binary

-- what is told of the latest events of a stream
pub data Fold : Type 0 where
  wsum wmin wmax : Fold

-- document 01's `in` is `input` here; arguments are stream numbers
pub data Eqn : Type 0 where
  input nil unit : Eqn
  one : Unary → ℕ → Eqn
  two : Binary → ℕ → ℕ → Eqn
  last delay : ℕ → ℕ → Eqn
  -- sadd ssub smul sdiv srem slt sle seq: the signal form of the arithmetic
  signal : Calc → ℕ → ℕ → Eqn
  -- wsum wmin wmax: a window of k events of a
  window : Fold → ℤ → ℕ → Eqn

abbrev pub Plan : Type 0
Plan = List Eqn

-- the equation of stream s; a stream that the plan does not have never has an event
abbrev pub eqn_at : Plan → ℕ → Eqn
eqn_at plan s = get_or plan s nil

abbrev pub is_input : Eqn → Bool
is_input input = true
is_input nil = false
is_input unit = false
is_input (one f a) = false
is_input (two g a b) = false
is_input (last a b) = false
is_input (delay a b) = false
is_input (signal c a b) = false
is_input (window f k a) = false
