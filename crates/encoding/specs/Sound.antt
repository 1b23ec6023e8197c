-- Believe: the states that the layout can hold: what holds of every cell, of a run or not.
use Rattle.std.specs.Prelude.{ℕ, suc, ◌^◌, ◌≤◌, ◌<◌, ◌≡◌, Bool, true, false, List, [], ◌∷◌, T, length, ℤ, Option, None, Some}
use Rattle.std.specs.Int.Signed.{mag}
use Rattle.meaning.specs.Plan.{Eqn, input, nil, unit, one, two, last, delay, signal, window, is_input}
use Rattle.meaning.specs.Table.{width}
use Rattle.meaning.specs.Arguments.{reads, AllBelow}
use Rattle.meaning.specs.Events.{Event, horizon}
use Rattle.meaning.specs.Cycle.{Acyclic}
use Rattle.meaning.specs.Missing.{Reason, can_lack}
use Rattle.machine.specs.State.{Kept, Passed, Cell, State, room, no_kept, count_of, cell_at, plan_of}
use Rattle.operators.specs.Operators.{eqn_group, is_delay, value_of}
use Rattle.operators.specs.Limits.{window_limit}
use Rattle.operators.specs.Windows.{IsWidth, windows}

-- a signed 64-bit whole number
abbrev pub IsValue : ℤ → Type 0
IsValue v = mag v < 2 ^ 63

abbrev pub IsOptional : Option ℤ → Type 0
IsOptional None = Unit {0}
IsOptional (Some v) = IsValue v

-- held events, by rising stamp from lo on, below top
abbrev pub Rising : (lo top : ℕ) → List Event → Type 0
Rising lo top [] = lo ≤ top
Rising lo top (e ∷ es) = (lo ≤ e.stamp) × IsValue e.value × Rising (suc e.stamp) top es

-- only an output has a mark of collection, and it is not above the bound
abbrev pub IsNext : Bool → ℕ → ℕ → Type 0
IsNext true next bound = next ≤ bound
IsNext false next bound = next ≡ 0

-- what an equation with this bound may keep
pub record LastKept (y : ℕ) (k : Kept) : Type 0 where
  pub prev : IsOptional k.prev
  pub fresh : y ≡ 0 → k.prev ≡ None
  pub prev_b : k.prev_b ≡ None
  pub since : k.since ≡ 0
  pub value : k.value ≡ None
  pub prior : k.prior ≡ None

pub record DelayKept (y : ℕ) (k : Kept) : Type 0 where
  pub prev : k.prev ≡ None
  pub prev_b : k.prev_b ≡ None
  pub since : k.since ≤ y
  pub value : IsOptional k.value
  pub prior : IsOptional k.prior
  pub unset : k.since ≡ 0 → k.value ≡ None
  pub fresh : y ≡ 0 → k.prior ≡ None

pub record SignalKept (y : ℕ) (k : Kept) : Type 0 where
  pub prev : IsOptional k.prev
  pub prev_b : IsOptional k.prev_b
  pub fresh : y ≡ 0 → k.prev ≡ None
  pub fresh_b : y ≡ 0 → k.prev_b ≡ None
  pub since : k.since ≡ 0
  pub value : k.value ≡ None
  pub prior : k.prior ≡ None

abbrev pub IsKept : Eqn → ℕ → Kept → Type 0
IsKept input y k = k ≡ no_kept
IsKept nil y k = k ≡ no_kept
IsKept unit y k = k ≡ no_kept
IsKept (one f a) y k = k ≡ no_kept
IsKept (two g a b) y k = k ≡ no_kept
IsKept (last a b) y k = LastKept y k
IsKept (delay a b) y k = DelayKept y k
IsKept (signal c a b) y k = SignalKept y k
IsKept (window f n a) y k = k ≡ no_kept

abbrev pub AllValues : List ℤ → Type 0
AllValues [] = Unit {0}
AllValues (v ∷ vs) = IsValue v × AllValues vs

-- what a window of k events with this bound may keep: "of all so far while fewer"
pub record WindowKept (k y : ℕ) (w : Passed) : Type 0 where
  pub few : length w.window ≤ k
  pub values : AllValues w.window
  pub fresh : y ≡ 0 → w.window ≡ []

-- the values of an equation with this bound: only a window keeps any
abbrev pub IsPassed : Eqn → ℕ → Passed → Type 0
IsPassed input y w = w.window ≡ []
IsPassed nil y w = w.window ≡ []
IsPassed unit y w = w.window ≡ []
IsPassed (one f a) y w = w.window ≡ []
IsPassed (two g a b) y w = w.window ≡ []
IsPassed (last a b) y w = w.window ≡ []
IsPassed (delay a b) y w = w.window ≡ []
IsPassed (signal c a b) y w = w.window ≡ []
IsPassed (window f k a) y w = WindowKept (width k) y w

-- a count of an equation with this bound, and whether it counts: any number of four bytes, and 0 where nothing was counted yet
abbrev pub IsCount : Bool → ℕ → ℕ → Type 0
IsCount true y n = (n < 2 ^ 32) × (y ≡ 0 → n ≡ 0)
IsCount false y n = n ≡ 0

-- a cell of a state of n streams
pub record SoundCell (n : ℕ) (c : Cell) : Type 0 where
  pub arguments : AllBelow n (reads c.eqn)
  pub value : IsValue (value_of c.eqn)
  pub width : IsWidth c.eqn
  pub out : T (is_input c.eqn) → c.out ≡ false
  pub bound : c.bound ≤ horizon
  pub few : length c.held ≤ room
  pub held : Rising 0 c.bound c.held
  pub next : IsNext c.out c.next c.bound
  pub kept : IsKept c.eqn c.bound c.kept
  pub passed : IsPassed c.eqn c.bound c.passed
  pub counts : (q : Reason) → IsCount (can_lack c.eqn) c.bound (count_of q c.passed)

-- a delay's own events are set points, and `since` is one past the latest
abbrev pub Own : Cell → Type 0
Own c = T (is_delay (eqn_group c.eqn)) → Rising 0 c.kept.since c.held

-- a state of a size with room for so many streams; it may have none
pub record Sound (cap : ℕ) (M : State) : Type 0 where
  -- the length is one that states have
  pub size : 0 < cap
  pub few : length M ≤ cap
  pub each : (i : ℕ) → i < length M → SoundCell (length M) (cell_at M i)
  pub own : (i : ℕ) → i < length M → Own (cell_at M i)
  pub windows : windows (plan_of M) ≤ window_limit
  pub acyclic : Acyclic (plan_of M)
