-- Believe: demand 2 inside the state: what a stream holds, keeps and counts, and where a move takes its bound, each told by the
-- solution S, the bounds and the marks of collection alone.
use Rattle.std.specs.Prelude.{ℕ, zero, suc, ◌+◌, ◌≤◌, ◌<◌, max, ◌≡◌, ◌⊎◌, ◌↔◌, Bool, cond, T, leb, ltb, length, ℤ, Option, None}
use mathlib.Core.List.{List, [], ◌++◌, Memᴰ}
use Rattle.meaning.specs.Plan.{Eqn, input, nil, unit, one, two, last, delay, signal, window}
use Rattle.meaning.specs.Arguments.{reads}
use Rattle.meaning.specs.Events.{Event, Stream, Streams, here, events, has, horizon}
use Rattle.meaning.specs.Table.{latest, latest_of, values, width}
use Rattle.meaning.specs.Missing.{Outside, ZeroDivisor, count_below}
use Rattle.machine.specs.State.{Kept, Passed, State, cell_at, no_kept, room}
use Rattle.machine.specs.Calls.{move_one, Missing}

-- ## Held

-- "A stream holds an event until every reader's bound is above its stamp and, for an output, until it is collected."
pub data Waits (M : State) (s t : ℕ) : Type 0 where
  reader : (r : ℕ) → r < length M → Memᴰ s (reads (cell_at M r).eqn) → (cell_at M r).bound ≤ t → Waits M s t
  collection : T (cell_at M s).out → (cell_at M s).next ≤ t → Waits M s t

-- the events of a stream from one stamp on and below another, by rising stamp
abbrev pub between : Stream → (from to : ℕ) → List Event
between f from zero = []
between f from (suc t) = between f from t ++ cond (leb from t) (here t (f t)) []

-- held are the events below the bound that somebody waits for, "One that no reader waits for is not held"
pub record HeldAs (f : Stream) (M : State) (s : ℕ) : Type 0 where
  -- the least stamp that is waited for
  pub from : ℕ
  pub waits : (t : ℕ) → t < horizon → Waits M s t ↔ (from ≤ t)
  pub held : (cell_at M s).held ≡ between f from (cell_at M s).bound

-- ## Kept: "the state still keeps what a last or delay needs of it"

-- what is known of a stream: its events below its bound
abbrev pub cut : Stream → ℕ → Stream
cut f k p = cond (ltb p k) (f p) None

abbrev pub known_in : Streams → State → Streams
known_in S M i = cut (S i) (cell_at M i).bound

-- "A set point of a delay is a stamp at which b or the delay itself has an event."
abbrev pub SetPoint : (b d : Stream) → ℕ → Type 0
SetPoint b d p = T (has (b p)) ⊎ T (has (d p))

-- one past the latest set point below y, 0 if there is none
pub data PastLatest (b d : Stream) (y : ℕ) : ℕ → Type 0 where
  never : ((p : ℕ) → p < y → SetPoint b d p → ⊥) → PastLatest b d y 0
  past : {p : ℕ} → p < y → SetPoint b d p → ((q : ℕ) → p < q → q < y → SetPoint b d q → ⊥) → PastLatest b d y (suc p)

-- what a stream has one below z
abbrev pub below : Stream → ℕ → Option ℤ
below f zero = None
below f (suc p) = f p

-- a delay with bound y keeps its latest known set point, and what is known of a there and just below y
pub record DelayKeeps (a b d : Stream) (y : ℕ) (k : Kept) : Type 0 where
  pub prev : k.prev ≡ None
  pub prev_b : k.prev_b ≡ None
  pub since : PastLatest b d y k.since
  pub value : k.value ≡ below a k.since
  pub prior : k.prior ≡ below a y

-- a last keeps the value of a's latest known event
pub record LastKeeps (a : Stream) (y : ℕ) (k : Kept) : Type 0 where
  pub prev : k.prev ≡ latest a y
  pub others : (k.prev_b ≡ None) × (k.since ≡ 0) × (k.value ≡ None) × (k.prior ≡ None)

-- a signal form keeps the values that a and b had latest: "The state keeps those latest values." They are those of the
-- solution, not only of what is known of it: its bound y is never above an argument's.
pub record SignalKeeps (a b : Stream) (y : ℕ) (k : Kept) : Type 0 where
  pub prev : k.prev ≡ latest a y
  pub prev_b : k.prev_b ≡ latest b y
  pub others : (k.since ≡ 0) × (k.value ≡ None) × (k.prior ≡ None)

-- of the solution S and what is known of it, K, a stream s with this equation and the bound y keeps k
abbrev pub KeptAs : Eqn → (S K : Streams) → (s y : ℕ) → Kept → Type 0
KeptAs input S K s y k = k ≡ no_kept
KeptAs nil S K s y k = k ≡ no_kept
KeptAs unit S K s y k = k ≡ no_kept
KeptAs (one f a) S K s y k = k ≡ no_kept
KeptAs (two g a b) S K s y k = k ≡ no_kept
KeptAs (last a b) S K s y k = LastKeeps (K a) y k
KeptAs (delay a b) S K s y k = DelayKeeps (K a) (K b) (K s) y k
KeptAs (signal c a b) S K s y k = SignalKeeps (S a) (S b) y k
KeptAs (window f n a) S K s y k = k ≡ no_kept

-- ## Windows: "Values are kept in the state"

-- a window with the bound y keeps the values of the latest k of all of a's events below y, or of all so far while fewer,
-- oldest first. This is the whole list of the solution's events, whether a still holds them or has let them go since.
abbrev pub WindowKeeps : (k : ℕ) (a : Stream) (y : ℕ) → Passed → Type 0
WindowKeeps k a y w = w.window ≡ latest_of k (values (events a y))

-- of the solution S, a stream with this equation and the bound y keeps this window: none but a window keeps values
abbrev pub PassedAs : Eqn → (S : Streams) (y : ℕ) → Passed → Type 0
PassedAs input S y w = w.window ≡ []
PassedAs nil S y w = w.window ≡ []
PassedAs unit S y w = w.window ≡ []
PassedAs (one f a) S y w = w.window ≡ []
PassedAs (two g a b) S y w = w.window ≡ []
PassedAs (last a b) S y w = w.window ≡ []
PassedAs (delay a b) S y w = w.window ≡ []
PassedAs (signal c a b) S y w = w.window ≡ []
PassedAs (window f k a) S y w = WindowKeeps (width k) (S a) y w

-- ## Missing: the two counts "equal the number of such stamps below the stream's bound, up to that limit, whatever the order of
-- moves"

-- of the readings rd and the solution S, what is read of a stream s with this equation and the bound y
abbrev pub missed_as : Eqn → (rd S : Streams) (s y : ℕ) → Missing
missed_as e rd S s y = record { number = 0; outside = count_below Outside e rd S s y; divisors = count_below ZeroDivisor e rd S s y }

-- ## Moved

-- a bound k that the arguments of stream s fix, Y being the bounds: "nil, unit: the horizon. One argument: that one's bound.
-- Two, but for last and delay: the smaller bound. last: b's bound, but no further than the first event of b, at stamp y or
-- later, that lies above a's bound. delay: the greatest k up to b's bound plus 1 and up to the horizon such that every set
-- point p with p + 1 < k lies below a's bound."
abbrev pub Fixes : Eqn → (S : Streams) (Y : ℕ → ℕ) (s k : ℕ) → Type 0
Fixes input S Y s k = k ≤ Y s
Fixes nil S Y s k = k ≤ horizon
Fixes unit S Y s k = k ≤ horizon
Fixes (one f a) S Y s k = k ≤ Y a
Fixes (two g a b) S Y s k = (k ≤ Y a) × (k ≤ Y b)
Fixes (last a b) S Y s k = (k ≤ Y b) × ((t : ℕ) → T (has (S b t)) → Y s ≤ t → Y a < t → k ≤ t)
Fixes (delay a b) S Y s k = (k ≤ Y b + 1) × (k ≤ horizon) × ((p : ℕ) → SetPoint (S b) (S s) p → p + 1 < k → p < Y a)
Fixes (signal c a b) S Y s k = (k ≤ Y a) × (k ≤ Y b)
Fixes (window f n a) S Y s k = k ≤ Y a

-- "its reach, the greatest bound that its arguments fix"
pub record IsReach (e : Eqn) (S : Streams) (Y : ℕ → ℕ) (s r : ℕ) : Type 0 where
  pub fixes : Fixes e S Y s r
  pub greatest : (k : ℕ) → Fixes e S Y s k → k ≤ r

-- where a move of a stream f with bound y and reach r takes the bound
pub data Goes (f : Stream) (y r : ℕ) (full : Bool) : ℕ → Type 0 where
  -- "With no such event the bound becomes the reach"
  silent : ((p : ℕ) → y ≤ p → p < r → f p ≡ None) → Goes f y r full (max y r)
  -- "If an event lies at or above y and below the reach, the first one, at t, is added and the bound becomes t + 1."
  -- "A stream that holds 16 events takes no more: the bound then goes to t and the event waits."
  event : {t : ℕ} → y ≤ t → t < r → ((p : ℕ) → y ≤ p → p < t → f p ≡ None) → T (has (f t)) → Goes f y r full (cond full t (suc t))

pub record MovesAs (S : Streams) (M : State) (s : ℕ) : Type 0 where
  pub reach : ℕ
  pub is_reach : IsReach (cell_at M s).eqn S (λ i. (cell_at M i).bound) s reach
  pub goes : Goes (S s) (cell_at M s).bound reach (leb room (length (cell_at M s).held)) (cell_at (move_one s M).state s).bound
