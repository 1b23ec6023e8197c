-- Believe: when an equation can move: its reach, and the first event below it. Functions of three cells: o, the equation's own,
-- and a and b, those of its arguments (an argument that the operator does not use is not looked at).
use Rattle.std.specs.Prelude.{ℕ, zero, suc, pred, ◌-◌, min, max, Bool, true, false, cond, ◌&&◌, List, ◌++◌, ltb, eqb, ℤ, Option, None, Some}
use Rattle.meaning.specs.Plan.{Eqn, input, nil, unit, one, two, last, delay, signal, window}
use Rattle.meaning.specs.Events.{Stream, found, events, has, or_else, horizon}
use Rattle.meaning.specs.Table.{one_at, two_at, unit_at, latest, last_at, signal_at, latest_of, values, width, window_at_lem, is, delay_at}
use Rattle.machine.specs.State.{Cell}

-- the held events, as a stream
abbrev pub view : Cell → Stream
view c = found c.held

-- one past the latest stamp below t at which f has an event, 0 if there is none
unfoldable pub past_latest : Stream → ℕ → ℕ
past_latest f zero = 0
past_latest f (suc t) = cond (has (f t)) (suc t) (past_latest f t)

-- the least stamp from lo on, of n, that passes the test, or lo + n
unfoldable pub least : (ℕ → Bool) → ℕ → ℕ → ℕ
least f lo zero = lo
least f lo (suc n) = elim (f lo) [ true ↦ lo | false ↦ least f (suc lo) n ]

-- "nil, unit: the horizon. One argument: that one's bound. Two, but for last and delay: the smaller bound. last: b's
-- bound, [..] delay: the greatest k up to b's bound plus 1 and up to the horizon [..]"
abbrev pub limit : Eqn → (o a b : Cell) → ℕ
limit input o a b = o.bound
limit nil o a b = horizon
limit unit o a b = horizon
limit (one f _) o a b = a.bound
limit (two g _ _) o a b = min a.bound b.bound
limit (last _ _) o a b = b.bound
limit (delay _ _) o a b = min (suc b.bound) horizon
limit (signal c _ _) o a b = min a.bound b.bound
limit (window f k _) o a b = a.bound

-- one past a delay's latest set point below t, if the delay itself has no event from its bound on. Its own held events
-- are counted in `since`: `point_own` in crates/encoding/proofs/Points.antt.
unfoldable pub point : (o b : Cell) → ℕ → ℕ
unfolding past_latest
point o b t = max o.kept.since (past_latest (view b) t)

-- last: "but no further than the first event of b, at stamp y or later, that lies above a's bound".
-- delay: "such that every set point p with p + 1 < k lies below a's bound": k = t + 1 is too far if one past the latest
-- set point below t is above a's bound.
abbrev pub stops : Eqn → (o a b : Cell) → ℕ → Bool
stops input o a b t = false
stops nil o a b t = false
stops unit o a b t = false
stops (one f _) o a b t = false
stops (two g _ _) o a b t = false
stops (last _ _) o a b t = has (view b t) && ltb a.bound t
stops (delay _ _) o a b t = ltb a.bound (point o b t)
stops (signal c _ _) o a b t = false
stops (window f k _) o a b t = false

-- the reach, from the bound y on: "a reach below y counts as y"
unfoldable pub reach : Eqn → (o a b : Cell) → ℕ
unfolding least point
reach e o a b = least (stops e o a b) o.bound (limit e o a b - o.bound)

-- a's event one below z, where z is one past a delay's latest set point: held, or kept
abbrev pub value_at : (o a : Cell) → ℕ → Option ℤ
value_at o a z = or_else (view a (pred z)) (cond (eqb z o.kept.since) o.kept.value None)

-- a delay whose latest set point lies one below z is due at t
abbrev pub due : (o a : Cell) → (z t : ℕ) → Bool
due o a z t = ltb 0 z && is (t - pred z) (value_at o a z)

-- what stream x had latest below t: held, or else kept
abbrev pub held_latest : Cell → ℕ → Option ℤ → Option ℤ
held_latest x t kept = or_else (latest (view x) t) kept

-- a stream from stamp y on
abbrev pub from : ℕ → Stream → Stream
from y f p = cond (ltb p y) None (f p)

-- the latest k of the values w and of those that f has from y on and below x
abbrev pub slid : (k y x : ℕ) → List ℤ → Stream → List ℤ
slid k y x w f = latest_of k (w ++ values (events (from y f) x))

-- what the equation has at t, from its bound on and below its reach, if it has no event between
abbrev pub gives : Eqn → (o a b : Cell) → ℕ → Option ℤ
gives input o a b t = None
gives nil o a b t = None
gives unit o a b t = unit_at t
gives (one f _) o a b t = one_at f t (view a t)
gives (two g _ _) o a b t = two_at g (view a t) (view b t)
gives (last _ _) o a b t = last_at (view b t) (held_latest a t o.kept.prev)
gives (delay _ _) o a b t = delay_at (due o a (point o b t) t)
gives (signal c _ _) o a b t = signal_at c (view a t) (view b t) (held_latest a (suc t) o.kept.prev) (held_latest b (suc t) o.kept.prev_b)
gives (window f k _) o a b t = window_at_lem f (view a t) (slid (width k) o.bound (suc t) o.passed.window (view a))

-- the stamp of the first event at or above the bound and below the reach, or the reach
unfoldable pub first : Eqn → (o a b : Cell) → ℕ
unfolding reach
first e o a b = least (λ t. has (gives e o a b t)) o.bound (reach e o a b - o.bound)

-- What a move finds: an event, or silence up to the reach
pub data Next : Type 0 where
  event : (t : ℕ) → ℤ → Next
  silent : (r : ℕ) → Next

abbrev pub next_of : (t r : ℕ) → Option ℤ → Next
next_of t r None = silent r
next_of t r (Some v) = event t v

unfoldable pub decide : Eqn → (o a b : Cell) → Next
unfolding first reach
decide e o a b = next_of (first e o a b) (reach e o a b) (cond (ltb (first e o a b) (reach e o a b)) (gives e o a b (first e o a b)) None)
