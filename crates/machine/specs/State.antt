-- Believe: the state: for each stream its equation, its bound, the events it holds, and what is kept. No bytes.
use Rattle.std.specs.Prelude.{ℕ, Bool, false, List, [], map, get_or, ℤ, Option, None}
use Rattle.meaning.specs.Plan.{Eqn, nil, Plan}
use Rattle.meaning.specs.Events.{Event}
use Rattle.meaning.specs.Missing.{Reason, Outside, ZeroDivisor}

-- "16 held events": a stream that holds 16 events takes no more
abbrev pub room : ℕ
room = 16

-- What a last, a delay or a signal form keeps of events that are held no longer
pub record Kept : Type 0 where
  -- of a last and of a signal form: the value of a's latest known event below the bound
  pub prev : Option ℤ
  -- of a signal form: the value of b's latest known event below the bound
  pub prev_b : Option ℤ
  -- of a delay: one past the latest known set point below the bound, 0 if there is none
  pub since : ℕ
  -- of a delay: a's event at that set point, if known
  pub value : Option ℤ
  -- of a delay: a's event just below the bound, if known
  pub prior : Option ℤ

-- What a stream keeps of the stamps that its own moves have passed
pub record Passed : Type 0 where
  -- of a window: the values of a's latest events below the bound, k at most, oldest first
  pub window : List ℤ
  -- at how many stamps an event is missing because its result is outside the range, and because the divisor is zero
  pub outside : ℕ
  pub divisors : ℕ

-- A stream of the state
pub record Cell : Type 0 where
  pub eqn : Eqn
  -- whether it is an output
  pub out : Bool
  -- all its events below the bound are known
  pub bound : ℕ
  -- the events that a reader or collection waits for, by rising stamp
  pub held : List Event
  -- of an output: one past the last collected stamp, 0 before the first
  pub next : ℕ
  pub kept : Kept
  pub passed : Passed

abbrev pub State : Type 0
State = List Cell

abbrev pub no_kept : Kept
no_kept = record { prev = None; prev_b = None; since = 0; value = None; prior = None }

abbrev pub no_passed : Passed
no_passed = record { window = []; outside = 0; divisors = 0 }

-- the count of a reason
abbrev pub count_of : Reason → Passed → ℕ
count_of Outside w = w.outside
count_of ZeroDivisor w = w.divisors

-- another window, and other counts
abbrev pub with_window : List ℤ → Passed → Passed
with_window xs w = record { window = xs; outside = w.outside; divisors = w.divisors }

abbrev pub with_counts : (Reason → ℕ) → Passed → Passed
with_counts n w = record { window = w.window; outside = n Outside; divisors = n ZeroDivisor }

-- what is kept with another field
abbrev pub with_prev : Option ℤ → Kept → Kept
with_prev p k = record { prev = p; prev_b = k.prev_b; since = k.since; value = k.value; prior = k.prior }

abbrev pub with_prev_b : Option ℤ → Kept → Kept
with_prev_b p k = record { prev = k.prev; prev_b = p; since = k.since; value = k.value; prior = k.prior }

abbrev pub with_since : ℕ → Kept → Kept
with_since z k = record { prev = k.prev; prev_b = k.prev_b; since = z; value = k.value; prior = k.prior }

abbrev pub with_value : Option ℤ → Kept → Kept
with_value v k = record { prev = k.prev; prev_b = k.prev_b; since = k.since; value = v; prior = k.prior }

abbrev pub with_prior : Option ℤ → Kept → Kept
with_prior p k = record { prev = k.prev; prev_b = k.prev_b; since = k.since; value = k.value; prior = p }

-- A stream as a plan text declares it: its equation, and whether it is an output
pub record Declared : Type 0 where
  pub eqn : Eqn
  pub out : Bool

abbrev pub declared_plan : List Declared → Plan
declared_plan ds = map (λ d. d.eqn) ds

-- the streams of a state as a plan text declares them: its plan, without bounds, events and what is kept
abbrev pub declares : Cell → Declared
declares c = record { eqn = c.eqn; out = c.out }

abbrev pub declared_in : State → List Declared
declared_in M = map declares M

-- a stream as load leaves it: "a fresh state, all bounds 0"
abbrev pub fresh : Declared → Cell
fresh d = record { eqn = d.eqn; out = d.out; bound = 0; held = []; next = 0; kept = no_kept; passed = no_passed }

unfoldable pub loaded : List Declared → State
loaded ds = map fresh ds

-- what stands for a stream that is not there
abbrev pub absent : Cell
absent = fresh (record { eqn = nil; out = false })

abbrev pub cell_at : State → ℕ → Cell
cell_at M s = get_or M s absent

abbrev pub plan_of : State → Plan
plan_of M = map (λ c. c.eqn) M

-- the cell with another bound, other held events, another mark of collection, other kept data, other passed stamps
abbrev pub with_bound : ℕ → Cell → Cell
with_bound y c = record { eqn = c.eqn; out = c.out; bound = y; held = c.held; next = c.next; kept = c.kept; passed = c.passed }

abbrev pub with_held : List Event → Cell → Cell
with_held es c = record { eqn = c.eqn; out = c.out; bound = c.bound; held = es; next = c.next; kept = c.kept; passed = c.passed }

abbrev pub with_next : ℕ → Cell → Cell
with_next n c = record { eqn = c.eqn; out = c.out; bound = c.bound; held = c.held; next = n; kept = c.kept; passed = c.passed }

abbrev pub with_kept : Kept → Cell → Cell
with_kept k c = record { eqn = c.eqn; out = c.out; bound = c.bound; held = c.held; next = c.next; kept = k; passed = c.passed }

abbrev pub with_passed : Passed → Cell → Cell
with_passed w c = record { eqn = c.eqn; out = c.out; bound = c.bound; held = c.held; next = c.next; kept = c.kept; passed = w }
