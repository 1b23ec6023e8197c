-- Believe: why an event is missing: what an equation has to say at a stamp, and at how many stamps it says so.
use Rattle.std.specs.Prelude.{Option, None, Some, Ok, Err, ℕ, zero, suc, min, Bool, true, false, cond, ◌||◌, List, ℤ, pos}
pub use Rattle.num.specs.declared.Reason.{Reason}
pub use Rattle.num.specs.declared.Reason.TheVariants.{Outside, ZeroDivisor}
use Rattle.num.specs.Arithmetic.{Answer, negated, added}
use Rattle.meaning.specs.Plan.{Unary, time, neg, set, plus, Calc, add, sub, mul, div, rem, lt, le, eq, Binary, calc, keep, merge, Fold, wsum, wmin, wmax, Eqn, input, nil, unit, one, two, last, delay, signal, window}
use Rattle.meaning.specs.Events.{Streams, has, events}
use Rattle.meaning.specs.Table.{value_of, calculated, two_at, unit_at, latest, last_at, latest_of, values, width, folded, fires, delay_at}

-- ---- "The arithmetic, plus, neg, signal forms and wsum included, now says which of the two it was"

-- none: there is nothing to work on. Else a value, or why there is none: the result is outside the range, or the divisor is zero.
abbrev pub Said : Type 0
Said = Option Answer

-- an operator that has a value for whatever it works on
abbrev pub valued : Option ℤ → Said
valued None = None
valued (Some v) = Some (Ok v)

-- plus and neg say what the arithmetic says
unfoldable pub one_says : Unary → ℕ → Option ℤ → Said
unfolding negated added
one_says f t None = None
one_says time t (Some x) = Some (Ok (pos t))
one_says neg t (Some x) = Some (negated x)
one_says (set k) t (Some x) = Some (Ok k)
one_says (plus k) t (Some x) = Some (added x k)

-- add to eq, of two events or of two latest values: only if both are there
unfoldable pub calc_says : Calc → Option ℤ → Option ℤ → Said
unfolding calculated
calc_says c None b = None
calc_says c (Some x) None = None
calc_says c (Some x) (Some y) = Some (calculated c x y)

unfoldable pub two_says : Binary → Option ℤ → Option ℤ → Said
unfolding calc_says two_at
two_says (calc c) a b = calc_says c a b
two_says keep a b = valued (two_at keep a b)
two_says merge a b = valued (two_at merge a b)

-- where a and b have at t what stands first, and x and y are their latest values at t or before
unfoldable pub signal_says : Calc → (a b x y : Option ℤ) → Said
unfolding calc_says
signal_says c a b x y = cond (has a || has b) (calc_says c x y) None

-- where a has this event, and these are the values of its latest ones
unfoldable pub window_says : Fold → Option ℤ → List ℤ → Said
unfolding folded value_of
window_says f None xs = None
window_says wsum (Some x) xs = Some (folded wsum xs)
window_says wmin (Some x) xs = valued (value_of (folded wmin xs))
window_says wmax (Some x) xs = valued (value_of (folded wmax xs))

-- what stream s with this equation has to say at stamp t, of the readings rd and all streams S. Its row is the value of that:
-- `row_said` in proofs/Missing.antt.
unfoldable pub says : Eqn → (rd S : Streams) → (s t : ℕ) → Said
unfolding one_says two_says signal_says window_says unit_at latest last_at latest_of fires delay_at
says input rd S s t = valued (rd s t)
says nil rd S s t = None
says unit rd S s t = valued (unit_at t)
says (one f a) rd S s t = one_says f t (S a t)
says (two g a b) rd S s t = two_says g (S a t) (S b t)
says (last a b) rd S s t = valued (last_at (S b t) (latest (S a) t))
says (delay a b) rd S s t = valued (delay_at (fires (S a) (S b) (S s) t))
says (signal c a b) rd S s t = signal_says c (S a t) (S b t) (latest (S a) (suc t)) (latest (S b) (suc t))
says (window f k a) rd S s t = window_says f (S a t) (latest_of (width k) (values (events (S a) (suc t))))

-- the event of what was said
abbrev pub shown : Said → Option ℤ
shown None = None
shown (Some r) = value_of r

-- ---- "each stream counts both"

-- the answer has no value, for this reason
abbrev pub lacks : Reason → Answer → Bool
lacks q (Ok v) = false
lacks Outside (Err Outside) = true
lacks Outside (Err ZeroDivisor) = false
lacks ZeroDivisor (Err Outside) = false
lacks ZeroDivisor (Err ZeroDivisor) = true

abbrev pub said_for : Reason → Said → Bool
said_for q None = false
said_for q (Some r) = lacks q r

-- who can lack a value: plus, neg, add, sub, mul, div, rem, their signal forms, and wsum. A comparison is always 1 or 0, and the
-- others have a value for whatever they work on: `never_lacks` in proofs/Missing.antt.
abbrev pub unary_lacks : Unary → Bool
unary_lacks time = false
unary_lacks neg = true
unary_lacks (set k) = false
unary_lacks (plus k) = true

abbrev pub calc_lacks : Calc → Bool
calc_lacks add = true
calc_lacks sub = true
calc_lacks mul = true
calc_lacks div = true
calc_lacks rem = true
calc_lacks lt = false
calc_lacks le = false
calc_lacks eq = false

abbrev pub binary_lacks : Binary → Bool
binary_lacks (calc c) = calc_lacks c
binary_lacks keep = false
binary_lacks merge = false

abbrev pub fold_lacks : Fold → Bool
fold_lacks wsum = true
fold_lacks wmin = false
fold_lacks wmax = false

abbrev pub can_lack : Eqn → Bool
can_lack input = false
can_lack nil = false
can_lack unit = false
can_lack (one f a) = unary_lacks f
can_lack (two g a b) = binary_lacks g
can_lack (last a b) = false
can_lack (delay a b) = false
can_lack (signal c a b) = calc_lacks c
can_lack (window f k a) = fold_lacks f

-- the number of stamps below t that pass the test
unfoldable pub tally : (ℕ → Bool) → ℕ → ℕ
tally f zero = 0
tally f (suc t) = cond (f t) (suc (tally f t)) (tally f t)

-- "each count stopping at 4,294,967,295"
abbrev pub count_limit : ℕ
count_limit = 4294967295

-- "the number of such stamps below the stream's bound, up to that limit": at which an event of stream s with this equation is
-- missing for this reason, the bound being y
unfoldable pub count_below : Reason → Eqn → (rd S : Streams) → (s y : ℕ) → ℕ
unfolding tally says
count_below q e rd S s y = min count_limit (tally (λ t. said_for q (says e rd S s t)) y)
