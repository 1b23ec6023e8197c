-- Believe: the operator table, row by row: what each stream has at stamp t.
use Rattle.std.specs.Prelude.{Option, None, Some, Ok, Err, ℕ, zero, suc, ◌-◌, ◌<◌, ◌≡◌, Bool, true, false, not, cond, ◌&&◌, ◌||◌, List, [], ◌∷◌, map, ltb, eqb, ℤ, pos, negsuc, ◌+ℤ◌, length, drop}
use Rattle.std.specs.Int.Signed.{le_z}
use Rattle.num.specs.declared.Reason.TheVariants.{Outside}
use Rattle.num.specs.Arithmetic.{Answer, is_zero, fit, negated, added, subtracted, multiplied, divided, remainder, less, at_most, equal}
use Rattle.meaning.specs.Plan.{Unary, time, neg, set, plus, Calc, add, sub, mul, div, rem, lt, le, eq, Binary, calc, keep, merge, Eqn, input, nil, unit, one, two, last, delay, signal, window, Fold, wsum, wmin, wmax, Plan, eqn_at}
use Rattle.meaning.specs.Events.{Event, Stream, Streams, events, has, or_else}

-- "A result outside the value range, or a zero divisor, gives no event."
unfoldable pub value_of : Answer → Option ℤ
value_of (Ok v) = Some v
value_of (Err q) = None

-- time: a's event, with value t. set, plus: a's event, with value k, or its value plus k. neg: a's event, negated.
unfoldable pub one_at : Unary → ℕ → Option ℤ → Option ℤ
unfolding value_of negated added
one_at f t None = None
one_at time t (Some x) = Some (pos t)
one_at neg t (Some x) = value_of (negated x)
one_at (set k) t (Some x) = Some k
one_at (plus k) t (Some x) = value_of (added x k)

-- add sub mul div rem lt le eq, of two values
unfoldable pub calculated : Calc → ℤ → ℤ → Answer
unfolding added subtracted multiplied divided remainder less at_most equal
calculated add x y = added x y
calculated sub x y = subtracted x y
calculated mul x y = multiplied x y
calculated div x y = divided x y
calculated rem x y = remainder x y
calculated lt x y = less x y
calculated le x y = at_most x y
calculated eq x y = equal x y

-- add to eq: only if both have an event at t. keep: a's event, if b has one at t that is not 0. merge: a's event, or else b's.
unfoldable pub two_at : Binary → Option ℤ → Option ℤ → Option ℤ
unfolding value_of calculated is_zero
two_at (calc g) None b = None
two_at (calc g) (Some x) None = None
two_at (calc g) (Some x) (Some y) = value_of (calculated g x y)
two_at keep None b = None
two_at keep (Some x) None = None
two_at keep (Some x) (Some y) = cond (is_zero y) None (Some x)
two_at merge a b = or_else a b

-- unit: one event, value 0, at stamp 0
unfoldable pub unit_at : ℕ → Option ℤ
unit_at zero = Some (pos 0)
unit_at (suc t) = None

-- the value of a's latest event strictly before t, if any
unfoldable pub latest : Stream → ℕ → Option ℤ
latest a zero = None
latest a (suc t) = or_else (a t) (latest a t)

-- last: if b has an event at t, what a had latest strictly before
unfoldable pub last_at : Option ℤ → Option ℤ → Option ℤ
last_at None v = None
last_at (Some x) v = v

-- sadd to seq, where a and b have at t what stands first and x and y are their latest values at t or before: "It has an event
-- at each stamp where either argument has one and both have had one at that stamp or before, and works on the latest values;
-- a result outside the range or a zero divisor still gives no event."
unfoldable pub signal_at : Calc → (a b x y : Option ℤ) → Option ℤ
unfolding two_at
signal_at c a b x y = cond (has a || has b) (two_at (calc c) x y) None

-- ---- windows: "at each event of a, the sum, least or greatest of the latest k events, this one included, or of all so far
-- while fewer. A sum out of range gives no event."

-- the latest k of a list, all of it while it has fewer
unfoldable pub latest_of : {A : Type 0} → ℕ → List A → List A
latest_of k xs = drop (length xs - k) xs

abbrev pub values : List Event → List ℤ
values es = map (λ e. e.value) es

-- how many events a window of k has: rule 18 keeps k from 1 to 64
abbrev pub width : ℤ → ℕ
width (pos k) = k
width (negsuc k) = 0

abbrev pub total : List ℤ → ℤ
total [] = pos 0
total (x ∷ xs) = x +ℤ total xs

-- the least and the greatest of x and the others
abbrev pub least_of : ℤ → List ℤ → ℤ
least_of x [] = x
least_of x (y ∷ ys) = least_of (cond (le_z x y) x y) ys

abbrev pub greatest_of : ℤ → List ℤ → ℤ
greatest_of x [] = x
greatest_of x (y ∷ ys) = greatest_of (cond (le_z x y) y x) ys

-- the sum is over whole numbers, and tested for the range once. No window that gives an event is of no events.
unfoldable pub folded : Fold → List ℤ → Answer
unfolding fit
folded wsum xs = fit (total xs)
folded wmin [] = Err Outside
folded wmin (x ∷ xs) = Ok (least_of x xs)
folded wmax [] = Err Outside
folded wmax (x ∷ xs) = Ok (greatest_of x xs)

-- wsum, wmin, wmax: where a has an event, what is told of these values
unfoldable pub window_at_lem : Fold → Option ℤ → List ℤ → Option ℤ
unfolding value_of folded
window_at_lem f None xs = None
window_at_lem f (Some x) xs = value_of (folded f xs)

-- some stamp below t passes the test
unfoldable pub any_below : ℕ → (ℕ → Bool) → Bool
any_below zero f = false
any_below (suc t) f = f t || any_below t f

-- the value is the number n
abbrev pub is : ℕ → Option ℤ → Bool
is n None = false
is n (Some (pos m)) = eqb m n
is n (Some (negsuc m)) = false

-- "A set point of a delay is a stamp at which b or the delay itself has an event. The delay fires (value 0) at t exactly
-- if for some set point p < t the stream a has value t − p at p, and b has no event strictly between p and t. A value at
-- or below 0, or one that leads past the last stamp, fires nothing." (t − p is above 0, and t is a stamp.)
unfoldable pub fires : (a b d : Stream) → ℕ → Bool
unfolding any_below
fires a b d t =
    any_below t (λ p. (has (b p) || has (d p)) && is (t - p) (a p) && not (any_below t (λ q. ltb p q && has (b q))))

unfoldable pub delay_at : Bool → Option ℤ
delay_at true = Some (pos 0)
delay_at false = None

-- the table: what stream s with this equation has at stamp t, of the readings rd and all streams S
unfoldable pub at : Eqn → (rd S : Streams) → (s t : ℕ) → Option ℤ
unfolding one_at two_at unit_at last_at latest delay_at fires signal_at window_at_lem latest_of
at input rd S s t = rd s t
at nil rd S s t = None
at unit rd S s t = unit_at t
at (one f a) rd S s t = one_at f t (S a t)
at (two g a b) rd S s t = two_at g (S a t) (S b t)
at (last a b) rd S s t = last_at (S b t) (latest (S a) t)
at (delay a b) rd S s t = delay_at (fires (S a) (S b) (S s) t)
at (signal c a b) rd S s t = signal_at c (S a t) (S b t) (latest (S a) (suc t)) (latest (S b) (suc t))
at (window f k a) rd S s t = window_at_lem f (S a t) (latest_of (width k) (values (events (S a) (suc t))))

-- S solves the plan for the readings rd below the stamp h: each stream has at each stamp what its row says
pub record Solves (plan : Plan) (rd S : Streams) (h : ℕ) : Type 0 where
  pub each : (s t : ℕ) → t < h → S s t ≡ at (eqn_at plan s) rd S s t
