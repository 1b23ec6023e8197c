-- Whatever an equation gives or keeps of sound cells is a value.
use Prim.Native.Nat.{ℕ, zero, suc, ◌-◌, ◌<◌}
use mathlib.Core.Bool.{Bool, true, false, cond, ◌||◌}
use Rattle.std.specs.Prelude.{Option, None, Some, Ok, Err}
use mathlib.Core.List.{List, [], ◌∷◌, ◌++◌}
use native.Mathlib.Omega.{arith}
use lib.Dec.{eqb, ltb, lit<}
use lib.IntN.{ℤ, pos}
use lib.ListN.{length, drop}
use lib.Signed.{le_z}
use Rattle.num.specs.Arithmetic.{Answer}
use Rattle.num.specs.Arithmetic.{is_zero, negated, added}
use Rattle.num.proofs.Values.{InRange, negated_in, added_in, subtracted_in, multiplied_in, divided_in, remainder_in, less_in, at_most_in, equal_in}
use Rattle.meaning.specs.Plan.{Unary, time, neg, set, plus, Calc, add, sub, mul, div, rem, lt, le, eq, Binary, calc, keep, merge, Eqn, input, nil, unit, one, two, last, delay, signal, window, Fold, wsum, wmin, wmax}
use Rattle.meaning.specs.Events.{Event, Stream, found, here, events, has, or_else, horizon}
use Rattle.meaning.specs.Table.{value_of, one_at, calculated, two_at, unit_at, latest, last_at, signal_at, latest_of, values, width, total, least_of, greatest_of, folded, window_at_lem, delay_at}
use Rattle.machine.specs.State.{Cell, Kept}
use Rattle.machine.specs.Reach.{view, held_latest, due, point, from, slid, gives}
use Rattle.machine.proofs.Lasts.{values_append}
use Rattle.operators.specs.Operators as operators
use Rattle.encoding.specs.Sound.{IsValue, IsOptional, Rising, AllValues, IsKept, IsPassed, SoundCell}

-- ---- arithmetic

answer_value : (a : Answer) → InRange a → IsOptional (value_of a)
unfolding value_of
answer_value (Ok v) h = h
answer_value (Err q) h = tt

calc_in : (g : Calc) (x y : ℤ) → InRange (calculated g x y)
unfolding calculated
calc_in add x y = added_in x y
calc_in sub x y = subtracted_in x y
calc_in mul x y = multiplied_in x y
calc_in div x y = divided_in x y
calc_in rem x y = remainder_in x y
calc_in lt x y = less_in x y
calc_in le x y = at_most_in x y
calc_in eq x y = equal_in x y

-- ---- options

pub or_value : (a b : Option ℤ) → IsOptional a → IsOptional b → IsOptional (or_else a b)
or_value None b h k = k
or_value (Some x) b h k = h

pub cond_value : (p : Bool) (a b : Option ℤ) → IsOptional a → IsOptional b → IsOptional (cond p a b)
cond_value true a b h k = h
cond_value false a b h k = k

pub found_value : (lo top : ℕ) (es : List Event) → Rising lo top es → (t : ℕ) → IsOptional (found es t)
found_value lo top [] r t = tt
found_value lo top (e ∷ es) r t = cond_value (eqb e.stamp t) (Some e.value) (found es t) r.1 (found_value (suc e.stamp) top es r.2 t)

pub latest_value : (f : Stream) → ((t : ℕ) → IsOptional (f t)) → (t : ℕ) → IsOptional (latest f t)
unfolding latest
latest_value f h zero = tt
latest_value f h (suc t) = or_value (f t) (latest f t) (h t) (latest_value f h t)

-- ---- lists of values

all_append : (xs ys : List ℤ) → AllValues xs → AllValues ys → AllValues (xs ++ ys)
all_append [] ys h k = k
all_append (x ∷ xs) ys h k = (h.0, all_append xs ys h.1 k)

all_drop : (n : ℕ) (xs : List ℤ) → AllValues xs → AllValues (drop n xs)
all_drop zero xs h = h
all_drop (suc n) [] h = h
all_drop (suc n) (x ∷ xs) h = all_drop n xs h.1

here_values : (t : ℕ) (x : Option ℤ) → IsOptional x → AllValues (values (here t x))
here_values t None h = tt
here_values t (Some v) h = (h, tt)

events_values : (f : Stream) → ((t : ℕ) → IsOptional (f t)) → (x : ℕ) → AllValues (values (events f x))
events_values f h zero = tt
events_values f h (suc x) = rw (values_append (events f x) (here x (f x))) (all_append (values (events f x)) (values (here x (f x))) (events_values f h x) (here_values x (f x) (h x)))

-- a window slides over values
pub slid_values : (k y x : ℕ) (w : List ℤ) (f : Stream) → AllValues w → ((t : ℕ) → IsOptional (f t)) → AllValues (slid k y x w f)
unfolding latest_of
slid_values k y x w f hw h =
    let new = values (events (from y f) x) in
    all_drop (length (w ++ new) - k) (w ++ new) (all_append w new hw (events_values (from y f) (λ t. cond_value (ltb t y) None (f t) tt (h t)) x))

-- ---- the rows

one_value : (f : Unary) (t : ℕ) (x : Option ℤ) → t < horizon → IsValue (operators.unary_value f) → IsOptional (one_at f t x)
unfolding one_at
one_value f t None h k = tt
one_value time t (Some x) h k = omega arith
one_value neg t (Some x) h k = answer_value (negated x) (negated_in x)
one_value (set v) t (Some x) h k = k
one_value (plus v) t (Some x) h k = answer_value (added x v) (added_in x v)

two_value : (g : Binary) (x y : Option ℤ) → IsOptional x → IsOptional y → IsOptional (two_at g x y)
unfolding two_at
two_value (calc g) None y h k = tt
two_value (calc g) (Some x) None h k = tt
two_value (calc g) (Some x) (Some y) h k = answer_value (calculated g x y) (calc_in g x y)
two_value keep None y h k = tt
two_value keep (Some x) None h k = tt
two_value keep (Some x) (Some y) h k = cond_value (is_zero y) None (Some x) tt h
two_value merge x y h k = or_value x y h k

unit_value : (t : ℕ) → IsOptional (unit_at t)
unfolding unit_at
unit_value zero = lit< tt
unit_value (suc t) = tt

last_value : (b v : Option ℤ) → IsOptional v → IsOptional (last_at b v)
unfolding last_at
last_value None v h = tt
last_value (Some x) v h = h

delay_value : (b : Bool) → IsOptional (delay_at b)
unfolding delay_at
delay_value true = lit< tt
delay_value false = tt

signal_value : (c : Calc) (a b x y : Option ℤ) → IsOptional x → IsOptional y → IsOptional (signal_at c a b x y)
unfolding signal_at
signal_value c a b x y h k = cond_value (has a || has b) (two_at (calc c) x y) None (two_value (calc c) x y h k) tt

pick_value : (p : Bool) (x y : ℤ) → IsValue x → IsValue y → IsValue (cond p x y)
pick_value true x y h k = h
pick_value false x y h k = k

least_value_lem : (x : ℤ) (xs : List ℤ) → IsValue x → AllValues xs → IsValue (least_of x xs)
least_value_lem x [] h k = h
least_value_lem x (y ∷ ys) h k = least_value_lem (cond (le_z x y) x y) ys (pick_value (le_z x y) x y h k.0) k.1

greatest_value : (x : ℤ) (xs : List ℤ) → IsValue x → AllValues xs → IsValue (greatest_of x xs)
greatest_value x [] h k = h
greatest_value x (y ∷ ys) h k = greatest_value (cond (le_z x y) y x) ys (pick_value (le_z x y) y x k.0 h) k.1

-- a sum of none is 0 and 0
fold_in : (f : Fold) (xs : List ℤ) → AllValues xs → InRange (folded f xs)
unfolding folded added
fold_in wsum [] h = added_in (pos 0) (pos 0)
fold_in wsum (x ∷ xs) h = added_in x (total xs)
fold_in wmin [] h = tt
fold_in wmin (x ∷ xs) h = least_value_lem x xs h.0 h.1
fold_in wmax [] h = tt
fold_in wmax (x ∷ xs) h = greatest_value x xs h.0 h.1

window_value : (f : Fold) (x : Option ℤ) (xs : List ℤ) → AllValues xs → IsOptional (window_at_lem f x xs)
unfolding window_at_lem
window_value f None xs h = tt
window_value f (Some x) xs h = answer_value (folded f xs) (fold_in f xs h)

-- a cell's held events are values
abbrev pub Holds : Cell → Type 0
Holds c = (t : ℕ) → IsOptional (view c t)

pub holds : (n : ℕ) (c : Cell) → SoundCell n c → Holds c
holds n c ok = found_value 0 c.bound c.held ok.held

-- what a stream had latest, held or kept
pub held_latest_lem : (x : Cell) (t : ℕ) (o : Option ℤ) → Holds x → IsOptional o → IsOptional (held_latest x t o)
held_latest_lem x t o h k = or_value (latest (view x) t) o (latest_value (view x) h t) k

kept_value : (e : Eqn) (y : ℕ) (k : Kept) → IsKept e y k → IsOptional k.prev × IsOptional k.prev_b × IsOptional k.value × IsOptional k.prior
kept_value input y k ok = rw ok (tt, tt, tt, tt)
kept_value nil y k ok = rw ok (tt, tt, tt, tt)
kept_value unit y k ok = rw ok (tt, tt, tt, tt)
kept_value (one f a) y k ok = rw ok (tt, tt, tt, tt)
kept_value (two g a b) y k ok = rw ok (tt, tt, tt, tt)
kept_value (last a b) y k ok = (ok.prev, rw ok.prev_b tt, rw ok.value tt, rw ok.prior tt)
kept_value (delay a b) y k ok = (rw ok.prev tt, rw ok.prev_b tt, ok.value, ok.prior)
kept_value (signal c a b) y k ok = (ok.prev, ok.prev_b, rw ok.value tt, rw ok.prior tt)
kept_value (window f n a) y k ok = rw ok (tt, tt, tt, tt)

-- what an equation gives at a stamp
pub gives_value : (n : ℕ) (e : Eqn) (o a b : Cell) (t : ℕ) → t < horizon → IsKept e o.bound o.kept → IsPassed e o.bound o.passed → IsValue (operators.value_of e) → Holds a → Holds b → IsOptional (gives e o a b t)
unfolding operators.value_of
gives_value n input o a b t h k w v ha hb = tt
gives_value n nil o a b t h k w v ha hb = tt
gives_value n unit o a b t h k w v ha hb = unit_value t
gives_value n (one f _) o a b t h k w v ha hb = one_value f t (view a t) h v
gives_value n (two g _ _) o a b t h k w v ha hb = two_value g (view a t) (view b t) (ha t) (hb t)
gives_value n (last x y) o a b t h k w v ha hb = last_value (view b t) (held_latest a t o.kept.prev) (held_latest_lem a t o.kept.prev ha (kept_value (last x y) o.bound o.kept k).0)
gives_value n (delay x y) o a b t h k w v ha hb = delay_value (due o a (point o b t) t)
gives_value n (signal c x y) o a b t h k w v ha hb =
    signal_value c (view a t) (view b t) (held_latest a (suc t) o.kept.prev) (held_latest b (suc t) o.kept.prev_b) (held_latest_lem a (suc t) o.kept.prev ha k.prev) (held_latest_lem b (suc t) o.kept.prev_b hb k.prev_b)
gives_value n (window f m _) o a b t h k w v ha hb = window_value f (view a t) (slid (width m) o.bound (suc t) o.passed.window (view a)) (slid_values (width m) o.bound (suc t) o.passed.window (view a) w.values ha)
