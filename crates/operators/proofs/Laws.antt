-- The operator table read both ways, each law proved once by computing over the table.
use Prim.Native.Nat.{ℕ, ◌+◌, ◌≤◌, ◌<◌}
use mathlib.Core.Path.{◌≡◌, refl, sym, ap, ◌∙◌}
use mathlib.Core.Bool.{Bool, true, false, not, cond, ◌&&◌, ◌||◌}
use mathlib.Core.List.{map}
use native.Mathlib.Omega.{arith}
use borrow.Author.Tests.{leb-true, leb-false, lt-leb, ne_eqb}
use lib.Dec.{leb, eqb, lit≤}
use lib.ListN.{get_or, get_or-eq_default}
use lib.IntN.{ℤ, pos}
use Rattle.meaning.specs.Plan.{Unary, time, neg, set, plus, Calc, add, sub, mul, div, rem, lt, le, eq, Binary, calc, keep, merge, Eqn, input, nil, unit, one, two, last, delay, signal, window, Fold, wsum, wmin, wmax, is_input}
use Rattle.meaning.specs.Arguments.{arguments, arg_a, arg_b}
use Rattle.meaning.specs.Missing.{can_lack}
use Rattle.operators.specs.Operators.{Operator, no_operator, operators, operator_count, calcs, calc_place, folds, fold_place, unary_number, binary_number, group_of, eqn_of, number_of, value_of, lacks_at, is_present, is_in, is_last, is_delay, is_signal, is_window, takes_first, takes_second, is_operator, uses_a, uses_b, uses_k, arguments_of, eqn_group}
use Rattle.operators.specs.Keepers.{is_keeper}
use Rattle.operators.specs.declared.Group.{Group}
use Rattle.operators.specs.declared.Group.TheVariants.{Absent, One, Two, Signal, Window}
use Rattle.operators.proofs.Tests.{left, right}
use Rattle.operators.proofs.Numbers.{listed, agree, agreeing}

and_false : (x : Bool) → (x && false) ≡ false
and_false true = refl
and_false false = refl

-- ---- the calculations

pub calc_placed : (g : Calc) → get_or calcs (calc_place g) add ≡ g
calc_placed add = refl
calc_placed sub = refl
calc_placed mul = refl
calc_placed div = refl
calc_placed rem = refl
calc_placed lt = refl
calc_placed le = refl
calc_placed eq = refl

pub calc_place_lem : (g : Calc) → calc_place g ≤ 7
calc_place_lem add = lit≤ tt
calc_place_lem sub = lit≤ tt
calc_place_lem mul = lit≤ tt
calc_place_lem div = lit≤ tt
calc_place_lem rem = lit≤ tt
calc_place_lem lt = lit≤ tt
calc_place_lem le = lit≤ tt
calc_place_lem eq = lit≤ tt

-- ---- the windows

pub fold_placed : (f : Fold) → get_or folds (fold_place f) wsum ≡ f
fold_placed wsum = refl
fold_placed wmin = refl
fold_placed wmax = refl

pub fold_place_lem : (f : Fold) → fold_place f ≤ 2
fold_place_lem wsum = lit≤ tt
fold_place_lem wmin = lit≤ tt
fold_place_lem wmax = lit≤ tt

-- ---- laws by computing over the table

-- what two functions of a row give at every row of the table, they give at every number, with a row or not
pub by_row : {A : Type 0} (f g : Operator → A) → f no_operator ≡ g no_operator → map f operators ≡ map g operators → (n : ℕ) → f (get_or operators n no_operator) ≡ g (get_or operators n no_operator)
by_row f g = agreeing f g operators no_operator

-- what two functions of the stored number give at all operators, they give at every one
everywhere : {A : Type 0} (f g : ℕ → A) → listed f 1 operator_count ≡ listed g 1 operator_count → (n : ℕ) → 1 ≤ n → n ≤ operator_count → f n ≡ g n
everywhere f g e n l h = agree f g 1 operator_count e n l (omega arith)

-- what two functions of a place among the calculations give at all eight, they give at the place of each
every_calc : {A : Type 0} (f g : ℕ → A) → listed f 0 8 ≡ listed g 0 8 → (c : Calc) → f (calc_place c) ≡ g (calc_place c)
every_calc f g e c = let h = calc_place_lem c in agree f g 0 8 e (calc_place c) (omega arith) (omega arith)

-- ---- groups

-- from lo on, k numbers have the group x
pub group_range : (x : Group) (lo k : ℕ) → listed group_of lo k ≡ listed (λ n. x) lo k → (n : ℕ) → lo ≤ n → n < lo + k → group_of n ≡ x
group_range x = agree group_of (λ n. x)

-- a number above the table has no row
pub none_above : (n : ℕ) → operator_count < n → get_or operators n no_operator ≡ no_operator
none_above n h = get_or-eq_default operators no_operator {n = n} h

pub absent_above : (n : ℕ) → operator_count < n → group_of n ≡ Absent
unfolding group_of
absent_above n h = rw (none_above n h)

pub one_group : (f : Unary) → group_of (unary_number f) ≡ One
unfolding group_of
one_group time = refl
one_group (set k) = refl
one_group (plus k) = refl
one_group neg = refl

pub two_group : (g : Binary) → group_of (binary_number g) ≡ Two
unfolding group_of
two_group (calc g) = every_calc (λ p. group_of (8 + p)) (λ p. Two) refl g
two_group keep = refl
two_group merge = refl

pub two_value : (g : Binary) → uses_k (binary_number g) ≡ false
unfolding uses_k
two_value (calc g) = every_calc (λ p. uses_k (8 + p)) (λ p. false) refl g
two_value keep = refl
two_value merge = refl

pub signal_group : (g : Calc) → group_of (20 + calc_place g) ≡ Signal
unfolding group_of
signal_group = every_calc (λ p. group_of (20 + p)) (λ p. Signal) refl

pub signal_value : (g : Calc) → uses_k (20 + calc_place g) ≡ false
unfolding uses_k
signal_value = every_calc (λ p. uses_k (20 + p)) (λ p. false) refl

pub window_group : (f : Fold) → group_of (28 + fold_place f) ≡ Window
unfolding group_of
window_group wsum = refl
window_group wmin = refl
window_group wmax = refl

pub window_value : (f : Fold) → uses_k (28 + fold_place f) ≡ true
unfolding uses_k
window_value wsum = refl
window_value wmin = refl
window_value wmax = refl

-- the group of an equation's number, by the shape of the equation
pub group_of_lem : (e : Eqn) → group_of (number_of e) ≡ eqn_group e
unfolding group_of number_of
group_of_lem input = refl
group_of_lem nil = refl
group_of_lem unit = refl
group_of_lem (one f a) = one_group f
group_of_lem (two g a b) = two_group g
group_of_lem (last a b) = refl
group_of_lem (delay a b) = refl
group_of_lem (signal g a b) = signal_group g
group_of_lem (window f k a) = window_group f

pub in_of : (e : Eqn) → is_in (group_of (number_of e)) ≡ is_input e
in_of e = ap is_in (group_of_lem e) ∙ shape e
  where
    shape : (e : Eqn) → is_in (eqn_group e) ≡ is_input e
    shape input = refl
    shape nil = refl
    shape unit = refl
    shape (one f a) = refl
    shape (two g a b) = refl
    shape (last a b) = refl
    shape (delay a b) = refl
    shape (signal g a b) = refl
    shape (window f k a) = refl

-- and its arguments
pub arguments_of_lem : (e : Eqn) → arguments_of (group_of (number_of e)) (arg_a e) (arg_b e) ≡ arguments e
arguments_of_lem e = ap (λ g. arguments_of g (arg_a e) (arg_b e)) (group_of_lem e) ∙ shape e
  where
    shape : (e : Eqn) → arguments_of (eqn_group e) (arg_a e) (arg_b e) ≡ arguments e
    shape input = refl
    shape nil = refl
    shape unit = refl
    shape (one f a) = refl
    shape (two g a b) = refl
    shape (last a b) = refl
    shape (delay a b) = refl
    shape (signal g a b) = refl
    shape (window f k a) = refl

-- ---- from an equation to its row

-- every stored number is an operator's
pub number_range : (e : Eqn) → (1 ≤ number_of e) × (number_of e ≤ operator_count)
unfolding number_of
number_range input = (lit≤ tt, lit≤ tt)
number_range nil = (lit≤ tt, lit≤ tt)
number_range unit = (lit≤ tt, lit≤ tt)
number_range (one time a) = (lit≤ tt, lit≤ tt)
number_range (one (set k) a) = (lit≤ tt, lit≤ tt)
number_range (one (plus k) a) = (lit≤ tt, lit≤ tt)
number_range (one neg a) = (lit≤ tt, lit≤ tt)
number_range (two (calc g) a b) = let r = calc_place_lem g in (omega arith, omega arith)
number_range (two keep a b) = (lit≤ tt, lit≤ tt)
number_range (two merge a b) = (lit≤ tt, lit≤ tt)
number_range (last a b) = (lit≤ tt, lit≤ tt)
number_range (delay a b) = (lit≤ tt, lit≤ tt)
number_range (signal g a b) = let r = calc_place_lem g in (omega arith, omega arith)
number_range (window f k a) = let r = fold_place_lem f in (omega arith, omega arith)

-- the rows of the calculations, and of their signal forms, by the calculation's place
module _ (a b : ℕ) (k : ℤ) (p : ℕ) (h : p ≤ 7) where
  pub calc_row_lem : eqn_of (8 + p) a b k ≡ two (calc (get_or calcs p add)) a b
  unfolding eqn_of
  calc_row_lem = agree (λ p. eqn_of (8 + p) a b k) (λ p. two (calc (get_or calcs p add)) a b) 0 8 refl p (omega arith) (omega arith)

  pub signal_row_lem : eqn_of (20 + p) a b k ≡ signal (get_or calcs p add) a b
  unfolding eqn_of
  signal_row_lem = agree (λ p. eqn_of (20 + p) a b k) (λ p. signal (get_or calcs p add) a b) 0 8 refl p (omega arith) (omega arith)

-- the rows of the windows, by their place
pub window_row_lem : (a b : ℕ) (k : ℤ) (p : ℕ) → p ≤ 2 → eqn_of (28 + p) a b k ≡ window (get_or folds p wsum) k a
unfolding eqn_of
window_row_lem a b k p h = agree (λ p. eqn_of (28 + p) a b k) (λ p. window (get_or folds p wsum) k a) 0 3 refl p (omega arith) (omega arith)

-- every equation is its number with its fields: the row of its number makes it again
pub eqn_back : (e : Eqn) → eqn_of (number_of e) (arg_a e) (arg_b e) (value_of e) ≡ e
unfolding eqn_of number_of value_of
eqn_back input = refl
eqn_back nil = refl
eqn_back unit = refl
eqn_back (one time a) = refl
eqn_back (one (set k) a) = refl
eqn_back (one (plus k) a) = refl
eqn_back (one neg a) = refl
eqn_back (two (calc g) a b) = calc_row_lem a b (pos 0) (calc_place g) (calc_place_lem g) ∙ ap (λ c. two (calc c) a b) (calc_placed g)
eqn_back (two keep a b) = refl
eqn_back (two merge a b) = refl
eqn_back (last a b) = refl
eqn_back (delay a b) = refl
eqn_back (signal g a b) = signal_row_lem a b (pos 0) (calc_place g) (calc_place_lem g) ∙ ap (λ c. signal c a b) (calc_placed g)
eqn_back (window f k a) = window_row_lem a 0 k (fold_place f) (fold_place_lem f) ∙ ap (λ g. window g k a) (fold_placed f)

-- ---- from a row to its equation

-- a test of rows that just the numbers from lo to hi pass
by_range : (f : Operator → Bool) (lo hi : ℕ) → hi ≤ operator_count → f no_operator ≡ false → listed (λ n. f (get_or operators n no_operator)) 0 31 ≡ listed (λ n. leb lo n && leb n hi) 0 31
    → (n : ℕ) → f (get_or operators n no_operator) ≡ (leb lo n && leb n hi)
by_range f lo hi t d e n = go (leb n operator_count) refl
  where
    go : (b : Bool) → leb n operator_count ≡ b → f (get_or operators n no_operator) ≡ (leb lo n && leb n hi)
    go true q = let h = leb-true n operator_count q in agree (λ m. f (get_or operators m no_operator)) (λ m. leb lo m && leb m hi) 0 31 e n (omega arith) (omega arith)
    go false q = let h = leb-false n operator_count q in rw (none_above n h, d, lt-leb n hi (omega arith)) (sym (and_false (leb lo n)))

-- a number is an operator's just where it is not above the table
pub operator_range : (n : ℕ) → is_operator n ≡ (leb 1 n && leb n operator_count)
unfolding group_of
operator_range = by_range (λ o. is_present o.group) 1 operator_count (lit≤ tt) refl refl

-- the number of an operator
pub operator_low : (n : ℕ) → is_operator n ≡ true → 1 ≤ n
operator_low n e = leb-true 1 n (left (leb 1 n) (leb n operator_count) (sym (operator_range n) ∙ e))

pub operator_high : (n : ℕ) → is_operator n ≡ true → n ≤ operator_count
operator_high n e = leb-true n operator_count (right (leb 1 n) (leb n operator_count) (sym (operator_range n) ∙ e))

-- one number alone passes a test of groups
by_number : (f : Group → Bool) (m : ℕ) → m ≤ operator_count → f Absent ≡ false → listed (λ n. f (group_of n)) 0 31 ≡ listed (λ n. eqb n m) 0 31 → (n : ℕ) → f (group_of n) ≡ eqb n m
by_number f m t d e n = go (leb n operator_count) refl
  where
    go : (b : Bool) → leb n operator_count ≡ b → f (group_of n) ≡ eqb n m
    go true q = let h = leb-true n operator_count q in agree (λ x. f (group_of x)) (λ x. eqb x m) 0 31 e n (omega arith) (omega arith)
    go false q = let h = leb-false n operator_count q in ap f (absent_above n h) ∙ d ∙ sym (ne_eqb n m (λ z. omega arith))

pub in_number : (n : ℕ) → is_in (group_of n) ≡ eqb n 1
unfolding group_of
in_number = by_number is_in 1 (lit≤ tt) refl refl

-- the group of operators with one argument
abbrev pub has_one : Group → Bool
has_one g = takes_first g && not (takes_second g)

pub window_range : (n : ℕ) → is_window (group_of n) ≡ (leb 28 n && leb n 30)
unfolding group_of
window_range = by_range (λ o. is_window o.group) 28 30 (lit≤ tt) refl refl

pub keeper_range : (n : ℕ) → is_keeper (group_of n) ≡ (leb 18 n && leb n 27)
unfolding group_of
keeper_range = by_range (λ o. is_keeper o.group) 18 27 (lit≤ tt) refl refl

-- set and plus, and the windows
pub value_range : (n : ℕ) → (uses_k n && not (is_window (group_of n))) ≡ (leb 5 n && leb n 6)
unfolding uses_k group_of
value_range = by_range (λ o. o.value && not (is_window o.group)) 5 6 (lit≤ tt) refl refl

pub window_uses : (n : ℕ) → (uses_k n || is_window (group_of n)) ≡ uses_k n
unfolding uses_k group_of
window_uses = by_row (λ o. o.value || is_window o.group) (λ o. o.value) refl refl

pub value_set : (n : ℕ) → 5 ≤ n → n ≤ 6 → true ≡ uses_k n
unfolding uses_k
value_set n l h = sym (agree uses_k (λ m. true) 5 2 refl n l (omega arith))

pub value_else : (n : ℕ) → (leb 5 n && leb n 6) ≡ false → is_window (group_of n) ≡ uses_k n
value_else n h = go (uses_k n) (is_window (group_of n)) (value_range n ∙ h) (window_uses n)
  where
    go : (u w : Bool) → (u && not w) ≡ false → (u || w) ≡ u → w ≡ u
    go true true e f = refl
    go true false e f = sym e
    go false true e f = f
    go false false e f = refl

-- only an operator with one argument uses a value
pub value_by_group : (n : ℕ) → uses_k n ≡ (has_one (group_of n) && uses_k n)
unfolding uses_k group_of
value_by_group = by_row (λ o. o.value) (λ o. has_one o.group && o.value) refl refl

-- ---- who counts

-- plus to rem, their signal forms, and wsum
abbrev pub counting : ℕ → Bool
counting n = (leb 6 n && leb n 12) || ((leb 20 n && leb n 24) || eqb n 28)

pub lacks_range : (n : ℕ) → lacks_at n ≡ counting n
unfolding lacks_at eqn_of
lacks_range n = go (leb n operator_count) refl
  where
    go : (b : Bool) → leb n operator_count ≡ b → can_lack ((get_or operators n no_operator).eqn 0 0 (pos 0)) ≡ counting n
    go true q = let h = leb-true n operator_count q in agree (λ m. can_lack ((get_or operators m no_operator).eqn 0 0 (pos 0))) counting 0 31 refl n (omega arith) (omega arith)
    go false q = let h = leb-false n operator_count q in rw (none_above n h, lt-leb n 12 (omega arith), lt-leb n 24 (omega arith), ne_eqb n 28 (λ z. omega arith)) (sym (rw (and_false (leb 6 n), and_false (leb 20 n))))

-- whatever its fields
pub lacks_fields : (a b : ℕ) (k : ℤ) (n : ℕ) → can_lack (eqn_of n a b k) ≡ lacks_at n
unfolding lacks_at eqn_of
lacks_fields a b k = by_row (λ o. can_lack (o.eqn a b k)) (λ o. can_lack (o.eqn 0 0 (pos 0))) refl refl

pub lacks_of : (e : Eqn) → lacks_at (number_of e) ≡ can_lack e
lacks_of e = sym (lacks_fields (arg_a e) (arg_b e) (value_of e) (number_of e)) ∙ ap can_lack (eqn_back e)

module _ (a b : ℕ) (k : ℤ) where
  pub number_back : (n : ℕ) → 1 ≤ n → n ≤ operator_count → number_of (eqn_of n a b k) ≡ n
  unfolding eqn_of number_of
  number_back = everywhere (λ n. number_of (eqn_of n a b k)) (λ n. n) refl

  pub first_back : (n : ℕ) → arg_a (eqn_of n a b k) ≡ cond (uses_a n) a 0
  unfolding eqn_of group_of
  first_back = by_row (λ o. arg_a (o.eqn a b k)) (λ o. cond (takes_first o.group) a 0) refl refl

  pub second_back : (n : ℕ) → arg_b (eqn_of n a b k) ≡ cond (uses_b n) b 0
  unfolding eqn_of group_of
  second_back = by_row (λ o. arg_b (o.eqn a b k)) (λ o. cond (takes_second o.group) b 0) refl refl

  pub value_back : (n : ℕ) → value_of (eqn_of n a b k) ≡ cond (uses_k n) k (pos 0)
  unfolding eqn_of uses_k value_of
  value_back = by_row (λ o. value_of (o.eqn a b k)) (λ o. cond o.value k (pos 0)) refl refl

  -- the arguments by the group of the stored number
  pub arguments_by_number : (n : ℕ) → arguments (eqn_of n a b k) ≡ arguments_of (group_of n) a b
  unfolding eqn_of group_of
  arguments_by_number = by_row (λ o. arguments (o.eqn a b k)) (λ o. arguments_of o.group a b) refl refl

  pub input_by_number : (n : ℕ) → is_input (eqn_of n a b k) ≡ is_in (group_of n)
  unfolding eqn_of group_of
  input_by_number = by_row (λ o. is_input (o.eqn a b k)) (λ o. is_in o.group) refl refl

  -- which of the groups that keep something
  pub last_by_number : (n : ℕ) → is_last (eqn_group (eqn_of n a b k)) ≡ is_last (group_of n)
  unfolding eqn_of group_of
  last_by_number = by_row (λ o. is_last (eqn_group (o.eqn a b k))) (λ o. is_last o.group) refl refl

  pub delay_by_number : (n : ℕ) → is_delay (eqn_group (eqn_of n a b k)) ≡ is_delay (group_of n)
  unfolding eqn_of group_of
  delay_by_number = by_row (λ o. is_delay (eqn_group (o.eqn a b k))) (λ o. is_delay o.group) refl refl

  pub signal_by_number : (n : ℕ) → is_signal (eqn_group (eqn_of n a b k)) ≡ is_signal (group_of n)
  unfolding eqn_of group_of
  signal_by_number = by_row (λ o. is_signal (eqn_group (o.eqn a b k))) (λ o. is_signal o.group) refl refl

  pub window_by_number : (n : ℕ) → is_window (eqn_group (eqn_of n a b k)) ≡ is_window (group_of n)
  unfolding eqn_of group_of
  window_by_number = by_row (λ o. is_window (eqn_group (o.eqn a b k))) (λ o. is_window o.group) refl refl
