-- Believe: the operator table: each operator's name, its stored number, its group, and the equation that it makes of the
-- fields of a stream.
use Rattle.std.specs.Prelude.{ℕ, ◌+◌, Bool, true, false, List, [], ◌∷◌, ◌++◌, map, get_or, ℤ, pos}
use Rattle.meaning.specs.Plan.{Unary, time, neg, set, plus, Calc, add, sub, mul, div, rem, lt, le, eq, Binary, calc, keep, merge, Eqn, input, nil, unit, one, two, last, delay, signal, window, Fold, wsum, wmin, wmax}
use Rattle.meaning.specs.Arguments.{Argument, prompt, late}
use Rattle.meaning.specs.Missing.{can_lack}
use Rattle.operators.specs.declared.Group.{Group}
use Rattle.operators.specs.declared.Group.TheVariants.{Absent, Input, Plain, One, Two, Last, Delay, Signal, Window}

-- An operator: its name in bytes, its group, whether it uses a value k, and its equation with the arguments a and b and the value k.
-- "In the engine a stream is its operator with just the arguments which that operator uses."
pub record Operator : Type 0 where
  pub name : List ℕ
  pub group : Group
  pub value : Bool
  pub eqn : ℕ → ℕ → ℤ → Eqn

abbrev pub operator : List ℕ → Group → Bool → (ℕ → ℕ → ℤ → Eqn) → Operator
operator name group value eqn = record { name = name; group = group; value = value; eqn = eqn }

-- what stands for a number that no operator has
abbrev pub no_operator : Operator
no_operator = operator [] Absent false (λ a b k. nil)

-- ---- the calculations, in the order of their numbers

abbrev pub calcs : List Calc
calcs = add ∷ sub ∷ mul ∷ div ∷ rem ∷ lt ∷ le ∷ eq ∷ []

abbrev pub calc_name : Calc → List ℕ
calc_name add = 97 ∷ 100 ∷ 100 ∷ []
calc_name sub = 115 ∷ 117 ∷ 98 ∷ []
calc_name mul = 109 ∷ 117 ∷ 108 ∷ []
calc_name div = 100 ∷ 105 ∷ 118 ∷ []
calc_name rem = 114 ∷ 101 ∷ 109 ∷ []
calc_name lt = 108 ∷ 116 ∷ []
calc_name le = 108 ∷ 101 ∷ []
calc_name eq = 101 ∷ 113 ∷ []

-- the place of a calculation in that list
abbrev pub calc_place : Calc → ℕ
calc_place add = 0
calc_place sub = 1
calc_place mul = 2
calc_place div = 3
calc_place rem = 4
calc_place lt = 5
calc_place le = 6
calc_place eq = 7

abbrev pub calc_row : Calc → Operator
calc_row g = operator (calc_name g) Two false (λ a b k. two (calc g) a b)

-- "a signal form with s in front"
abbrev pub signal_row : Calc → Operator
signal_row g = operator (115 ∷ calc_name g) Signal false (λ a b k. signal g a b)

-- ---- the windows, in the order of their numbers

abbrev pub folds : List Fold
folds = wsum ∷ wmin ∷ wmax ∷ []

abbrev pub fold_name : Fold → List ℕ
fold_name wsum = 119 ∷ 115 ∷ 117 ∷ 109 ∷ []
fold_name wmin = 119 ∷ 109 ∷ 105 ∷ 110 ∷ []
fold_name wmax = 119 ∷ 109 ∷ 97 ∷ 120 ∷ []

-- the place of a window's operator in that list
abbrev pub fold_place : Fold → ℕ
fold_place wsum = 0
fold_place wmin = 1
fold_place wmax = 2

-- "wsum, wmin and wmax with a and k"
abbrev pub window_row : Fold → Operator
window_row f = operator (fold_name f) Window true (λ a b k. window f k a)

-- ---- the table

-- "The op line names one of nineteen operators", and eight signal forms and three windows come to them. The stored number is
-- the place in this list; place 0 is no operator.
abbrev pub operators : List Operator
operators =
    no_operator
    ∷ operator (105 ∷ 110 ∷ []) Input false (λ a b k. input)  -- 1 in
    ∷ operator (110 ∷ 105 ∷ 108 ∷ []) Plain false (λ a b k. nil)  -- 2 nil
    ∷ operator (117 ∷ 110 ∷ 105 ∷ 116 ∷ []) Plain false (λ a b k. unit)  -- 3 unit
    ∷ operator (116 ∷ 105 ∷ 109 ∷ 101 ∷ []) One false (λ a b k. one time a)  -- 4 time
    ∷ operator (115 ∷ 101 ∷ 116 ∷ []) One true (λ a b k. one (set k) a)  -- 5 set
    ∷ operator (112 ∷ 108 ∷ 117 ∷ 115 ∷ []) One true (λ a b k. one (plus k) a)  -- 6 plus
    ∷ operator (110 ∷ 101 ∷ 103 ∷ []) One false (λ a b k. one neg a)  -- 7 neg
    ∷ (map calc_row calcs  -- 8 add to 15 eq
    ++ (operator (107 ∷ 101 ∷ 101 ∷ 112 ∷ []) Two false (λ a b k. two keep a b)  -- 16 keep
    ∷ operator (109 ∷ 101 ∷ 114 ∷ 103 ∷ 101 ∷ []) Two false (λ a b k. two merge a b)  -- 17 merge
    ∷ operator (108 ∷ 97 ∷ 115 ∷ 116 ∷ []) Last false (λ a b k. last a b)  -- 18 last
    ∷ operator (100 ∷ 101 ∷ 108 ∷ 97 ∷ 121 ∷ []) Delay false (λ a b k. delay a b)  -- 19 delay
    ∷ (map signal_row calcs  -- 20 sadd to 27 seq
    ++ map window_row folds)))  -- 28 wsum to 30 wmax

-- how many operators there are, and so the greatest stored number
abbrev pub operator_count : ℕ
operator_count = 30

unfoldable pub name_of : ℕ → List ℕ
name_of n = (get_or operators n no_operator).name

unfoldable pub group_of : ℕ → Group
group_of n = (get_or operators n no_operator).group

-- set, plus and the windows
unfoldable pub uses_k : ℕ → Bool
uses_k n = (get_or operators n no_operator).value

-- the equation with this stored number and these fields
unfoldable pub eqn_of : ℕ → ℕ → ℕ → ℤ → Eqn
eqn_of n a b k = (get_or operators n no_operator).eqn a b k

-- whether an event of the operator with this stored number can be missing, so that it counts: whatever its fields are
unfoldable pub lacks_at : ℕ → Bool
unfolding eqn_of
lacks_at n = can_lack (eqn_of n 0 0 (pos 0))

-- ---- what a group says of its operators

abbrev pub is_present : Group → Bool
is_present Absent = false
is_present Input = true
is_present Plain = true
is_present One = true
is_present Two = true
is_present Last = true
is_present Delay = true
is_present Signal = true
is_present Window = true

abbrev pub is_in : Group → Bool
is_in Absent = false
is_in Input = true
is_in Plain = false
is_in One = false
is_in Two = false
is_in Last = false
is_in Delay = false
is_in Signal = false
is_in Window = false

abbrev pub is_last : Group → Bool
is_last Absent = false
is_last Input = false
is_last Plain = false
is_last One = false
is_last Two = false
is_last Last = true
is_last Delay = false
is_last Signal = false
is_last Window = false

abbrev pub is_delay : Group → Bool
is_delay Absent = false
is_delay Input = false
is_delay Plain = false
is_delay One = false
is_delay Two = false
is_delay Last = false
is_delay Delay = true
is_delay Signal = false
is_delay Window = false

abbrev pub is_signal : Group → Bool
is_signal Absent = false
is_signal Input = false
is_signal Plain = false
is_signal One = false
is_signal Two = false
is_signal Last = false
is_signal Delay = false
is_signal Signal = true
is_signal Window = false

abbrev pub is_window : Group → Bool
is_window Absent = false
is_window Input = false
is_window Plain = false
is_window One = false
is_window Two = false
is_window Last = false
is_window Delay = false
is_window Signal = false
is_window Window = true

abbrev pub takes_first : Group → Bool
takes_first Absent = false
takes_first Input = false
takes_first Plain = false
takes_first One = true
takes_first Two = true
takes_first Last = true
takes_first Delay = true
takes_first Signal = true
takes_first Window = true

abbrev pub takes_second : Group → Bool
takes_second Absent = false
takes_second Input = false
takes_second Plain = false
takes_second One = false
takes_second Two = true
takes_second Last = true
takes_second Delay = true
takes_second Signal = true
takes_second Window = false

-- the first argument of a last or a delay is delayed
abbrev pub delays_first : Group → Bool
delays_first Absent = false
delays_first Input = false
delays_first Plain = false
delays_first One = false
delays_first Two = false
delays_first Last = true
delays_first Delay = true
delays_first Signal = false
delays_first Window = false

-- the arguments that an operator of the group makes of a and b
abbrev pub arguments_of : Group → ℕ → ℕ → List Argument
arguments_of Absent a b = []
arguments_of Input a b = []
arguments_of Plain a b = []
arguments_of One a b = prompt a ∷ []
arguments_of Two a b = prompt a ∷ prompt b ∷ []
arguments_of Last a b = late a ∷ prompt b ∷ []
arguments_of Delay a b = late a ∷ prompt b ∷ []
arguments_of Signal a b = prompt a ∷ prompt b ∷ []
arguments_of Window a b = prompt a ∷ []

abbrev pub is_operator : ℕ → Bool
is_operator n = is_present (group_of n)

abbrev pub uses_a : ℕ → Bool
uses_a n = takes_first (group_of n)

abbrev pub uses_b : ℕ → Bool
uses_b n = takes_second (group_of n)

abbrev pub delays_a : ℕ → Bool
delays_a n = delays_first (group_of n)

-- ---- back from an equation: the group, the stored number, and the value, 0 where the operator uses none

abbrev pub eqn_group : Eqn → Group
eqn_group input = Input
eqn_group nil = Plain
eqn_group unit = Plain
eqn_group (one f a) = One
eqn_group (two g a b) = Two
eqn_group (last a b) = Last
eqn_group (delay a b) = Delay
eqn_group (signal c a b) = Signal
eqn_group (window f k a) = Window

abbrev pub unary_number : Unary → ℕ
unary_number time = 4
unary_number (set k) = 5
unary_number (plus k) = 6
unary_number neg = 7

abbrev pub binary_number : Binary → ℕ
binary_number (calc g) = 8 + calc_place g
binary_number keep = 16
binary_number merge = 17

unfoldable pub number_of : Eqn → ℕ
number_of input = 1
number_of nil = 2
number_of unit = 3
number_of (one f a) = unary_number f
number_of (two g a b) = binary_number g
number_of (last a b) = 18
number_of (delay a b) = 19
number_of (signal c a b) = 20 + calc_place c
number_of (window f k a) = 28 + fold_place f

abbrev pub unary_value : Unary → ℤ
unary_value time = pos 0
unary_value (set k) = k
unary_value (plus k) = k
unary_value neg = pos 0

unfoldable pub value_of : Eqn → ℤ
value_of input = pos 0
value_of nil = pos 0
value_of unit = pos 0
value_of (one f a) = unary_value f
value_of (two g a b) = pos 0
value_of (last a b) = pos 0
value_of (delay a b) = pos 0
value_of (signal c a b) = pos 0
value_of (window f k a) = k
