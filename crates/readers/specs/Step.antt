-- How: the steps of the calls on raw records: total functions of numbers and slots.
use Rattle.std.specs.Prelude.{ℕ, zero, suc, ◌+◌, min, List, [], ◌∷◌, map, Bool, false, cond, leb, ltb, eqb, get_or}
use Rattle.meaning.specs.Events.{horizon}
use Rattle.machine.specs.Step.{any_of}
use Rattle.operators.specs.Operators.{group_of, is_last, is_delay, arguments_of}
use Rattle.queue.specs.Queue.{pushed, released}
use Rattle.layout.specs.Record.{Raw, Raws, no_raw, num, with_num, row_at, change, change_all, op_f, a_f, b_f, out_f, flag_f, prior_flag_f, bound_f, next_f, kept_f, value_f, prior_f}

-- whether the record's equation reads stream s
unfoldable pub reads_row : ℕ → Raw → Bool
reads_row s r = any_of s (map (λ x. x.stream) (arguments_of (group_of (num op_f r)) (num a_f r) (num b_f r)))

-- ---- a reader ahead of the event (t, v) of stream s takes what it needs of it

unfoldable pub told_last : ℕ → ℕ → Raw → Raw
told_last s v r = cond (eqb (num a_f r) s) (with_num kept_f v (with_num flag_f 1 r)) r

-- a delay's event of its first argument, at the time that number d is one past: that it is there in number f, its value in j
unfoldable pub told_at : (d f j : ℕ) → (s t v : ℕ) → Raw → Raw
told_at d f j s t v r = cond (eqb (num a_f r) s) (cond (eqb (num d r) (t + 1)) (with_num j v (with_num f 1 r)) r) r

-- at its latest set point
abbrev pub told_value : (s t v : ℕ) → Raw → Raw
told_value s t v r = told_at kept_f flag_f value_f s t v r

-- just below its bound
abbrev pub told_prior : (s t v : ℕ) → Raw → Raw
told_prior s t v r = told_at bound_f prior_flag_f prior_f s t v r

-- a set point at t, and whether its first argument has an event there, and its value
abbrev pub set_point : (t has v : ℕ) → Raw → Raw
set_point t has v r = with_num kept_f (t + 1) (with_num value_f v (with_num flag_f has r))

-- its second argument's event, unless a later set point is known: its first argument's there is known just below the bound
unfoldable pub told_since : ℕ → ℕ → Raw → Raw
told_since s t r =
    cond (eqb (num b_f r) s)
    (cond (leb (num kept_f r) t)
    (cond (eqb (num bound_f r) (t + 1)) (set_point t (num prior_flag_f r) (num prior_f r) r) (set_point t 0 0 r))
    r)
    r

unfoldable pub told_delay : ℕ → ℕ → ℕ → Raw → Raw
unfolding told_at told_since
told_delay s t v r = told_since s t (told_prior s t v (told_value s t v r))

unfoldable pub told_row : ℕ → ℕ → ℕ → Raw → Raw
unfolding told_last told_delay
told_row s t v r =
    cond (ltb t (num bound_f r))
    (cond (is_last (group_of (num op_f r))) (told_last s v r) (cond (is_delay (group_of (num op_f r))) (told_delay s t v r) r))
    r

-- ---- release

-- the least bound of the readers of s, the horizon if no record reads it
unfoldable pub lowered : ℕ → Raw → ℕ → ℕ
unfolding reads_row
lowered s r acc = cond (reads_row s r) (min (num bound_f r) acc) acc

unfoldable pub least_row : ℕ → List Raw → ℕ
unfolding lowered
least_row s [] = horizon
least_row s (r ∷ rs) = lowered s r (least_row s rs)

-- one past the last of the first n records that reads s, 0 if none does
unfoldable pub last_reader : ℕ → List Raw → ℕ → ℕ
unfolding reads_row
last_reader s rs zero = 0
last_reader s rs (suc n) = cond (reads_row s (get_or rs n no_raw)) (suc n) (last_reader s rs n)

-- whether the record before this one waits for an event at t; before the first there is none
unfoldable pub waits_before : ℕ → ℕ → List Raw → Bool
waits_before zero t rs = false
waits_before (suc i) t rs = leb (num bound_f (get_or rs i no_raw)) t

-- with collection as one reader more
unfoldable pub waiting_row : ℕ → Raw → ℕ
waiting_row least r = cond (eqb (num out_f r) 0) least (min (num next_f r) least)

unfoldable pub released_row : ℕ → Raws → Raws
unfolding released waiting_row least_row
released_row i st = change i (released (waiting_row (least_row i st.rows) (row_at st i))) st

-- ---- the whole step of an offer: appended, told, released
unfoldable pub offered : ℕ → ℕ → ℕ → Raws → Raws
unfolding released_row told_row pushed
offered i t v st = released_row i (change_all (told_row i t v) (change i (pushed t v) st))
