-- How: what number 15 tests, reason by reason.
use Rattle.std.specs.Prelude.{ℕ, zero, suc, ◌+◌, ◌-◌, ◌*◌, List, [], ◌∷◌, Option, None, Some, Bool, true, false, cond, ◌&&◌, length, get_or, take, drop, replicate, ltb, eqb, leb}
use Rattle.std.proofs.lemmas.List.Edits.{sets}
use Rattle.cycle.specs.Graph.{graph_length, entry_of, cleared}
use Rattle.le.specs.Bytes.{part, all_zero}
use Rattle.meaning.specs.Plan.{Plan}
use Rattle.meaning.specs.Events.{horizon}
use Rattle.meaning.specs.CycleTest.{acyclic}
use Rattle.machine.specs.State.{room, plan_of}
use Rattle.operators.specs.Operators.{group_of, lacks_at, is_last, is_delay, is_signal, is_window, is_operator}
use Rattle.operators.specs.Rules.{fields_ok}
use Rattle.operators.specs.Windows.{width_ok}
use Rattle.operators.specs.Limits.{window_limit, capacity}
use Rattle.layout.specs.Record.{Slot, Raw, num, slot_at, dec_raw, op_f, a_f, b_f, out_f, count_f, flag_f, prior_flag_f, small_f, k_f, bound_f, next_f, kept_f, value_f, prior_f, counts_f}
use Rattle.layout.specs.Windows.{window_length, area_length, window_start}
use Rattle.encoding.specs.Back.{area_of, state_of}

-- nothing where there is nothing to keep it for
abbrev pub none_if : ℕ → ℕ → Bool
none_if a has = cond (eqb a 0) (eqb has 0) true

-- ---- "contents whose plan no text taken by load gives"

unfoldable pub plan_ok : ℕ → Raw → Bool
plan_ok n r = is_operator (num op_f r) && (fields_ok n (num op_f r) (num a_f r) (num b_f r) (num k_f r) (num out_f r) && width_ok (num op_f r) (num k_f r))

-- ---- "a bound above the horizon, more than 16 events held"; the mark of collection is an output's and not above its bound

abbrev pub next_ok : ℕ → ℕ → ℕ → Bool
next_ok out next bound = cond (eqb out 0) (eqb next 0) (leb next bound)

-- the counts of missing events: none of an operator that has a value for whatever it works on, and none with bound 0
unfoldable pub counts_ok : Raw → Bool
counts_ok r = cond (lacks_at (num op_f r)) (none_if (num bound_f r) (num counts_f r)) (eqb (num counts_f r) 0)

unfoldable pub sizes_ok : Raw → Bool
unfolding counts_ok
sizes_ok r =
    leb (num count_f r) room
    && (leb (num bound_f r) horizon
    && (next_ok (num out_f r) (num next_f r) (num bound_f r)
    && (eqb (num small_f r) 0
    && counts_ok r)))

-- ---- "held stamps not rising or not below the bound": n stamps rise from low on, and stay below top
unfoldable pub risen : ℕ → ℕ → ℕ → List Slot → Bool
risen top low zero l = leb low top
risen top low (suc n) [] = leb low top
risen top low (suc n) (e ∷ l) = leb low e.stamp && risen top (e.stamp + 1) n l

-- ---- "a field whose value the layout gives no meaning": what is kept, by the operator

-- what is absent is 0, and what is there is flagged by 1
abbrev pub flag_ok : ℕ → ℕ → Bool
flag_ok has x = cond (eqb has 0) (eqb x 0) (eqb has 1)

unfoldable pub none_ok : Raw → Bool
none_ok r = eqb (num flag_f r) 0 && (eqb (num prior_flag_f r) 0 && (eqb (num kept_f r) 0 && (eqb (num value_f r) 0 && eqb (num prior_f r) 0)))

-- the value of an argument's latest event, its flag in number f and its bits in number j: none with bound 0
unfoldable pub latest_ok : (f j : ℕ) → Raw → Bool
latest_ok f j r = flag_ok (num f r) (num j r) && none_if (num bound_f r) (num f r)

unfoldable pub last_ok : Raw → Bool
unfolding latest_ok
last_ok r = latest_ok flag_f kept_f r && (eqb (num prior_flag_f r) 0 && (eqb (num value_f r) 0 && eqb (num prior_f r) 0))

-- the latest of a, the latest of b
unfoldable pub signal_ok : Raw → Bool
unfolding latest_ok
signal_ok r = latest_ok flag_f kept_f r && (latest_ok prior_flag_f value_f r && eqb (num prior_f r) 0)

-- "A set point of a delay is a stamp at which b or the delay itself has an event": the newest held one lies below since
unfoldable pub own_ok : ℕ → Raw → Bool
own_ok since r = cond (eqb (num count_f r) 0) true (ltb (slot_at (num count_f r - 1) r).stamp since)

unfoldable pub delay_ok : Raw → Bool
unfolding own_ok
delay_ok r =
    flag_ok (num flag_f r) (num value_f r)
    && (flag_ok (num prior_flag_f r) (num prior_f r)
    && (none_if (num kept_f r) (num flag_f r)
    && (none_if (num bound_f r) (num prior_flag_f r)
    && (own_ok (num kept_f r) r
    && leb (num kept_f r) (num bound_f r)))))

-- how many values a window keeps: at most its width, none with bound 0
unfoldable pub window_ok : Raw → Bool
window_ok r =
    leb (num flag_f r) (num k_f r)
    && (none_if (num bound_f r) (num flag_f r)
    && (eqb (num prior_flag_f r) 0
    && (eqb (num kept_f r) 0
    && (eqb (num value_f r) 0
    && eqb (num prior_f r) 0))))

unfoldable pub kept_ok : Raw → Bool
unfolding last_ok delay_ok signal_ok window_ok none_ok
kept_ok r =
    cond (is_last (group_of (num op_f r))) (last_ok r)
    (cond (is_delay (group_of (num op_f r))) (delay_ok r)
    (cond (is_signal (group_of (num op_f r))) (signal_ok r)
    (cond (is_window (group_of (num op_f r))) (window_ok r) (none_ok r))))

-- ---- one record, of its 256 bytes; "an unused byte not 0": after the held events every byte is 0
unfoldable pub row_ok : ℕ → List ℕ → Bool
unfolding plan_ok sizes_ok risen kept_ok
row_ok n p =
    plan_ok n (dec_raw p)
    && (sizes_ok (dec_raw p)
    && (risen (num bound_f (dec_raw p)) 0 (num count_f (dec_raw p)) (dec_raw p).slots
    && (kept_ok (dec_raw p)
    && all_zero (drop (64 + num count_f (dec_raw p) * 12) p))))

-- the first m rows of 256 bytes pass
unfoldable pub all_rows : (List ℕ → Bool) → ℕ → List ℕ → Bool
all_rows f zero s = true
all_rows f (suc m) s = f (take 256 s) && all_rows f m (drop 256 s)

-- how many records have an operator, from the first on
unfoldable pub streams_in : ℕ → List ℕ → ℕ
streams_in zero s = 0
streams_in (suc m) s = cond (eqb (get_or s 0 0) 0) 0 (suc (streams_in m (drop 256 s)))

abbrev pub count : List ℕ → ℕ
count s = streams_in (capacity (length s)) s

-- the plan that the first n records give
abbrev pub plan_in : ℕ → List ℕ → Plan
plan_in n s = plan_of (state_of n s)

-- ---- behind the n records, of bytes s: zeros, then the windows

-- how many of the first m records are windows
unfoldable pub windows_in : ℕ → List ℕ → ℕ
windows_in zero s = 0
windows_in (suc m) s = cond (is_window (group_of (get_or s 0 0))) (suc (windows_in m (drop 256 s))) (windows_in m (drop 256 s))

-- the windows of the first m records, in the bytes b: behind the values of each every byte is 0, and behind the last window
unfoldable pub area_ok : ℕ → (s b : List ℕ) → Bool
area_ok zero s b = all_zero b
area_ok (suc m) s b =
    cond (is_window (group_of (get_or s 0 0)))
    (all_zero (drop (get_or s 5 0 * 8) (take window_length b)) && area_ok m (drop 256 s) (drop window_length b))
    (area_ok m (drop 256 s) b)

unfoldable pub windows_ok : ℕ → List ℕ → Bool
unfolding windows_in area_ok
windows_ok n s = leb (windows_in n s) window_limit && area_ok n s (area_of s)

unfoldable pub tail_ok : ℕ → List ℕ → Bool
unfolding windows_ok
tail_ok n s = all_zero (part s (n * 256) (length s - area_length - n * 256)) && windows_ok n s

-- A state: a length that states have, each record passes, what lies behind them passes, and no cycle without a delayed argument.
unfoldable pub valid : List ℕ → Bool
unfolding row_ok all_rows streams_in tail_ok
valid s =
    ltb 0 (capacity (length s))
    && (all_rows (row_ok (count s)) (count s) s
    && (tail_ok (count s) s
    && acyclic (capacity (length s)) (plan_in (count s) s)))

-- what the test finds, as the code answers it
unfoldable pub tested : List ℕ → Option ℕ
unfolding valid
tested s = cond (valid s) (Some (count s)) None

-- ---- the cycle test's graph, as the code fills it

-- the graph with the undelayed arguments of the first n records noted
unfoldable pub noted : ℕ → List ℕ → List ℕ → List ℕ
noted zero s g = g
noted (suc n) s g = sets (noted n s g) (3 * n) (entry_of (get_or s (n * 256) 0) (get_or s (n * 256 + 1) 0) (get_or s (n * 256 + 2) 0))

unfoldable pub clear_in : ℕ → ℕ → List ℕ → Bool
unfolding noted
clear_in cap n s = (cleared cap n (noted n s (replicate graph_length 0))).is_clear

-- ---- one window, as the code looks at it: record i, the jth window

abbrev pub counted_at : Bool → ℕ → ℕ
counted_at true j = j + 1
counted_at false j = j

unfoldable pub clear_at : Bool → (j i : ℕ) → List ℕ → Bool
clear_at false j i s = true
clear_at true j i s = ltb j window_limit && all_zero (drop (get_or s (i * 256 + 5) 0 * 8) (part s (window_start (length s) j) window_length))
