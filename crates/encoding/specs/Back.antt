-- How: a raw record read as a cell of the machine: total, also where the numbers are no cell's.
use Rattle.std.specs.Prelude.{ℕ, ◌-◌, ◌/◌, ◌%◌, ◌^◌, min, not, cond, List, [], ◌∷◌, map, eqb, length, take, drop, ℤ, Option, None, Some}
use Rattle.std.specs.Int.{w64}
use Rattle.std.proofs.Common.{to_z}
use Rattle.meaning.specs.Events.{Event, ev}
use Rattle.machine.specs.State.{Kept, Passed, Cell, State, room, no_kept, no_passed, with_window, with_passed}
use Rattle.operators.specs.Operators.{group_of, is_last, is_delay, is_signal, is_window, eqn_of}
use Rattle.layout.specs.Windows.{window_length, area_length, dec_window}
use Rattle.layout.specs.Record.{Slot, Raw, num, decode, op_f, a_f, b_f, out_f, count_f, flag_f, prior_flag_f, k_f, bound_f, next_f, kept_f, value_f, prior_f, counts_f}

-- what may be absent
abbrev pub optional : ℕ → ℕ → Option ℤ
optional has x = cond (eqb has 0) None (Some (to_z w64 x))

abbrev pub event_of : Slot → Event
event_of e = ev e.stamp (to_z w64 e.value)

-- the events that a record holds, never more than there is room for
unfoldable pub held_of : Raw → List Event
held_of r = map event_of (take (min (num count_f r) room) r.slots)

-- what a last keeps, a delay, and a signal form
abbrev pub last_of : Raw → Kept
last_of r = record { prev = optional (num flag_f r) (num kept_f r); prev_b = None; since = 0; value = None; prior = None }

abbrev pub delay_of : Raw → Kept
delay_of r =
    record { prev = None; prev_b = None; since = num kept_f r; value = optional (num flag_f r) (num value_f r); prior = optional (num prior_flag_f r) (num prior_f r) }

abbrev pub signal_of : Raw → Kept
signal_of r =
    record { prev = optional (num flag_f r) (num kept_f r); prev_b = optional (num prior_flag_f r) (num value_f r); since = 0; value = None; prior = None }

unfoldable pub kept_of : Raw → Kept
kept_of r =
    cond (is_last (group_of (num op_f r))) (last_of r)
    (cond (is_delay (group_of (num op_f r))) (delay_of r)
    (cond (is_signal (group_of (num op_f r))) (signal_of r) no_kept))

-- but for what is kept of the passed stamps: the counts, and a window's values, which lie outside its record
unfoldable pub to_cell : Raw → Cell
unfolding held_of kept_of
to_cell r =
    record {
      eqn = eqn_of (num op_f r) (num a_f r) (num b_f r) (to_z w64 (num k_f r));
      out = not (eqb (num out_f r) 0);
      bound = num bound_f r;
      held = held_of r;
      next = num next_f r;
      kept = kept_of r;
      passed = no_passed;
    }

-- the counts of missing events, of one word
abbrev pub counts_in : Raw → Passed
counts_in r = record { window = []; outside = num counts_f r % 2 ^ 32; divisors = num counts_f r / 2 ^ 32 }

-- the values of a window with so many, of its bytes
abbrev pub window_in : ℕ → List ℕ → List ℤ
window_in n s = map (to_z w64) (take n (dec_window s))

-- the cells of records, with the bytes of the windows that are left for them
unfoldable pub cells : List Raw → List ℕ → State
unfolding to_cell
cells [] b = []
cells (r ∷ rs) b =
    cond (is_window (group_of (num op_f r)))
    (with_passed (with_window (window_in (num flag_f r) (take window_length b)) (counts_in r)) (to_cell r) ∷ cells rs (drop window_length b))
    (with_passed (counts_in r) (to_cell r) ∷ cells rs b)

-- the windows' bytes, of all that lie behind the records
abbrev pub area_of : List ℕ → List ℕ
area_of s = drop (length s - area_length) s

-- the state that n records in bytes give
unfoldable pub state_of : ℕ → List ℕ → State
unfolding cells
state_of n s = cells (decode n s).rows (area_of (decode n s).spare)
