-- Believe: a cell of the machine as a raw record, and a state as bytes.
use Rattle.std.specs.Prelude.{ℕ, zero, suc, ◌+◌, ◌*◌, ◌-◌, ◌^◌, Bool, true, false, cond, List, [], ◌∷◌, ◌++◌, map, length, replicate, ℤ, Option, None, Some}
use Rattle.std.specs.Int.{w64}
use Rattle.std.proofs.Common.{of_z}
use Rattle.meaning.specs.Plan.{Eqn}
use Rattle.meaning.specs.Arguments.{arg_a, arg_b}
use Rattle.meaning.specs.Events.{Event}
use Rattle.machine.specs.State.{Kept, Passed, Cell, State, room}
use Rattle.operators.specs.Operators.{is_last, is_delay, is_signal, is_window, eqn_group, number_of, value_of}
use Rattle.operators.specs.Windows.{is_window_eqn}
use Rattle.layout.specs.Record.{Slot, Raw, Raws, no_slot, encode}
use Rattle.layout.specs.Windows.{area_length, enc_windows}

abbrev pub flag : Bool → ℕ
flag true = 1
flag false = 0

-- what may be absent: whether it is there, and its bits, 0 if not
abbrev pub flag_of : Option ℤ → ℕ
flag_of None = 0
flag_of (Some v) = 1

abbrev pub bits_of : Option ℤ → ℕ
bits_of None = 0
bits_of (Some v) = of_z w64 v

-- the numbers of what is kept: two flags, three words
pub record KeptNums : Type 0 where
  pub flag : ℕ
  pub prior_flag : ℕ
  pub kept : ℕ
  pub value : ℕ
  pub prior : ℕ

abbrev pub no_nums : KeptNums
no_nums = record { flag = 0; prior_flag = 0; kept = 0; value = 0; prior = 0 }

abbrev pub last_nums : Kept → KeptNums
last_nums k = record { flag = flag_of k.prev; prior_flag = 0; kept = bits_of k.prev; value = 0; prior = 0 }

abbrev pub delay_nums : Kept → KeptNums
delay_nums k = record { flag = flag_of k.value; prior_flag = flag_of k.prior; kept = k.since; value = bits_of k.value; prior = bits_of k.prior }

abbrev pub signal_nums : Kept → KeptNums
signal_nums k = record { flag = flag_of k.prev; prior_flag = flag_of k.prev_b; kept = bits_of k.prev; value = bits_of k.prev_b; prior = 0 }

-- of a window: how many values it keeps
abbrev pub window_nums : Passed → KeptNums
window_nums w = record { flag = length w.window; prior_flag = 0; kept = 0; value = 0; prior = 0 }

-- by the group of the equation
abbrev pub kept_nums : Eqn → Kept → Passed → KeptNums
kept_nums e k w =
    cond (is_last (eqn_group e)) (last_nums k)
    (cond (is_delay (eqn_group e)) (delay_nums k)
    (cond (is_signal (eqn_group e)) (signal_nums k)
    (cond (is_window (eqn_group e)) (window_nums w) no_nums)))

abbrev pub slot_of : Event → Slot
slot_of e = record { stamp = e.stamp; value = of_z w64 e.value }

-- n entries; a missing one is d
unfoldable pub pad_to : {A : Type 0} → ℕ → A → List A → List A
pad_to zero d l = []
pad_to (suc n) d [] = d ∷ pad_to n d []
pad_to (suc n) d (a ∷ l) = a ∷ pad_to n d l

-- both counts of missing events in one word, outside the range in its lower half
abbrev pub counts_word : Passed → ℕ
counts_word w = w.outside + w.divisors * 2 ^ 32

-- the fifteen numbers of the head and the sixteen slots
abbrev pub raw_of : Eqn → Bool → ℕ → List Event → ℕ → KeptNums → (counts : ℕ) → Raw
raw_of e out bound held next n counts =
    record {
      nums = number_of e ∷ arg_a e ∷ arg_b e ∷ flag out ∷ length held ∷ n.flag ∷ n.prior_flag ∷ 0
          ∷ of_z w64 (value_of e) ∷ bound ∷ next ∷ n.kept ∷ n.value ∷ n.prior ∷ counts ∷ [];
      slots = pad_to room no_slot (map slot_of held);
    }

unfoldable pub of_cell : Cell → Raw
of_cell c = raw_of c.eqn c.out c.bound c.held c.next (kept_nums c.eqn c.kept c.passed) (counts_word c.passed)

-- what the windows of the state keep, by stream number
abbrev pub windows_of : State → List (List ℤ)
windows_of [] = []
windows_of (c ∷ M) = cond (is_window_eqn c.eqn) (c.passed.window ∷ windows_of M) (windows_of M)

-- a window's values as words
abbrev pub words_of : List ℤ → List ℕ
words_of w = map (of_z w64) w

-- behind the records, of so many bytes in all: zeros, and the windows in the last of them
unfoldable pub behind : ℕ → State → List ℕ
behind size M = replicate (size - area_length - length M * 256) 0 ++ enc_windows (map words_of (windows_of M))

-- the raw state of a machine state, in this many bytes
unfoldable pub raws_of : ℕ → State → Raws
unfolding of_cell behind
raws_of size M = record { rows = map of_cell M; spare = behind size M }

unfoldable pub bytes_of : ℕ → State → List ℕ
unfolding raws_of
bytes_of size M = encode (length M) (raws_of size M)
