-- How: what a move counts, of the equation's struct and its arguments' bytes, and the counts in the numbers of its record.
use Rattle.std.specs.Prelude.{ℕ, ◌+◌, ◌*◌, ◌/◌, ◌%◌, ◌^◌, min, Bool, true, false, not, ◌&&◌, List}
use Rattle.meaning.specs.Plan.{nil}
use Rattle.meaning.specs.Events.{found, has}
use Rattle.meaning.specs.Missing.{Said, Reason, Outside, ZeroDivisor, said_for, count_limit}
use Rattle.machine.specs.Step.{hears}
use Rattle.machine.specs.Counting.{tallied}
use Rattle.layout.specs.Record.{Raw, dec_raw, num, with_num, counts_f}
use Rattle.encoding.specs.Back.{held_of}
use Rattle.streams.specs.declared.Op.{Op}
use Rattle.streams.specs.declared.Kept.{Kept}
use Rattle.streams.specs.Look.{plain, kept_in, own_cell}
use Rattle.events.specs.Near.{keeping, holding}
use Rattle.counting.specs.declared.Tally.{Tally}

-- the count of a reason
abbrev pub count_in : Reason → Tally → ℕ
count_in Outside c = c.outside
count_in ZeroDivisor c = c.divisors

-- what the equation has to say at t
abbrev pub hears_in : Op → Kept → (A B : List ℕ) → ℕ → Said
hears_in op k A B t = hears (plain op) (keeping k) (holding A) (holding B) t

-- an event is missing at t; if it is the second argument's stamps that are asked for, only where the first holds none
abbrev pub asked_in : Reason → Bool → Op → Kept → (A B : List ℕ) → ℕ → Bool
asked_in q false op k A B t = said_for q (hears_in op k A B t)
asked_in q true op k A B t = not (has (found (held_of (dec_raw A)) t)) && said_for q (hears_in op k A B t)

-- at how many stamps from y on and below x
abbrev pub tallied_in : Reason → Op → Kept → (A B : List ℕ) → (y x : ℕ) → ℕ
tallied_in q op k A B y x = tallied q (plain op) (own_cell nil y (kept_in k)) (holding A) (holding B) x

-- m and n come to the two counts of a record: "each count stopping at 4,294,967,295"
unfoldable pub counted_row : (m n : ℕ) → Raw → Raw
counted_row m n r = with_num counts_f (min count_limit (num counts_f r % 2 ^ 32 + m) + min count_limit (num counts_f r / 2 ^ 32 + n) * 2 ^ 32) r
