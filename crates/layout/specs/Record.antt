-- Believe: the raw state: numbers and event slots as they lie in bytes. Total: every buffer is one, whatever it holds.
use Rattle.std.specs.Prelude.{ℕ, ◌*◌, List, [], ◌∷◌, ◌++◌, map, take, drop, get_or, set, replicate}
use Rattle.machine.specs.State.{room}
use Rattle.le.specs.Layout.{enc_fields, dec_fields, enc_rows, dec_rows}

-- a stored event; the value in two's complement
pub record Slot : Type 0 where
  pub stamp : ℕ
  pub value : ℕ

-- a record: the 15 numbers of its head, and a slot for each event that there is room for
pub record Raw : Type 0 where
  pub nums : List ℕ
  pub slots : List Slot

-- a state: its records, and the bytes behind them
pub record Raws : Type 0 where
  pub rows : List Raw
  pub spare : List ℕ

abbrev pub no_slot : Slot
no_slot = record { stamp = 0; value = 0 }

-- the head's numbers in order, by their width in bytes
abbrev pub head_widths : List ℕ
head_widths = 1 ∷ 1 ∷ 1 ∷ 1 ∷ 1 ∷ 1 ∷ 1 ∷ 1 ∷ 8 ∷ 8 ∷ 8 ∷ 8 ∷ 8 ∷ 8 ∷ 8 ∷ []

abbrev pub slot_widths : List ℕ
slot_widths = 4 ∷ 8 ∷ []

abbrev pub no_raw : Raw
no_raw = record { nums = 0 ∷ 0 ∷ 0 ∷ 0 ∷ 0 ∷ 0 ∷ 0 ∷ 0 ∷ 0 ∷ 0 ∷ 0 ∷ 0 ∷ 0 ∷ 0 ∷ 0 ∷ []; slots = [] }

-- ---- the numbers of the head, by their place

-- the operator's stored number
abbrev pub op_f : ℕ
op_f = 0

-- the arguments
abbrev pub a_f : ℕ
a_f = 1

abbrev pub b_f : ℕ
b_f = 2

-- 1 of an output
abbrev pub out_f : ℕ
out_f = 3

-- how many events are held
abbrev pub count_f : ℕ
count_f = 4

-- whether what is kept is there: a last's or a delay's value, a signal form's latest of a
abbrev pub flag_f : ℕ
flag_f = 5

-- and a delay's prior, a signal form's latest of b
abbrev pub prior_flag_f : ℕ
prior_flag_f = 6

-- unused
abbrev pub small_f : ℕ
small_f = 7

-- the value k, in two's complement
abbrev pub k_f : ℕ
k_f = 8

-- the bound
abbrev pub bound_f : ℕ
bound_f = 9

-- of an output: one past the last collected stamp
abbrev pub next_f : ℕ
next_f = 10

-- a last's value, a delay's since, a signal form's latest of a
abbrev pub kept_f : ℕ
kept_f = 11

-- a delay's value, a signal form's latest of b
abbrev pub value_f : ℕ
value_f = 12

-- a delay's prior
abbrev pub prior_f : ℕ
prior_f = 13

-- the counts of missing events: outside the range in the lower four bytes, of zero divisors in the upper four
abbrev pub counts_f : ℕ
counts_f = 14

-- a number of the head, and the record with another one there
abbrev pub num : ℕ → Raw → ℕ
num j r = get_or r.nums j 0

abbrev pub with_num : ℕ → ℕ → Raw → Raw
with_num j v r = record { nums = set r.nums j v; slots = r.slots }

abbrev pub with_slots : List Slot → Raw → Raw
with_slots l r = record { nums = r.nums; slots = l }

abbrev pub slot_nums : Slot → List ℕ
slot_nums e = e.stamp ∷ e.value ∷ []

unfoldable pub enc_slot : Slot → List ℕ
enc_slot e = enc_fields slot_widths (slot_nums e)

unfoldable pub dec_slot : List ℕ → Slot
dec_slot s = (let v = dec_fields slot_widths s in record { stamp = get_or v 0 0; value = get_or v 1 0 })

unfoldable pub enc_raw : Raw → List ℕ
enc_raw r = enc_fields head_widths r.nums ++ enc_rows enc_slot no_slot room r.slots

unfoldable pub dec_raw : List ℕ → Raw
dec_raw s = record { nums = dec_fields head_widths (take 64 s); slots = dec_rows dec_slot 12 room (drop 64 s) }

-- the first n records, and all bytes behind them
unfoldable pub encode : ℕ → Raws → List ℕ
encode n st = enc_rows enc_raw no_raw n st.rows ++ st.spare

unfoldable pub decode : ℕ → List ℕ → Raws
decode n s = record { rows = dec_rows dec_raw 256 n (take (n * 256) s); spare = drop (n * 256) s }

abbrev pub row_at : Raws → ℕ → Raw
row_at st i = get_or st.rows i no_raw

-- row i changed by f; every row changed by f
abbrev pub change : ℕ → (Raw → Raw) → Raws → Raws
change i f st = record { rows = set st.rows i (f (row_at st i)); spare = st.spare }

abbrev pub change_all : (Raw → Raw) → Raws → Raws
change_all f st = record { rows = map f st.rows; spare = st.spare }

-- of the first n slots k dropped, as many free ones behind the rest of the n, and the others as they are
abbrev pub shifted : (k n : ℕ) → List Slot → List Slot
shifted k n l = drop k (take n l) ++ (replicate k no_slot ++ drop n l)

abbrev pub slot_at : ℕ → Raw → Slot
slot_at j r = get_or r.slots j no_slot

abbrev pub with_slot : ℕ → ℕ → ℕ → Raw → Raw
with_slot j t v r = with_slots (set r.slots j (record { stamp = t; value = v })) r

abbrev pub dropped : (k n : ℕ) → Raw → Raw
dropped k n r = with_slots (shifted k n r.slots) r
