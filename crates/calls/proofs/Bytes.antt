-- The bytes of a state are bytes.
use Prim.Native.Nat.{ℕ, zero, suc, ◌*◌, ◌-◌}
use mathlib.Core.List.{List, [], ◌∷◌, ◌++◌, map}
use lib.Dec.{lit<}
use lib.ListN.{length, replicate}
use Rattle.le.specs.Bytes.{Bytes, enc}
use Rattle.le.specs.Layout.{enc_fields, enc_rows}
use Rattle.le.proofs.Laws.{enc_bytes}
use Rattle.machine.specs.State.{State, room}
use Rattle.operators.specs.Limits.{width_limit, window_limit}
use Rattle.layout.specs.Record.{Slot, Raw, no_slot, no_raw, head_widths, slot_widths, slot_nums, enc_slot, enc_raw, encode}
use Rattle.layout.specs.Windows.{area_length, enc_window, enc_windows}
use Rattle.encoding.specs.View.{windows_of, words_of, behind, raws_of, bytes_of}

append_bytes : (x y : List ℕ) → Bytes x → Bytes y → Bytes (x ++ y)
append_bytes [] y a b i = b i
append_bytes (v ∷ x) y a b zero = a 0
append_bytes (v ∷ x) y a b (suc i) = append_bytes x y (λ j. a (suc j)) b i

fields_bytes : (ws vs : List ℕ) → Bytes (enc_fields ws vs)
unfolding enc_fields
fields_bytes [] vs = λ i. lit< tt
fields_bytes (w ∷ ws) [] = append_bytes (enc w 0) (enc_fields ws []) (enc_bytes w 0) (fields_bytes ws [])
fields_bytes (w ∷ ws) (v ∷ vs) = append_bytes (enc w v) (enc_fields ws vs) (enc_bytes w v) (fields_bytes ws vs)

rows_bytes : {A : Type 0} (f : A → List ℕ) (d : A) → ((a : A) → Bytes (f a)) → (n : ℕ) (l : List A) → Bytes (enc_rows f d n l)
unfolding enc_rows
rows_bytes f d h zero l = λ i. lit< tt
rows_bytes f d h (suc n) [] = append_bytes (f d) (enc_rows f d n []) (h d) (rows_bytes f d h n [])
rows_bytes f d h (suc n) (a ∷ l) = append_bytes (f a) (enc_rows f d n l) (h a) (rows_bytes f d h n l)

slot_bytes : (e : Slot) → Bytes (enc_slot e)
unfolding enc_slot
slot_bytes e = fields_bytes slot_widths (slot_nums e)

raw_bytes : (r : Raw) → Bytes (enc_raw r)
unfolding enc_raw
raw_bytes r = append_bytes (enc_fields head_widths r.nums) (enc_rows enc_slot no_slot room r.slots) (fields_bytes head_widths r.nums) (rows_bytes enc_slot no_slot slot_bytes 16 r.slots)

zero_bytes : (n : ℕ) → Bytes (replicate n 0)
zero_bytes zero i = lit< tt
zero_bytes (suc n) zero = lit< tt
zero_bytes (suc n) (suc i) = zero_bytes n i

window_bytes : (ws : List ℕ) → Bytes (enc_window ws)
unfolding enc_window
window_bytes ws = rows_bytes (enc 8) 0 (enc_bytes 8) width_limit ws

area_bytes : (l : List (List ℕ)) → Bytes (enc_windows l)
unfolding enc_windows
area_bytes l = rows_bytes enc_window [] window_bytes window_limit l

pub state_bytes : (n : ℕ) (M : State) → Bytes (bytes_of n M)
unfolding bytes_of raws_of behind encode
state_bytes n M =
    append_bytes (enc_rows enc_raw no_raw (length M) (raws_of n M).rows) (raws_of n M).spare (rows_bytes enc_raw no_raw raw_bytes (length M) (raws_of n M).rows)
    (append_bytes (replicate (n - area_length - length M * 256) 0) (enc_windows (map words_of (windows_of M))) (zero_bytes (n - area_length - length M * 256)) (area_bytes (map words_of (windows_of M))))
