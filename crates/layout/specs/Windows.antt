-- Believe: windows as they lie in the last 4,096 bytes of a state: eight, of 64 words of 8 bytes each. Total: any bytes are windows.
use Rattle.std.specs.Prelude.{ℕ, ◌+◌, ◌*◌, ◌-◌, List, [], ◌∷◌, ◌++◌, length, take, drop}
use Rattle.std.proofs.lemmas.List.Edits.{sets}
use Rattle.operators.specs.Limits.{width_limit, window_limit}
use Rattle.le.specs.Bytes.{le, enc, part}
use Rattle.le.specs.Layout.{enc_rows, dec_rows}
use Rattle.layout.specs.Record.{Raws}

-- the bytes of a window, and of all
abbrev pub window_length : ℕ
window_length = 512

abbrev pub area_length : ℕ
area_length = 4096

-- the words of a window, its values in two's complement; a missing one is 0
unfoldable pub enc_window : List ℕ → List ℕ
enc_window ws = enc_rows (enc 8) 0 width_limit ws

unfoldable pub dec_window : List ℕ → List ℕ
dec_window s = dec_rows le 8 width_limit s

-- all windows, one after the other; a missing one is all 0
unfoldable pub enc_windows : List (List ℕ) → List ℕ
enc_windows l = enc_rows enc_window [] window_limit l

-- where window j begins, of so many bytes
abbrev pub window_start : ℕ → ℕ → ℕ
window_start size j = size - area_length + j * window_length

-- the words of window j
unfoldable pub window_at : ℕ → Raws → List ℕ
window_at j st = dec_window (part st.spare (window_start (length st.spare) j) window_length)

-- other words there
unfoldable pub with_window : ℕ → List ℕ → Raws → Raws
with_window j ws st = record { rows = st.rows; spare = sets st.spare (window_start (length st.spare) j) (enc_window ws) }

-- of the first n words the first dropped, and v behind the rest of the n
abbrev pub pushed_word : (n v : ℕ) → List ℕ → List ℕ
pushed_word n v ws = drop 1 (take n ws) ++ (v ∷ drop n ws)
