-- Windows in bytes: what is kept in them is read back, and bytes that pass are those of what they keep.
use Prim.Native.Nat.{ℕ, zero, suc, ◌+◌, ◌*◌, ◌-◌, ◌^◌, ◌<◌, ◌≤◌}
use mathlib.Core.Path.{◌≡◌, refl, sym, ap, ap₂, ◌∙◌}
use mathlib.Core.List.{List, [], ◌∷◌, ◌++◌, map, append-nil}
use mathlib.Core.Bool.{Bool, true, cond, ◌&&◌}
use native.Mathlib.Omega.{arith}
use lib.IntN.{ℤ}
use lib.ListN.{length, get_or, take, drop, replicate, length-map, length-drop, take-append-drop, replicate-append-replicate}
use lib.Seq.{length-take-le, take-take, take_at, drop_at, get_or-take}
use mir.Syntax.{w64}
use mir.Val.{of_z, to_z}
use mir.Facts.{of_z-to_z}
use Rattle.operators.specs.Operators.{group_of, is_window}
use Rattle.operators.specs.Limits.{width_limit}
use Rattle.le.specs.Bytes.{le, enc, Bytes, all_zero}
use Rattle.le.specs.Layout.{enc_rows, dec_rows}
use Rattle.le.proofs.Laws.{length_enc, le_enc, le_one}
use Rattle.le.proofs.Fields.{length_rows}
use Rattle.le.proofs.RoundTrip.{All, rows_split, drop_take}
use Rattle.layout.specs.Record.{Raw, num, dec_raw, op_f, flag_f}
use Rattle.layout.specs.Windows.{window_length, enc_window, dec_window}
use Rattle.layout.proofs.Laws.{byte_get}
use Rattle.layout.proofs.Windows.{window_dec, window_many, window_small, window_split}
use Rattle.encoding.specs.View.{words_of}
use Rattle.encoding.specs.Back.{window_in}
use Rattle.encoding.specs.Sound.{AllValues}
use Rattle.encoding.proofs.Widths.{bits_below, value_back}
use Rattle.valid.specs.Valid.{windows_in, area_ok}
use Rattle.roundtrip.proofs.Passes.{zeros_zero}
use Rattle.roundtrip.proofs.Tail.{zero_list, bits_value}

-- ---- one window

zero_word : enc 8 0 ≡ replicate 8 0
unfolding enc
zero_word = refl

-- words that are missing are 0
words_none : (m : ℕ) → enc_rows (enc 8) 0 m [] ≡ replicate (m * 8) 0
unfolding enc_rows
words_none zero = refl
words_none (suc m) =
    let q : 8 + m * 8 ≡ suc m * 8 = omega arith in
    ap₂ ◌++◌ zero_word (words_none m) ∙ replicate-append-replicate {A = ℕ} 8 (m * 8) 0 ∙ ap (λ (j : ℕ). replicate {A = ℕ} j 0) q

-- a window that keeps nothing is all 0
pub none_window : enc_window [] ≡ replicate window_length 0
unfolding enc_window
none_window = words_none width_limit

pub none_windows : (m : ℕ) → enc_rows enc_window [] m [] ≡ replicate (m * window_length) 0
unfolding enc_rows
none_windows zero = refl
none_windows (suc m) =
    let q : window_length + m * window_length ≡ suc m * window_length = omega arith in
    ap₂ ◌++◌ none_window (none_windows m) ∙ replicate-append-replicate {A = ℕ} window_length (m * window_length) 0 ∙ ap (λ (j : ℕ). replicate {A = ℕ} j 0) q

-- the words that are there, and zeros behind them
window_two : (ws : List ℕ) → length ws ≤ width_limit → enc_window ws ≡ enc_rows (enc 8) 0 (length ws) ws ++ replicate ((width_limit - length ws) * 8) 0
unfolding enc_window
window_two ws h =
    let n = length ws in
    let q : width_limit ≡ n + (width_limit - n) = omega arith in
    ap₂ (λ (j : ℕ) (l : List ℕ). enc_rows (enc 8) 0 j l) q (sym (append-nil ws))
    ∙ rows_split (enc 8) 0 8 (length_enc 8) n (width_limit - n) ws [] refl
    ∙ ap (λ (l : List ℕ). enc_rows (enc 8) 0 n ws ++ l) (words_none (width_limit - n))

-- behind what is kept every byte is 0
pub window_passes : (ws : List ℕ) → length ws ≤ width_limit → all_zero (drop (length ws * 8) (enc_window ws)) ≡ true
window_passes ws h =
    ap all_zero (ap (drop (length ws * 8)) (window_two ws h) ∙ drop_at (enc_rows (enc 8) 0 (length ws) ws) (replicate ((width_limit - length ws) * 8) 0) (length ws * 8) (length_rows (enc 8) 0 8 (length_enc 8) (length ws) ws))
    ∙ zeros_zero ((width_limit - length ws) * 8)

-- what is kept is read back
pub words_back : (n : ℕ) (ws : List ℕ) → length ws ≤ n → All (λ (v : ℕ). v < 256 ^ 8) ws → take (length ws) (dec_rows le 8 n (enc_rows (enc 8) 0 n ws)) ≡ ws
unfolding enc_rows dec_rows
words_back n [] h a = refl
words_back zero (v ∷ ws) h a = absurd (omega arith)
words_back (suc n) (v ∷ ws) h a =
    ap₂ ◌∷◌ (ap le (take_at (enc 8 v) (enc_rows (enc 8) 0 n ws) 8 (length_enc 8 v)) ∙ le_enc 8 v a.0)
    (ap (λ (l : List ℕ). take (length ws) (dec_rows le 8 n l)) (drop_at (enc 8 v) (enc_rows (enc 8) 0 n ws) 8 (length_enc 8 v)) ∙ words_back n ws (omega arith) a.1)

pub words_small : (w : List ℤ) → AllValues w → All (λ (v : ℕ). v < 256 ^ 8) (words_of w)
words_small [] a = tt
words_small (v ∷ w) a = (bits_below v a.0, words_small w a.1)

pub values_back : (w : List ℤ) → AllValues w → map (to_z w64) (words_of w) ≡ w
values_back [] a = refl
values_back (v ∷ w) a = ap₂ ◌∷◌ (value_back v a.0) (values_back w a.1)

pub window_back : (w : List ℤ) → AllValues w → length w ≤ width_limit → window_in (length w) (enc_window (words_of w)) ≡ w
unfolding enc_window dec_window
window_back w a h =
    let n : length (words_of w) ≡ length w = length-map w (of_z w64) in
    let e = ap (λ (j : ℕ). take j (dec_rows le 8 width_limit (enc_rows (enc 8) 0 width_limit (words_of w)))) (sym n) ∙ words_back width_limit (words_of w) (rw n h) (words_small w a) in
    ap (map (to_z w64)) e ∙ values_back w a

-- ---- bytes of one window that pass

bits_back : (ws : List ℕ) → All (λ (v : ℕ). v < 256 ^ 8) ws → words_of (map (to_z w64) ws) ≡ ws
bits_back [] a = refl
bits_back (v ∷ ws) a = ap₂ ◌∷◌ (of_z-to_z {w = w64} {n = v} (record { fits = a.0 })) (bits_back ws a.1)

bits_values : (ws : List ℕ) → All (λ (v : ℕ). v < 256 ^ 8) ws → AllValues (map (to_z w64) ws)
bits_values [] a = tt
bits_values (v ∷ ws) a = (bits_value v a.0, bits_values ws a.1)

all_take : (n : ℕ) (ws : List ℕ) → All (λ (v : ℕ). v < 256 ^ 8) ws → All (λ (v : ℕ). v < 256 ^ 8) (take n ws)
all_take zero ws a = tt
all_take (suc n) [] a = tt
all_take (suc n) (v ∷ ws) a = (a.0, all_take n ws a.1)

module _ (n : ℕ) (s : List ℕ) (len : length s ≡ window_length) (b : Bytes s) (h : n ≤ width_limit) where
  some : length (take n (dec_window s)) ≡ n
  some = length-take-le n (dec_window s) (rw (window_many s) h)

  pub passed_length : length (window_in n s) ≡ n
  passed_length = length-map (take n (dec_window s)) (to_z w64) ∙ some

  pub passed_values : AllValues (window_in n s)
  passed_values = bits_values (take n (dec_window s)) (all_take n (dec_window s) (window_small s b))

  -- the bytes are those of what they keep
  pub passed_bytes : all_zero (drop (n * 8) s) ≡ true → enc_window (words_of (window_in n s)) ≡ s
  passed_bytes z =
      let ws = dec_window s in
      let front : enc_rows (enc 8) 0 n (take n ws) ≡ take (n * 8) s = sym (ap (take (n * 8)) (sym (window_dec s len b) ∙ split) ∙ take_at (enc_rows (enc 8) 0 n (take n ws)) (enc_rows (enc 8) 0 (width_limit - n) (drop n ws)) (n * 8) (length_rows (enc 8) 0 8 (length_enc 8) n (take n ws))) in
      let back : replicate ((width_limit - n) * 8) 0 ≡ drop (n * 8) s = sym (zero_list (drop (n * 8) s) z ∙ ap (λ (j : ℕ). replicate {A = ℕ} j 0) (length-drop (n * 8) s ∙ ap (λ (x : ℕ). x - n * 8) len ∙ size)) in
      ap enc_window (bits_back (take n ws) (all_take n ws (window_small s b)))
      ∙ window_two (take n ws) (rw some h)
      ∙ ap (λ (j : ℕ). enc_rows (enc 8) 0 j (take n ws) ++ replicate ((width_limit - j) * 8) 0) some
      ∙ ap₂ ◌++◌ front back ∙ take-append-drop (n * 8) s
    where
      size : window_length - n * 8 ≡ (width_limit - n) * 8
      size = omega arith

      split : enc_window (dec_window s) ≡ enc_rows (enc 8) 0 n (take n (dec_window s)) ++ enc_rows (enc 8) 0 (width_limit - n) (drop n (dec_window s))
      split = window_split n (dec_window s) (window_many s) h

-- ---- all windows, of records

-- how many of the records are windows, and their bytes
abbrev pub windows_raw : List Raw → ℕ
windows_raw [] = 0
windows_raw (r ∷ rs) = cond (is_window (group_of (num op_f r))) (suc (windows_raw rs)) (windows_raw rs)

abbrev pub area_raw : List Raw → List ℕ → Bool
area_raw [] b = all_zero b
area_raw (r ∷ rs) b = cond (is_window (group_of (num op_f r))) (all_zero (drop (num flag_f r * 8) (take window_length b)) && area_raw rs (drop window_length b)) (area_raw rs b)

first_byte : (s : List ℕ) (j : ℕ) → 256 ≤ length s → j < 8 → get_or s j 0 ≡ num j (dec_raw (take 256 s))
first_byte s j l h =
    sym (byte_get (take 256 s) j h ∙ le_one (take 256 s) j (rw (length-take-le 256 s l) (omega arith)) ∙ get_or-take 256 s j 0 (omega arith))

module _ where
  abbrev pub rows_in : ℕ → List ℕ → List Raw
  rows_in n s = dec_rows dec_raw 256 n (take (n * 256) s)

  rows_cons : (n : ℕ) (s : List ℕ) → rows_in (suc n) s ≡ dec_raw (take 256 s) ∷ rows_in n (drop 256 s)
  unfolding dec_rows
  rows_cons n s =
      let q : suc n * 256 ≡ 256 + n * 256 = omega arith in
      ap₂ (λ (x y : List ℕ). dec_raw x ∷ dec_rows dec_raw 256 n y)
      (take-take 256 (suc n * 256) s (omega arith))
      (ap (λ (j : ℕ). drop 256 (take j s)) q ∙ drop_take 256 (n * 256) s)

  pub windows_in_lem : (n : ℕ) (s : List ℕ) → n * 256 ≤ length s → windows_in n s ≡ windows_raw (rows_in n s)
  unfolding windows_in
  windows_in_lem zero s l = unfold dec_rows in refl
  windows_in_lem (suc n) s l =
      let ih = windows_in_lem n (drop 256 s) (rw (length-drop 256 s) (omega arith)) in
      rw (first_byte s 0 (omega arith) (omega arith), rows_cons n s, ih)

  pub area_in : (n : ℕ) (s b : List ℕ) → n * 256 ≤ length s → area_ok n s b ≡ area_raw (rows_in n s) b
  unfolding area_ok
  area_in zero s b l = unfold dec_rows in refl
  area_in (suc n) s b l =
      let k : n * 256 ≤ length (drop 256 s) = rw (length-drop 256 s) (omega arith) in
      let ih = area_in n (drop 256 s) (drop window_length b) k in
      let jh = area_in n (drop 256 s) b k in
      rw (first_byte s 0 (omega arith) (omega arith), first_byte s 5 (omega arith) (omega arith), rows_cons n s, ih, jh)
