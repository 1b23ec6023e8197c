-- Laws of the windows' bytes.
use Prim.Native.Nat.{ℕ, zero, suc, ◌+◌, ◌*◌, ◌-◌, ◌^◌, ◌<◌, ◌≤◌}
use mathlib.Core.Path.{◌≡◌, refl, sym, ap, ap₂, ◌∙◌}
use mathlib.Core.List.{List, [], ◌∷◌, ◌++◌, append_assoc}
use native.Mathlib.Omega.{arith}
use native.Mathlib.Nat.{add-zero}
use borrow.Rule.Slice.PartMut.{put_mid}
use lib.ListN.{length, get_or, set, take, drop, length-append, length-drop, take-append-drop}
use lib.Seq.{sets, sets-eq, length-take-le, drop-drop, drop-append-le, take_at}
use Rattle.operators.specs.Limits.{width_limit, window_limit}
use Rattle.le.specs.Bytes.{le, enc, part, Bytes}
use Rattle.le.specs.Layout.{enc_rows, dec_rows}
use Rattle.le.proofs.Laws.{length_enc, enc_le, le_enc, take_bytes, drop_bytes, part_below}
use Rattle.le.proofs.Fields.{sets_left, sets_right, sets_whole, length_rows, rows_set, rows_dec, length_dec_rows, rows_get}
use Rattle.le.proofs.RoundTrip.{All, rows_enc, rows_split, rows_drop, sets_append}
use Rattle.layout.specs.Record.{no_raw, enc_raw, dec_raw, encode, decode}
use Rattle.layout.specs.Windows.{window_length, area_length, enc_window, dec_window, enc_windows, window_start, window_at, with_window, pushed_word}
use Rattle.layout.proofs.Laws.{raw_len, raw_dec}

word_dec : (s : List ℕ) → length s ≡ 8 → Bytes s → enc 8 (le s) ≡ s
word_dec s h b = ap (λ (n : ℕ). enc n (le s)) (sym h) ∙ enc_le s b

pub window_len : (ws : List ℕ) → length (enc_window ws) ≡ window_length
unfolding enc_window
window_len ws = length_rows (enc 8) 0 8 (length_enc 8) width_limit ws

pub windows_len : (l : List (List ℕ)) → length (enc_windows l) ≡ area_length
unfolding enc_windows
windows_len l = length_rows enc_window [] window_length window_len window_limit l

pub window_dec : (s : List ℕ) → length s ≡ window_length → Bytes s → enc_window (dec_window s) ≡ s
unfolding enc_window dec_window
window_dec s h b = rows_dec (enc 8) 0 8 (length_enc 8) le word_dec width_limit s h b

pub window_many : (s : List ℕ) → length (dec_window s) ≡ width_limit
unfolding dec_window
window_many s = length_dec_rows le 8 width_limit s

-- every word of bytes is below 2^64
pub window_small : (s : List ℕ) → Bytes s → All (λ (v : ℕ). v < 256 ^ 8) (dec_window s)
unfolding dec_window dec_rows
window_small s b = go width_limit s b
  where
    go : (n : ℕ) (s : List ℕ) → Bytes s → All (λ (v : ℕ). v < 256 ^ 8) (dec_rows le 8 n s)
    go zero s b = tt
    go (suc n) s b = (part_below s 0 8 b, go n (drop 8 s) (drop_bytes s 8 b))

-- 64 small words are read back
pub window_enc : (ws : List ℕ) → length ws ≡ width_limit → All (λ (v : ℕ). v < 256 ^ 8) ws → dec_window (enc_window ws) ≡ ws
unfolding enc_window dec_window
window_enc ws h a = rows_enc (λ (v : ℕ). v < 256 ^ 8) (enc 8) 0 le 8 (length_enc 8) (λ v l. le_enc 8 v l) width_limit ws h a

-- ---- words of a window lent by itself

pub word_get : (s : List ℕ) (j : ℕ) → j < width_limit → get_or (dec_window s) j 0 ≡ le (part s (j * 8) 8)
unfolding dec_window
word_get s j h = rows_get le 0 8 width_limit s j h

pub word_put : (s : List ℕ) (j v : ℕ) → length s ≡ window_length → Bytes s → j < width_limit → sets s (j * 8) (enc 8 v) ≡ enc_window (set (dec_window s) j v)
unfolding enc_window
word_put s j v n b h =
    let ws = dec_window s in
    let e : s ≡ enc_window ws = sym (window_dec s n b) in
    ap₂ (λ (l : List ℕ) (m : ℕ). sets l m (enc 8 v)) e (sym (add-zero (j * 8)))
    ∙ rows_set (enc 8) 0 8 (length_enc 8) width_limit ws j 0 (enc 8 v) v h (rw (window_many s) h) (rw (length_enc 8 v) (omega arith))
    (sym (sets_whole (enc 8 (get_or ws j 0)) (enc 8 v) (length_enc 8 (get_or ws j 0) ∙ sym (length_enc 8 v))))

-- the words of a window: the first n, and those behind them
pub window_split : (n : ℕ) (ws : List ℕ) → length ws ≡ width_limit → n ≤ width_limit → enc_window ws ≡ enc_rows (enc 8) 0 n (take n ws) ++ enc_rows (enc 8) 0 (width_limit - n) (drop n ws)
unfolding enc_window
window_split n ws l h =
    let q : width_limit ≡ n + (width_limit - n) = omega arith in
    ap₂ (λ (j : ℕ) (x : List ℕ). enc_rows (enc 8) 0 j x) q (sym (take-append-drop n ws))
    ∙ rows_split (enc 8) 0 8 (length_enc 8) n (width_limit - n) (take n ws) (drop n ws) (length-take-le n ws (rw l h))

cons_rows : (m v : ℕ) (l : List ℕ) → enc_rows (enc 8) 0 (suc m) (v ∷ l) ≡ enc 8 v ++ enc_rows (enc 8) 0 m l
unfolding enc_rows
cons_rows m v l = refl

pushed_rows : (n v : ℕ) (ws : List ℕ) → length ws ≡ width_limit → n < width_limit
    → enc_window (pushed_word (suc n) v ws) ≡ (enc_rows (enc 8) 0 n (drop 1 (take (suc n) ws)) ++ enc 8 v) ++ enc_rows (enc 8) 0 (width_limit - suc n) (drop (suc n) ws)
unfolding enc_window
pushed_rows n v ws l h =
    let x = drop 1 (take (suc n) ws) in
    let y = drop (suc n) ws in
    let q : width_limit ≡ n + suc (width_limit - suc n) = omega arith in
    let lx : length x ≡ n = length-drop 1 (take (suc n) ws) ∙ ap (λ (k : ℕ). k - 1) (length-take-le (suc n) ws (rw l h)) ∙ omega arith in
    ap (λ (j : ℕ). enc_rows (enc 8) 0 j (x ++ v ∷ y)) q
    ∙ rows_split (enc 8) 0 8 (length_enc 8) n (suc (width_limit - suc n)) x (v ∷ y) lx
    ∙ ap (λ (z : List ℕ). enc_rows (enc 8) 0 n x ++ z) (cons_rows (width_limit - suc n) v y)
    ∙ sym (append_assoc (enc_rows (enc 8) 0 n x) (enc 8 v) (enc_rows (enc 8) 0 (width_limit - suc n) y))

pushed_bytes : (s : List ℕ) (n v : ℕ) → length s ≡ window_length → Bytes s → n < width_limit → sets (sets s 0 (part s 8 (n * 8))) (n * 8) (enc 8 v) ≡ enc_window (pushed_word (suc n) v (dec_window s))
pushed_bytes s n v l b h =
    let ws = dec_window s in
    let many = window_many s in
    let some = enc_rows (enc 8) 0 (suc n) (take (suc n) ws) in
    let other = enc_rows (enc 8) 0 (width_limit - suc n) (drop (suc n) ws) in
    let dr = drop 8 some in
    let first : length (take (suc n) ws) ≡ suc n = length-take-le (suc n) ws (rw many h) in
    let e : s ≡ some ++ other = sym (window_dec s l b) ∙ window_split (suc n) ws many h in
    let sl : length some ≡ suc n * 8 = length_rows (enc 8) 0 8 (length_enc 8) (suc n) (take (suc n) ws) in
    let dl : length dr ≡ n * 8 = length-drop 8 some ∙ ap (λ (x : ℕ). x - 8) sl ∙ omega arith in
    let vl : length (enc 8 v) ≡ 8 = length_enc 8 v in
    let al : length some ≡ length (dr ++ enc 8 v) = sl ∙ sym (length-append dr (enc 8 v) ∙ ap₂ ◌+◌ dl vl ∙ omega arith) in
    let moved : part (some ++ other) 8 (n * 8) ≡ dr = ap (take (n * 8)) (drop-append-le 8 some other (rw sl (omega arith))) ∙ take_at dr other (n * 8) dl in
    let x = drop 1 (take (suc n) ws) in
    let one : suc n ≡ 1 + n = omega arith in
    let drop-is : dr ≡ enc_rows (enc 8) 0 n x = ap (λ (j : ℕ). drop (1 * 8) (enc_rows (enc 8) 0 j (take (suc n) ws))) one ∙ rows_drop (enc 8) 0 8 (length_enc 8) 1 n (take (suc n) ws) (first ∙ one) in
    let cat : n * 8 ≡ 0 + length dr = rw dl (omega arith) in
    ap (λ (z : List ℕ). sets (sets z 0 (part z 8 (n * 8))) (n * 8) (enc 8 v)) e
    ∙ ap (λ (z : List ℕ). sets (sets (some ++ other) 0 z) (n * 8) (enc 8 v)) moved
    ∙ ap (λ (j : ℕ). sets (sets (some ++ other) 0 dr) j (enc 8 v)) cat
    ∙ sym (sets_append (some ++ other) 0 dr (enc 8 v))
    ∙ sets_left some other 0 (dr ++ enc 8 v) (rw (sym al) (omega arith))
    ∙ ap (λ (z : List ℕ). z ++ other) (sets_whole some (dr ++ enc 8 v) al)
    ∙ ap (λ (z : List ℕ). (z ++ enc 8 v) ++ other) drop-is
    ∙ sym (pushed_rows n v ws many h)

-- the two stores of the code
pub word_push : (s s₁ s₂ : List ℕ) (n v : ℕ) → length s ≡ window_length → Bytes s → 0 < n → n ≤ width_limit
    → s₁ ≡ sets s 0 (part s 8 ((n - 1) * 8)) → s₂ ≡ sets s₁ ((n - 1) * 8) (enc 8 v) → s₂ ≡ enc_window (pushed_word n v (dec_window s))
word_push s s₁ s₂ zero v l b p h e₁ e₂ = absurd (omega arith)
word_push s s₁ s₂ (suc n) v l b p h e₁ e₂ =
    let q : suc n - 1 ≡ n = omega arith in
    e₂ ∙ ap (λ (z : List ℕ). sets z ((suc n - 1) * 8) (enc 8 v)) e₁
    ∙ ap (λ (m : ℕ). sets (sets s 0 (part s 8 (m * 8))) (m * 8) (enc 8 v)) q
    ∙ pushed_bytes s n v l b h

-- ---- a window's own bytes, lent as a part of the whole

module _ (n : ℕ) (s : List ℕ) (fits : n * 256 + area_length ≤ length s) where
  spare_length : length (drop (n * 256) s) ≡ length s - n * 256
  spare_length = length-drop (n * 256) s

  start_is : (j : ℕ) → n * 256 + window_start (length (drop (n * 256) s)) j ≡ window_start (length s) j
  start_is j = rw spare_length (omega arith)

  -- the words of window j are those in its bytes
  pub window_part : (j : ℕ) → window_at j (decode n s) ≡ dec_window (part s (window_start (length s) j) window_length)
  unfolding window_at decode
  window_part j = ap (λ (l : List ℕ). dec_window (take window_length l)) (drop-drop (window_start (length (drop (n * 256) s)) j) (n * 256) s ∙ ap (λ (m : ℕ). drop m s) (start_is j))

  -- the records are encoded as they were
  rows_again : Bytes s → enc_rows enc_raw no_raw n (decode n s).rows ≡ take (n * 256) s
  unfolding decode
  rows_again b = rows_dec enc_raw no_raw 256 raw_len dec_raw raw_dec n (take (n * 256) s) (length-take-le (n * 256) s (omega arith)) (take_bytes (n * 256) s b)

  pub window_lent : (p : List ℕ) (j k : ℕ) (ws : List ℕ) → k ≡ window_length → Bytes s → j < window_limit → p ≡ enc_window ws
      → put_mid (window_start (length s) j) k s p ≡ encode n (with_window j ws (decode n s))
  unfolding with_window encode decode
  window_lent p j k ws q b h e =
      let at = window_start (length s) j in
      let lp : length p ≡ window_length = ap length e ∙ window_len ws in
      let rows = take (n * 256) s in
      let tail = drop (n * 256) s in
      let rl : length rows ≡ n * 256 = length-take-le (n * 256) s (omega arith) in
      ap (λ (m : ℕ). put_mid at m s p) q
      ∙ ap (λ (l : List ℕ). take at s ++ (p ++ l)) (drop-drop window_length at s)
      ∙ sym (append_assoc (take at s) p (drop (at + window_length) s))
      ∙ ap (λ (m : ℕ). take at s ++ p ++ drop (at + m) s) (sym lp)
      ∙ sym (sets-eq p s at (omega arith))
      ∙ ap₂ (λ (l : List ℕ) (m : ℕ). sets l m p) (sym (take-append-drop (n * 256) s)) (sym (start_is j) ∙ ap (λ (m : ℕ). m + window_start (length tail) j) (sym rl))
      ∙ sets_right rows tail (window_start (length tail) j) p
      ∙ ap (λ (l : List ℕ). rows ++ sets tail (window_start (length tail) j) l) e
      ∙ ap (λ (l : List ℕ). l ++ sets tail (window_start (length tail) j) (enc_window ws)) (sym (rows_again b))
