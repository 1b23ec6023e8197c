-- The windows of a state in its bytes: stream i's lies at its rank among the windows, and to store another is to keep another.
use Prim.Native.Nat.{ℕ, zero, suc, ◌+◌, ◌*◌, ◌-◌, ◌^◌, ◌<◌, ◌≤◌, min}
use mathlib.Core.Path.{◌≡◌, refl, sym, ap, ap₂, ◌∙◌}
use mathlib.Core.Bool.{Bool, true, false, cond, true≢false}
use mathlib.Core.List.{List, [], ◌∷◌, ◌++◌, map}
use native.Mathlib.Omega.{arith}
use native.Mathlib.Nat.{zero-mul, suc-mul, add_comm}
use lib.IntN.{ℤ}
use lib.ListN.{length, get_or, set, take, drop, replicate, length-set, length-map, length-append, length-drop, length-replicate}
use lib.Seq.{sets, take_at, drop_at, drop-drop, drop-append-le, drop-append-add}
use mir.Syntax.{w64}
use mir.Val.{of_z}
use Rattle.meaning.specs.Plan.{Eqn, input, nil, unit, one, two, last, delay, signal, window}
use Rattle.machine.specs.State.{Passed, Cell, State, cell_at, plan_of}
use Rattle.operators.specs.Operators.{group_of, is_window}
use Rattle.operators.specs.Limits.{width_limit, window_limit}
use Rattle.operators.specs.Windows.{is_window_eqn, windows}
use Rattle.operators.proofs.Laws.{group_of_lem}
use Rattle.le.specs.Bytes.{part}
use Rattle.le.specs.Layout.{enc_rows}
use Rattle.le.proofs.Fields.{length_rows, rows_set, sets_right, sets_whole}
use Rattle.le.proofs.RoundTrip.{All}
use Rattle.layout.specs.Record.{Raw, Raws, num, op_f, flag_f}
use Rattle.layout.specs.Windows.{window_length, area_length, enc_window, dec_window, enc_windows, window_start, window_at, with_window}
use Rattle.layout.proofs.Windows.{window_len, windows_len, window_enc}
use Rattle.encoding.specs.View.{windows_of, words_of, kept_nums, of_cell, behind, raws_of}
use Rattle.sliding.specs.Slide.{windows_before, place_of}

-- ---- one window's words

-- rows that are missing are those behind the last
rows_pad : {A : Type 0} (f : A → List ℕ) (d : A) (n : ℕ) (l : List A) (m : ℕ) → enc_rows f d n (l ++ replicate m d) ≡ enc_rows f d n l
unfolding enc_rows
rows_pad f d zero l m = refl
rows_pad f d (suc n) [] zero = refl
rows_pad f d (suc n) [] (suc m) = ap (◌++◌ (f d)) (rows_pad f d n [] m)
rows_pad f d (suc n) (a ∷ l) m = ap (◌++◌ (f a)) (rows_pad f d n l m)

pub window_pad : (ws : List ℕ) (m : ℕ) → enc_window (ws ++ replicate m 0) ≡ enc_window ws
unfolding enc_window
window_pad ws m = rows_pad _ 0 width_limit ws m

all_zeros : (m : ℕ) → All (λ (v : ℕ). v < 256 ^ 8) (replicate m 0)
all_zeros zero = tt
all_zeros (suc m) = (omega arith, all_zeros m)

all_append : (l k : List ℕ) → All (λ (v : ℕ). v < 256 ^ 8) l → All (λ (v : ℕ). v < 256 ^ 8) k → All (λ (v : ℕ). v < 256 ^ 8) (l ++ k)
all_append [] k a b = b
all_append (v ∷ l) k a b = (a.0, all_append l k a.1 b)

-- what a window's bytes give back: its words, and zeros behind them
pub window_words : (ws : List ℕ) → length ws ≤ width_limit → All (λ (v : ℕ). v < 256 ^ 8) ws → dec_window (enc_window ws) ≡ ws ++ replicate (width_limit - length ws) 0
window_words ws h a =
    let m = width_limit - length ws in
    let z : List ℕ = replicate m 0 in
    let n : length (ws ++ z) ≡ width_limit = length-append ws z ∙ ap (◌+◌ (length ws)) (length-replicate {A = ℕ} m 0) ∙ omega arith in
    ap dec_window (sym (window_pad ws m)) ∙ window_enc (ws ++ z) n (all_append ws z a (all_zeros m))

drop_zeros : (n m : ℕ) → drop n (replicate {A = ℕ} m 0) ≡ replicate (m - n) 0
drop_zeros zero m = let q : m - 0 ≡ m = omega arith in ap (λ (j : ℕ). replicate {A = ℕ} j 0) (sym q)
drop_zeros (suc n) zero = let q : 0 - suc n ≡ 0 = omega arith in ap (λ (j : ℕ). replicate {A = ℕ} j 0) (sym q)
drop_zeros (suc n) (suc m) = let q : suc m - suc n ≡ m - n = omega arith in drop_zeros n m ∙ ap (λ (j : ℕ). replicate {A = ℕ} j 0) (sym q)

-- at least as many words in their place: the same bytes, whether the zeros behind them are named or not
pub window_over : (vs ws : List ℕ) (m : ℕ) → length vs ≤ length ws → enc_window (ws ++ drop (length ws) (vs ++ replicate m 0)) ≡ enc_window ws
window_over vs ws m h =
    let q : length vs + (length ws - length vs) ≡ length ws = omega arith in
    let d = ap (λ (j : ℕ). drop j (vs ++ replicate m 0)) (sym q) ∙ drop-append-add vs (replicate m 0) (length ws - length vs) ∙ drop_zeros (length ws - length vs) m in
    ap (λ (l : List ℕ). enc_window (ws ++ l)) d ∙ window_pad ws (m - (length ws - length vs))

-- ---- one of the rows of bytes

module _ {A : Type 0} (f : A → List ℕ) (d : A) (c : ℕ) (len : (a : A) → length (f a) ≡ c) where
  row_next : (n i : ℕ) (a : A) (l : List A) → part (f a ++ enc_rows f d n l) (suc i * c) c ≡ part (enc_rows f d n l) (i * c) c
  row_next n i a l =
      let q : suc i * c ≡ length (f a) + i * c = suc-mul i c ∙ rw (len a) (add_comm (i * c) c) in
      ap (take c) (ap (λ (m : ℕ). drop m (f a ++ enc_rows f d n l)) q ∙ drop-append-add (f a) (enc_rows f d n l) (i * c))

  row_first : (n : ℕ) (a : A) (l : List A) → part (f a ++ enc_rows f d n l) (0 * c) c ≡ f a
  row_first n a l = rw (zero-mul c) (take_at (f a) (enc_rows f d n l) c (len a))

  pub rows_part : (n : ℕ) (l : List A) (i : ℕ) → i < n → part (enc_rows f d n l) (i * c) c ≡ f (get_or l i d)
  unfolding enc_rows
  rows_part zero l i h = absurd (omega arith)
  rows_part (suc n) [] zero h = row_first n d []
  rows_part (suc n) [] (suc i) h = row_next n i d [] ∙ rows_part n [] i (omega arith)
  rows_part (suc n) (a ∷ l) zero h = row_first n a l
  rows_part (suc n) (a ∷ l) (suc i) h = row_next n i a l ∙ rows_part n l i (omega arith)

-- ---- behind the records

module _ (size : ℕ) (M : State) where
  abbrev words : List (List ℕ)
  words = map words_of (windows_of M)

  abbrev zeros : List ℕ
  zeros = replicate (size - area_length - length M * 256) 0

  spare_is : (raws_of size M).spare ≡ zeros ++ enc_windows words
  unfolding raws_of behind
  spare_is = refl

  start_is : (j : ℕ) → window_start (length (zeros ++ enc_windows words)) j ≡ length zeros + j * window_length
  start_is j =
      let q = length-append zeros (enc_windows words) ∙ ap (◌+◌ (length zeros)) (windows_len words) in
      rw q (omega arith)

  -- the words at place j
  pub window_at_lem : (j : ℕ) → j < window_limit → window_at j (raws_of size M) ≡ dec_window (enc_window (get_or words j []))
  unfolding window_at enc_windows
  window_at_lem j h =
      ap (λ (s : List ℕ). dec_window (part s (window_start (length s) j) window_length)) spare_is
      ∙ ap (λ (m : ℕ). dec_window (part (zeros ++ enc_windows words) m window_length)) (start_is j)
      ∙ ap (λ (s : List ℕ). dec_window (take window_length s)) (drop-append-add zeros (enc_windows words) (j * window_length))
      ∙ ap dec_window (rows_part enc_window [] window_length window_len window_limit words j h)

  -- other words there
  pub window_put : (j : ℕ) (ws : List ℕ) → j < window_limit → j < length words → (with_window j ws (raws_of size M)).spare ≡ zeros ++ enc_windows (set words j ws)
  unfolding with_window enc_windows
  window_put j ws h k =
      ap (λ (s : List ℕ). sets s (window_start (length s) j) (enc_window ws)) spare_is
      ∙ ap (λ (m : ℕ). sets (zeros ++ enc_windows words) m (enc_window ws)) (start_is j)
      ∙ sets_right zeros (enc_windows words) (j * window_length) (enc_window ws)
      ∙ ap (◌++◌ zeros)
      (ap (λ (m : ℕ). sets (enc_windows words) m (enc_window ws)) (sym_zero (j * window_length))
      ∙ rows_set enc_window [] window_length window_len window_limit words j 0 (enc_window ws) ws h k (rw (window_len ws) (omega arith))
      (sym (sets_whole (enc_window (get_or words j [])) (enc_window ws) (window_len (get_or words j []) ∙ sym (window_len ws)))))
    where
      sym_zero : (m : ℕ) → m ≡ m + 0
      sym_zero m = omega arith

-- ---- ranks

abbrev pub rank : ℕ → State → ℕ
rank zero M = 0
rank (suc i) [] = 0
rank (suc i) (c ∷ M) = cond (is_window_eqn c.eqn) (suc (rank i M)) (rank i M)

pub group_is : (c : Cell) → is_window (group_of (num op_f (of_cell c))) ≡ is_window_eqn c.eqn
unfolding of_cell
group_is c = ap is_window (group_of_lem c.eqn)

pub rank_of : (i : ℕ) (M : State) → windows_before i (map of_cell M) ≡ rank i M
unfolding windows_before
rank_of zero M = refl
rank_of (suc i) [] = refl
rank_of (suc i) (c ∷ M) = rw (group_is c, rank_of i M)

abbrev IsOne : State → ℕ → Type 0
IsOne M i = is_window_eqn (cell_at M i).eqn ≡ true

windows_many : (M : State) → length (windows_of M) ≡ windows (plan_of M)
unfolding windows
windows_many [] = refl
windows_many (c ∷ M) = go (is_window_eqn c.eqn) (windows_many M)
  where
    go : (b : Bool) → length (windows_of M) ≡ windows (plan_of M) → length (cond b (c.passed.window ∷ windows_of M) (windows_of M)) ≡ cond b (suc (windows (plan_of M))) (windows (plan_of M))
    go true e = ap suc e
    go false e = e

-- the rank of a window is one of the windows'
pub rank_below : (M : State) (i : ℕ) → i < length M → IsOne M i → rank i M < length (windows_of M)
rank_below [] i h q = absurd (omega arith)
rank_below (c ∷ M) zero h q = rw q (omega arith)
rank_below (c ∷ M) (suc i) h q = go (is_window_eqn c.eqn) (rank_below M i (omega arith) q)
  where
    go : (b : Bool) → rank i M < length (windows_of M) → cond b (suc (rank i M)) (rank i M) < length (cond b (c.passed.window ∷ windows_of M) (windows_of M))
    go true k = omega arith
    go false k = k

pub rank_few : (M : State) (i : ℕ) → i < length M → IsOne M i → windows (plan_of M) ≤ window_limit → rank i M < window_limit
rank_few M i h q w = let k = rank_below M i h q in let m = windows_many M in omega arith

-- what lies at its place
pub rank_window : (M : State) (i : ℕ) → i < length M → IsOne M i → get_or (windows_of M) (rank i M) [] ≡ (cell_at M i).passed.window
rank_window [] i h q = absurd (omega arith)
rank_window (c ∷ M) zero h q = rw q
rank_window (c ∷ M) (suc i) h q = go (is_window_eqn c.eqn) (rank_window M i (omega arith) q)
  where
    go : (b : Bool) → get_or (windows_of M) (rank i M) [] ≡ (cell_at M i).passed.window → get_or (cond b (c.passed.window ∷ windows_of M) (windows_of M)) (cond b (suc (rank i M)) (rank i M)) [] ≡ (cell_at M i).passed.window
    go true e = e
    go false e = e

-- another cell of the same equation in its place
pub windows_set : (M : State) (i : ℕ) (d : Cell) → i < length M → IsOne M i → d.eqn ≡ (cell_at M i).eqn → windows_of (set M i d) ≡ set (windows_of M) (rank i M) d.passed.window
windows_set [] i d h q e = absurd (omega arith)
windows_set (c ∷ M) zero d h q e = rw (e, q)
windows_set (c ∷ M) (suc i) d h q e = go (is_window_eqn c.eqn) (windows_set M i d (omega arith) q e)
  where
    go : (b : Bool) → windows_of (set M i d) ≡ set (windows_of M) (rank i M) d.passed.window
        → cond b (c.passed.window ∷ windows_of (set M i d)) (windows_of (set M i d)) ≡ set (cond b (c.passed.window ∷ windows_of M) (windows_of M)) (cond b (suc (rank i M)) (rank i M)) d.passed.window
    go true k = ap (◌∷◌ c.passed.window) k
    go false k = k

-- ---- a step that leaves equations and windows leaves what lies behind the records

pub windows_same : (M : State) (i : ℕ) (d : Cell) → i < length M → d.eqn ≡ (cell_at M i).eqn → d.passed.window ≡ (cell_at M i).passed.window → windows_of (set M i d) ≡ windows_of M
windows_same [] i d h e p = absurd (omega arith)
windows_same (c ∷ M) zero d h e p = rw (e, p)
windows_same (c ∷ M) (suc i) d h e p = rw (windows_same M i d (omega arith) e p)

pub windows_map : (f : Cell → Cell) → ((c : Cell) → (f c).eqn ≡ c.eqn) → ((c : Cell) → (f c).passed ≡ c.passed) → (M : State) → windows_of (map f M) ≡ windows_of M
windows_map f e p [] = refl
windows_map f e p (c ∷ M) = rw (e c, p c, windows_map f e p M)

-- how many a window keeps is its record's number
pub fill_of_lem : (c : Cell) → is_window_eqn c.eqn ≡ true → num flag_f (of_cell c) ≡ length c.passed.window
unfolding of_cell
fill_of_lem c q = go c.eqn q
  where
    go : (e : Eqn) → is_window_eqn e ≡ true → (kept_nums e c.kept c.passed).flag ≡ length c.passed.window
    go input h = absurd (true≢false (sym h))
    go nil h = absurd (true≢false (sym h))
    go unit h = absurd (true≢false (sym h))
    go (one f x) h = absurd (true≢false (sym h))
    go (two g x v) h = absurd (true≢false (sym h))
    go (last x v) h = absurd (true≢false (sym h))
    go (delay x v) h = absurd (true≢false (sym h))
    go (signal d x v) h = absurd (true≢false (sym h))
    go (window f k x) h = refl
