-- A window's part of a move on raw records is the machine's: what it finds, and what it keeps then.
use Prim.Native.Nat.{ℕ, zero, suc, ◌+◌, ◌*◌, ◌-◌, ◌^◌, ◌<◌, ◌≤◌, min, max}
use mathlib.Core.Path.{◌≡◌, refl, sym, ap, ap₂, ◌∙◌}
use mathlib.Core.Bool.{Bool, true, false, cond, true≢false}
use mathlib.Core.List.{List, [], ◌∷◌, ◌++◌, map}
use native.Mathlib.Omega.{arith}
use lib.IntN.{ℤ}
use lib.ListN.{length, get_or, set, take, drop, replicate, length-set, length-map, length-append, length-drop}
use lib.Seq.{take_at}
use mir.Syntax.{w64}
use mir.Val.{to_z, of_z}
use Rattle.meaning.specs.Plan.{Eqn, input, nil, unit, one, two, last, delay, signal, window}
use Rattle.meaning.specs.Events.{Event}
use Rattle.meaning.specs.Table.{latest_of, values, width}
use Rattle.machine.specs.State.{Kept, Passed, Cell, State, cell_at, plan_of, no_passed, with_window as withValues, with_passed}
use Rattle.machine.specs.Reach.{Next, decide}
use Rattle.machine.specs.Step.{drop_below, pass}
use Rattle.machine.specs.Windows.{take_below, first_fit}
use Rattle.machine.specs.Counting.{sum_tally}
use Rattle.machine.proofs.Rising as machine
use Rattle.machine.proofs.Windows.{window_slides, window_finds}
use Rattle.operators.specs.Operators.{value_of}
use Rattle.operators.specs.Limits.{width_limit, window_limit}
use Rattle.operators.specs.Windows.{IsWidth, is_window_eqn, windows}
use Rattle.layout.specs.Record.{Raw, Raws, num, with_num, row_at, change, flag_f}
use Rattle.layout.specs.Windows.{area_length, enc_window, dec_window, enc_windows, window_at, with_window}
use Rattle.encoding.specs.View.{windows_of, words_of, kept_nums, counts_word, raw_of, of_cell, behind, raws_of}
use Rattle.encoding.specs.Sound.{Rising, AllValues, IsPassed}
use Rattle.roundtrip.proofs.Windows.{words_small, values_back}
use Rattle.sliding.specs.Slide.{width_in, windows_before, place_of, fill_of, words_in, fit_row, missing_row, slid_words, slid_row}
use Rattle.passing.specs.Pass.{fold_of}
use Rattle.refine.proofs.Whole.{row_of, set_of}
use Rattle.refine.proofs.Windows.{window_words, window_over, window_at_lem, window_put, rank, rank_of, rank_below, rank_few, rank_window, windows_set, fill_of_lem}

-- ---- by whether the equation is a window

-- what a window's cell of a state has
pub record Fine (e : Eqn) (w : List ℤ) : Type 0 where
  pub wide : width_in (value_of e) ≡ width (value_of e)
  pub within : width (value_of e) ≤ width_limit
  pub few : length w ≤ width (value_of e)
  pub values : AllValues w

pub fine : (e : Eqn) (y : ℕ) (w : Passed) → is_window_eqn e ≡ true → IsWidth e → IsPassed e y w → Fine e w.window
unfolding value_of
fine input y w q i p = absurd (true≢false (sym q))
fine nil y w q i p = absurd (true≢false (sym q))
fine unit y w q i p = absurd (true≢false (sym q))
fine (one f a) y w q i p = absurd (true≢false (sym q))
fine (two g a b) y w q i p = absurd (true≢false (sym q))
fine (last a b) y w q i p = absurd (true≢false (sym q))
fine (delay a b) y w q i p = absurd (true≢false (sym q))
fine (signal c a b) y w q i p = absurd (true≢false (sym q))
fine (window f k a) y w q i p = let l = i.0 in let m = i.1 in record { wide = omega arith; within = m; few = p.few; values = p.values }

-- any other looks at no window
pub decide_plain : (e : Eqn) (o a b : Cell) → is_window_eqn e ≡ false → decide e (with_passed no_passed o) (with_passed no_passed a) (with_passed no_passed b) ≡ decide e o a b
unfolding decide
decide_plain input o a b q = refl
decide_plain nil o a b q = refl
decide_plain unit o a b q = refl
decide_plain (one f _) o a b q = refl
decide_plain (two g _ _) o a b q = refl
decide_plain (last _ _) o a b q = refl
decide_plain (delay _ _) o a b q = refl
decide_plain (signal c _ _) o a b q = refl
decide_plain (window f k _) o a b q = absurd (true≢false q)

pub pass_plain : (e : Eqn) (y : ℕ) (o a b : Cell) → is_window_eqn e ≡ false → (pass e y o a b).window ≡ o.passed.window
pass_plain input y o a b q = refl
pass_plain nil y o a b q = refl
pass_plain unit y o a b q = refl
pass_plain (one f _) y o a b q = refl
pass_plain (two g _ _) y o a b q = refl
pass_plain (last _ _) y o a b q = refl
pass_plain (delay _ _) y o a b q = refl
pass_plain (signal c _ _) y o a b q = refl
pass_plain (window f k _) y o a b q = absurd (true≢false q)

-- held events of a state rise as the machine's laws have it
low_top : (lo top : ℕ) (es : List Event) → Rising lo top es → lo ≤ top
low_top lo top [] r = r
low_top lo top (e ∷ es) r = let k = low_top (suc e.stamp) top es r.2 in let l = r.0 in omega arith

pub rises : (lo top : ℕ) (es : List Event) → Rising lo top es → machine.Rising lo top es
rises lo top [] r = tt
rises lo top (e ∷ es) r = (r.0, low_top (suc e.stamp) top es r.2, rises (suc e.stamp) top es r.2)

module _ (top : ℕ) (o a b : Cell) (r : Rising 0 top a.held) where
  pub decide_window : (e : Eqn) → is_window_eqn e ≡ true
      → first_fit (fold_of e) (width (value_of e)) (max o.bound a.bound) o.passed.window (drop_below o.bound a.held) ≡ decide e o a b
  unfolding value_of
  decide_window input q = absurd (true≢false (sym q))
  decide_window nil q = absurd (true≢false (sym q))
  decide_window unit q = absurd (true≢false (sym q))
  decide_window (one f x) q = absurd (true≢false (sym q))
  decide_window (two g x z) q = absurd (true≢false (sym q))
  decide_window (last x z) q = absurd (true≢false (sym q))
  decide_window (delay x z) q = absurd (true≢false (sym q))
  decide_window (signal c x z) q = absurd (true≢false (sym q))
  decide_window (window f k x) q = sym (window_finds f k x o a b 0 top (rises 0 top a.held r))

  -- what it keeps once its bound is y
  abbrev after : Eqn → ℕ → List ℤ
  after e y = latest_of (width (value_of e)) (o.passed.window ++ values (take_below y (drop_below o.bound a.held)))

  pub pass_window : (e : Eqn) (y : ℕ) → is_window_eqn e ≡ true → (pass e y o a b).window ≡ after e y
  unfolding value_of
  pass_window input y q = absurd (true≢false (sym q))
  pass_window nil y q = absurd (true≢false (sym q))
  pass_window unit y q = absurd (true≢false (sym q))
  pass_window (one f x) y q = absurd (true≢false (sym q))
  pass_window (two g x z) y q = absurd (true≢false (sym q))
  pass_window (last x z) y q = absurd (true≢false (sym q))
  pass_window (delay x z) y q = absurd (true≢false (sym q))
  pass_window (signal c x z) y q = absurd (true≢false (sym q))
  pass_window (window f k x) y q = window_slides (width k) o.bound y o.passed.window 0 top a.held (rises 0 top a.held r)

-- ---- lists

words_at : (l : List (List ℤ)) (j : ℕ) → get_or (map words_of l) j [] ≡ words_of (get_or l j [])
words_at [] j = refl
words_at (w ∷ l) zero = refl
words_at (w ∷ l) (suc j) = words_at l j

words_set : (l : List (List ℤ)) (j : ℕ) (w : List ℤ) → set (map words_of l) j (words_of w) ≡ map words_of (set l j w)
words_set [] j w = refl
words_set (v ∷ l) zero w = refl
words_set (v ∷ l) (suc j) w = ap (◌∷◌ (words_of v)) (words_set l j w)

latest_long : (k : ℕ) (l m : List ℤ) → length l ≤ k → length l ≤ length (latest_of k (l ++ m))
unfolding latest_of
latest_long k l m h = rw (length-drop (length (l ++ m) - k) (l ++ m), length-append l m) (omega arith)

-- a window's record with another fill
fill_put : (c : Cell) (w : List ℤ) → is_window_eqn c.eqn ≡ true → with_num flag_f (length w) (of_cell c) ≡ of_cell (with_passed (withValues w c.passed) c)
unfolding of_cell
fill_put c w q = go c.eqn q
  where
    raw : Eqn → Passed → Raw
    raw e v = raw_of e c.out c.bound c.held c.next (kept_nums e c.kept v) (counts_word c.passed)

    go : (e : Eqn) → is_window_eqn e ≡ true → with_num flag_f (length w) (raw e c.passed) ≡ raw e (withValues w c.passed)
    go input h = absurd (true≢false (sym h))
    go nil h = absurd (true≢false (sym h))
    go unit h = absurd (true≢false (sym h))
    go (one f x) h = absurd (true≢false (sym h))
    go (two g x v) h = absurd (true≢false (sym h))
    go (last x v) h = absurd (true≢false (sym h))
    go (delay x v) h = absurd (true≢false (sym h))
    go (signal d x v) h = absurd (true≢false (sym h))
    go (window f k x) h = refl

-- ---- stream i's window in the raw state

module _ (size : ℕ) (M : State) (i : ℕ) (l : i < length M) (q : is_window_eqn (cell_at M i).eqn ≡ true) (most : windows (plan_of M) ≤ window_limit)
    (ok : Fine (cell_at M i).eqn (cell_at M i).passed.window) where
  abbrev st : Raws
  st = raws_of size M

  abbrev w : List ℤ
  w = (cell_at M i).passed.window

  abbrev k : ℕ
  k = width (value_of (cell_at M i).eqn)

  small : rank i M < window_limit
  small = rank_few M i l q most

  place_is : place_of i st ≡ rank i M
  unfolding raws_of
  place_is = let s = small in rw (rank_of i M) (omega arith)

  -- its words, and zeros behind them
  words_are : window_at (place_of i st) st ≡ words_of w ++ replicate (width_limit - length (words_of w)) 0
  words_are =
      let f = ok.few in
      let m = ok.within in
      ap (λ (j : ℕ). window_at j st) place_is
      ∙ window_at_lem size M (rank i M) small
      ∙ ap (λ (x : List ℕ). dec_window (enc_window x)) (words_at (windows_of M) (rank i M) ∙ ap words_of (rank_window M i l q))
      ∙ window_words (words_of w) (rw (length-map w (of_z w64)) (omega arith)) (words_small w ok.values)

  row_is : row_at st i ≡ of_cell (cell_at M i)
  unfolding raws_of
  row_is = row_of M i l

  fill_is : fill_of k i st ≡ length w
  fill_is = let f = ok.few in let n : num flag_f (row_at st i) ≡ length w = ap (num flag_f) row_is ∙ fill_of_lem (cell_at M i) q in rw n (omega arith)

  words_of_lem : words_in k i st ≡ words_of w
  words_of_lem = ap₂ take fill_is words_are ∙ take_at (words_of w) (replicate (width_limit - length (words_of w)) 0) (length w) (length-map w (of_z w64))

  -- what it finds
  pub fit_of : (y hi : ℕ) (es : List Event) → fit_row (fold_of (cell_at M i).eqn) (width_in (value_of (cell_at M i).eqn)) i y hi es st ≡ first_fit (fold_of (cell_at M i).eqn) k hi w (drop_below y es)
  unfolding fit_row
  fit_of y hi es =
      let f = fold_of (cell_at M i).eqn in
      ap (λ (j : ℕ). first_fit f j hi (map (to_z w64) (words_in j i st)) (drop_below y es)) ok.wide
      ∙ ap (λ (x : List ℤ). first_fit f k hi x (drop_below y es)) (ap (map (to_z w64)) words_of_lem ∙ values_back w ok.values)

  -- at how many stamps its sum has no value
  pub missing_of : (y x : ℕ) (es : List Event) → missing_row (width_in (value_of (cell_at M i).eqn)) i y x es st ≡ sum_tally k x w (drop_below y es)
  unfolding missing_row
  missing_of y x es =
      ap (λ (j : ℕ). sum_tally j x (map (to_z w64) (words_in j i st)) (drop_below y es)) ok.wide
      ∙ ap (λ (v : List ℤ). sum_tally k x v (drop_below y es)) (ap (map (to_z w64)) words_of_lem ∙ values_back w ok.values)

  -- what it keeps then
  module _ (y x : ℕ) (es : List Event) where
    abbrev next : List ℤ
    next = latest_of k (w ++ values (take_below x (drop_below y es)))

    abbrev moved : Cell
    moved = with_passed (withValues next (cell_at M i).passed) (cell_at M i)

    slid_words_lem : slid_words k i y x es st ≡ words_of next
    slid_words_lem = ap (λ (z : List ℤ). words_of (latest_of k (z ++ values (take_below x (drop_below y es))))) (ap (map (to_z w64)) words_of_lem ∙ values_back w ok.values)

    many : length (words_of next) ≡ length next
    many = length-map next (of_z w64)

    stored : enc_window (words_of next ++ drop (length (words_of next)) (window_at (place_of i st) st)) ≡ enc_window (words_of next)
    stored =
        let h = latest_long k w (values (take_below x (drop_below y es))) ok.few in
        ap (λ (z : List ℕ). enc_window (words_of next ++ drop (length (words_of next)) z)) words_are
        ∙ window_over (words_of w) (words_of next) (width_limit - length (words_of w)) (rw (length-map w (of_z w64), many) h)

    spare_of : (with_window (place_of i st) (words_of next ++ drop (length (words_of next)) (window_at (place_of i st) st)) st).spare ≡ behind size (set M i moved)
    unfolding with_window behind
    spare_of =
        ap (λ (z : List ℕ). lib.Seq.sets st.spare (Rattle.layout.specs.Windows.window_start (length st.spare) (place_of i st)) z) stored
        ∙ ap (λ (j : ℕ). (with_window j (words_of next) st).spare) place_is
        ∙ window_put size M (rank i M) (words_of next) small (rw (length-map (windows_of M) words_of) (rank_below M i l q))
        ∙ ap₂ (λ (n : ℕ) (z : List (List ℕ)). replicate {A = ℕ} (size - area_length - n * 256) 0 ++ enc_windows z)
        (sym (length-set M i moved)) (words_set (windows_of M) (rank i M) next ∙ ap (map words_of) (sym (windows_set M i moved l q refl)))

    rows_of : set (map of_cell M) i (with_num flag_f (length (words_of next)) (row_at st i)) ≡ map of_cell (set M i moved)
    rows_of =
        ap₂ (λ (n : ℕ) (r : Raw). set (map of_cell M) i (with_num flag_f n r)) many row_is
        ∙ ap (set (map of_cell M) i) (fill_put (cell_at M i) next q) ∙ set_of M i moved

    pub slid_of : slid_row (width_in (value_of (cell_at M i).eqn)) i y x es st ≡ raws_of size (set M i moved)
    unfolding slid_row raws_of
    slid_of =
        ap (λ (j : ℕ). slid_row j i y x es st) ok.wide
        ∙ ap (λ (z : List ℕ). change i (with_num flag_f (length z)) (with_window (place_of i st) (z ++ drop (length z) (window_at (place_of i st) st)) st)) slid_words_lem
        ∙ (unfold with_window in λ j. record { rows = rows_of j; spare = spare_of j })
