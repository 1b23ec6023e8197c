-- Records that pass and windows that pass are those of the cells that they give, and the cells are sound; and back.
use Prim.Native.Nat.{ℕ, zero, suc, ◌*◌, ◌-◌, ◌≤◌}
use mathlib.Core.Path.{◌≡◌, refl, sym, ap, ap₂, ◌∙◌}
use mathlib.Core.List.{List, [], ◌∷◌, ◌++◌, map}
use mathlib.Core.Bool.{Bool, true, false, ◌&&◌, true≢false}
use native.Mathlib.Omega.{arith}
use lib.IntN.{ℤ}
use lib.ListN.{length, take, drop, replicate, length-map, length-drop, take-append-drop}
use lib.Seq.{length-take-le, take_at, drop_at}
use mir.Syntax.{w64}
use mir.Val.{of_z}
use Rattle.meaning.specs.Plan.{Eqn, input, nil, unit, one, two, last, delay, signal, window, Plan}
use Rattle.meaning.specs.Table.{width}
use Rattle.machine.specs.State.{Passed, Cell, State, plan_of, with_passed}
use Rattle.operators.specs.Operators.{group_of, is_window, value_of}
use Rattle.operators.specs.Limits.{width_limit}
use Rattle.operators.specs.Windows.{IsWidth, is_window_eqn, windows}
use Rattle.operators.proofs.Laws.{group_of_lem, window_by_number}
use Rattle.le.specs.Bytes.{Bytes, all_zero}
use Rattle.le.specs.Layout.{enc_rows}
use Rattle.le.proofs.Laws.{take_bytes, drop_bytes}
use Rattle.le.proofs.RoundTrip.{All}
use Rattle.layout.specs.Record.{Raw, num, op_f, flag_f, bound_f}
use Rattle.layout.specs.Windows.{window_length, enc_window}
use Rattle.layout.proofs.Windows.{window_len}
use Rattle.encoding.specs.View.{windows_of, words_of, of_cell}
use Rattle.encoding.specs.Back.{to_cell, window_in, cells}
use Rattle.encoding.specs.Sound.{AllValues, IsPassed, SoundCell, Own}
use Rattle.encoding.proofs.Widths.{cell_back}
use Rattle.encoding.proofs.Cells.{cells_window, cells_other, cells_none}
use Rattle.valid.proofs.Tests.{left, right}
use Rattle.valid.proofs.Link.{eqn_in}
use Rattle.roundtrip.proofs.Passes.{zeros_zero}
use Rattle.roundtrip.proofs.Tail.{zero_list}
use Rattle.roundtrip.proofs.Counts.{passed_back}
use Rattle.roundtrip.proofs.Rows.{cell_in}
use Rattle.roundtrip.proofs.Windows.{none_windows, window_passes, window_back, passed_length, passed_values, passed_bytes, windows_raw, area_raw}

-- ---- what may be kept, by whether the equation is a window

pub passed_window : (e : Eqn) (y : ℕ) (w : Passed) → is_window_eqn e ≡ true → length w.window ≤ width (value_of e) → AllValues w.window → (y ≡ 0 → w.window ≡ []) → IsPassed e y w
unfolding value_of
passed_window input y w q l a z = absurd (true≢false (sym q))
passed_window nil y w q l a z = absurd (true≢false (sym q))
passed_window unit y w q l a z = absurd (true≢false (sym q))
passed_window (one f x) y w q l a z = absurd (true≢false (sym q))
passed_window (two g x v) y w q l a z = absurd (true≢false (sym q))
passed_window (last x v) y w q l a z = absurd (true≢false (sym q))
passed_window (delay x v) y w q l a z = absurd (true≢false (sym q))
passed_window (signal c x v) y w q l a z = absurd (true≢false (sym q))
passed_window (window f k x) y w q l a z = record { few = l; values = a; fresh = z }

pub passed_other : (e : Eqn) (y : ℕ) (w : Passed) → is_window_eqn e ≡ false → w.window ≡ [] → IsPassed e y w
passed_other input y w q p = p
passed_other nil y w q p = p
passed_other unit y w q p = p
passed_other (one f x) y w q p = p
passed_other (two g x v) y w q p = p
passed_other (last x v) y w q p = p
passed_other (delay x v) y w q p = p
passed_other (signal c x v) y w q p = p
passed_other (window f k x) y w q p = absurd (true≢false q)

-- and back
passed_none : (e : Eqn) (y : ℕ) (w : Passed) → is_window_eqn e ≡ false → IsPassed e y w → w.window ≡ []
passed_none input y w q p = p
passed_none nil y w q p = p
passed_none unit y w q p = p
passed_none (one f x) y w q p = p
passed_none (two g x v) y w q p = p
passed_none (last x v) y w q p = p
passed_none (delay x v) y w q p = p
passed_none (signal c x v) y w q p = p
passed_none (window f k x) y w q p = absurd (true≢false q)

window_kept : (e : Eqn) (y : ℕ) (w : Passed) → is_window_eqn e ≡ true → IsWidth e → IsPassed e y w → (length w.window ≤ width_limit) × AllValues w.window
window_kept input y w q i p = absurd (true≢false (sym q))
window_kept nil y w q i p = absurd (true≢false (sym q))
window_kept unit y w q i p = absurd (true≢false (sym q))
window_kept (one f x) y w q i p = absurd (true≢false (sym q))
window_kept (two g x v) y w q i p = absurd (true≢false (sym q))
window_kept (last x v) y w q i p = absurd (true≢false (sym q))
window_kept (delay x v) y w q i p = absurd (true≢false (sym q))
window_kept (signal c x v) y w q i p = absurd (true≢false (sym q))
window_kept (window f k x) y w q i p = let l = i.1 in let m = p.few in (omega arith, p.values)

-- ---- from bytes to cells

-- a record that passes
pub record Good (n : ℕ) (r : Raw) : Type 0 where
  pub eqn : (to_cell r).eqn ≡ eqn_in r
  pub back : (xs : List ℤ) → (is_window (group_of (num op_f r)) ≡ true → length xs ≡ num flag_f r) → of_cell (cell_in xs r) ≡ r
  pub sound : (xs : List ℤ) → IsPassed (eqn_in r) (num bound_f r) (cell_in xs r).passed → SoundCell n (cell_in xs r)
  pub own : Own (to_cell r)
  -- of a window: what it keeps is within its width, and nothing with bound 0
  pub fill : is_window (group_of (num op_f r)) ≡ true → num flag_f r ≤ width_limit
  pub within : is_window (group_of (num op_f r)) ≡ true → num flag_f r ≤ width (value_of (eqn_in r))
  pub fresh : is_window (group_of (num op_f r)) ≡ true → num bound_f r ≡ 0 → num flag_f r ≡ 0

-- what the cells of records say
pub record Backs (n m : ℕ) (l : List Raw) (b : List ℕ) (M : State) : Type 0 where
  pub rows : map of_cell M ≡ l
  pub area : enc_rows enc_window [] m (map words_of (windows_of M)) ≡ b
  pub sound : All (SoundCell n) M
  pub own : All Own M
  pub many : windows (plan_of M) ≡ windows_raw l

no_values : (l : List ℤ) → length l ≡ 0 → l ≡ []
no_values [] e = refl
no_values (x ∷ l) e = absurd (omega arith)

windows_none : windows [] ≡ 0
unfolding windows
windows_none = refl

windows_yes : (e : Eqn) (es : Plan) → is_window_eqn e ≡ true → windows (e ∷ es) ≡ suc (windows es)
unfolding windows
windows_yes e es q = rw q

windows_no : (e : Eqn) (es : Plan) → is_window_eqn e ≡ false → windows (e ∷ es) ≡ windows es
unfolding windows
windows_no e es q = rw q

enc_cons : (m : ℕ) (w : List ℕ) (ws : List (List ℕ)) → enc_rows enc_window [] (suc m) (w ∷ ws) ≡ enc_window w ++ enc_rows enc_window [] m ws
unfolding enc_rows
enc_cons m w ws = refl

module _ (n : ℕ) where
  other_backs : (m : ℕ) (r : Raw) (l : List Raw) (b : List ℕ) (M : State) → Good n r → is_window (group_of (num op_f r)) ≡ false → Backs n m l b M → Backs n m (r ∷ l) b (cell_in [] r ∷ M)
  other_backs m r l b M g e k =
      let q : is_window_eqn (to_cell r).eqn ≡ false = ap is_window_eqn g.eqn ∙ window_by_number _ _ _ (num op_f r) ∙ e in
      record {
        rows = ap₂ ◌∷◌ (g.back [] (λ t. absurd (true≢false (sym t ∙ e)))) k.rows;
        area = rw q k.area;
        sound = (g.sound [] (passed_other (eqn_in r) (num bound_f r) (cell_in [] r).passed (sym (ap is_window_eqn g.eqn) ∙ q) refl), k.sound);
        own = (g.own, k.own);
        many = windows_no (to_cell r).eqn (plan_of M) q ∙ rw e k.many;
      }

  window_backs : (m : ℕ) (r : Raw) (l : List Raw) (b : List ℕ) (M : State) → Good n r → is_window (group_of (num op_f r)) ≡ true → length b ≡ suc m * window_length → Bytes b
      → all_zero (drop (num flag_f r * 8) (take window_length b)) ≡ true → Backs n m l (drop window_length b) M
      → Backs n (suc m) (r ∷ l) b (cell_in (window_in (num flag_f r) (take window_length b)) r ∷ M)
  window_backs m r l b M g e len by z k =
      let s = take window_length b in
      let xs = window_in (num flag_f r) s in
      let sl : length s ≡ window_length = length-take-le window_length b (omega arith) in
      let sb : Bytes s = take_bytes window_length b by in
      let f = g.fill e in
      let wl = passed_length (num flag_f r) s sl sb f in
      let q : is_window_eqn (to_cell r).eqn ≡ true = ap is_window_eqn g.eqn ∙ window_by_number _ _ _ (num op_f r) ∙ e in
      let few : length xs ≤ width (value_of (eqn_in r)) = rw wl (g.within e) in
      record {
        rows = ap₂ ◌∷◌ (g.back xs (λ t. wl)) k.rows;
        area = rw q (enc_cons m (words_of xs) (map words_of (windows_of M)) ∙ ap₂ ◌++◌ (passed_bytes (num flag_f r) s sl sb f z) k.area ∙ take-append-drop window_length b);
        sound = (
          g.sound xs (passed_window (eqn_in r) (num bound_f r) (cell_in xs r).passed (sym (ap is_window_eqn g.eqn) ∙ q) few (passed_values (num flag_f r) s sl sb f) (λ y. no_values xs (wl ∙ g.fresh e y))),
          k.sound,
        );
        own = (g.own, k.own);
        many = windows_yes (to_cell r).eqn (plan_of M) q ∙ rw e (ap suc k.many);
      }

  pub cells_are : (m : ℕ) (l : List Raw) (b : List ℕ) → All (Good n) l → length b ≡ m * window_length → Bytes b → windows_raw l ≤ m → area_raw l b ≡ true → Backs n m l b (cells l b)
  cells_are m [] b g len by h z =
      rw (cells_none b) (record {
        rows = refl;
        area = none_windows m ∙ sym (zero_list b z ∙ ap (λ (j : ℕ). replicate {A = ℕ} j 0) len);
        sound = tt;
        own = tt;
        many = windows_none;
      })
  cells_are m (r ∷ l) b g len by h z = go (is_window (group_of (num op_f r))) refl m len h (λ m' b'. cells_are m' l b' g.1)
    where
      go : (x : Bool) → is_window (group_of (num op_f r)) ≡ x → (m : ℕ) → length b ≡ m * window_length → windows_raw (r ∷ l) ≤ m
          → ((m' : ℕ) (b' : List ℕ) → length b' ≡ m' * window_length → Bytes b' → windows_raw l ≤ m' → area_raw l b' ≡ true → Backs n m' l b' (cells l b')) → Backs n m (r ∷ l) b (cells (r ∷ l) b)
      go false e m len h ih = rw (cells_other r l b e) (other_backs m r l b (cells l b) g.0 e (ih m b len by (rw e at h) (rw e at z)))
      go true e zero len h ih = let k : suc (windows_raw l) ≤ 0 = rw e at h in absurd (omega arith)
      go true e (suc m) len h ih =
          let k : suc (windows_raw l) ≤ suc m = rw e at h in
          let y : (all_zero (drop (num flag_f r * 8) (take window_length b)) && area_raw l (drop window_length b)) ≡ true = rw e at z in
          let u : Bool = all_zero (drop (num flag_f r * 8) (take window_length b)) in
          let v : Bool = area_raw l (drop window_length b) in
          rw (cells_window r l b e)
          (window_backs m r l b (cells l (drop window_length b)) g.0 e len by (left u v y)
          (ih m (drop window_length b) (length-drop window_length b ∙ ap (λ (x : ℕ). x - window_length) len ∙ omega arith) (drop_bytes b window_length by) (omega arith) (right u v y)))

  -- ---- from cells to bytes

  group_is : (c : Cell) → is_window (group_of (num op_f (of_cell c))) ≡ is_window_eqn c.eqn
  unfolding of_cell
  group_is c = ap is_window (group_of_lem c.eqn)

  fill_is : (c : Cell) → is_window_eqn c.eqn ≡ true → num flag_f (of_cell c) ≡ length c.passed.window
  unfolding of_cell
  fill_is c q = go c.eqn q
    where
      go : (e : Eqn) → is_window_eqn e ≡ true → (Rattle.encoding.specs.View.kept_nums e c.kept c.passed).flag ≡ length c.passed.window
      go input h = absurd (true≢false (sym h))
      go nil h = absurd (true≢false (sym h))
      go unit h = absurd (true≢false (sym h))
      go (one f x) h = absurd (true≢false (sym h))
      go (two g x v) h = absurd (true≢false (sym h))
      go (last x v) h = absurd (true≢false (sym h))
      go (delay x v) h = absurd (true≢false (sym h))
      go (signal d x v) h = absurd (true≢false (sym h))
      go (window f k x) h = refl

  abbrev area_for : ℕ → State → List ℕ
  area_for m M = enc_rows enc_window [] m (map words_of (windows_of M))

  -- the cell that a sound cell's record and window give
  whole_back : (c : Cell) → SoundCell n c → (xs : List ℤ) → xs ≡ c.passed.window → cell_in xs (of_cell c) ≡ c
  whole_back c ok xs e = ap₂ with_passed (passed_back n c ok xs e) (cell_back n c ok)

  -- the cells that a sound state's records and windows give
  pub cells_back : (m : ℕ) (M : State) → All (SoundCell n) M → windows (plan_of M) ≤ m → cells (map of_cell M) (area_for m M) ≡ M
  unfolding windows
  cells_back m [] a h = cells_none (area_for m [])
  cells_back m (c ∷ M) a h = go (is_window_eqn c.eqn) refl m h (λ m' h'. cells_back m' M a.1 h')
    where
      go : (x : Bool) → is_window_eqn c.eqn ≡ x → (m : ℕ) → windows (plan_of (c ∷ M)) ≤ m → ((m' : ℕ) → windows (plan_of M) ≤ m' → cells (map of_cell M) (area_for m' M) ≡ M)
          → cells (map of_cell (c ∷ M)) (area_for m (c ∷ M)) ≡ c ∷ M
      go false e m h ih =
          let p : c.passed.window ≡ [] = passed_none c.eqn c.bound c.passed e a.0.passed in
          rw e (cells_other (of_cell c) (map of_cell M) (area_for m M) (group_is c ∙ e)
          ∙ ap₂ ◌∷◌ (whole_back c a.0 [] (sym p)) (ih m (rw e at h)))
      go true e zero h ih = let k : suc (windows (plan_of M)) ≤ 0 = rw e at h in absurd (omega arith)
      go true e (suc m) h ih =
          let k : suc (windows (plan_of M)) ≤ suc m = rw e at h in
          let v = c.passed.window in
          let t = window_kept c.eqn c.bound c.passed e a.0.width a.0.passed in
          let b = area_for m M in
          rw e (ap (cells (map of_cell (c ∷ M))) (enc_cons m (words_of v) (map words_of (windows_of M)))
          ∙ cells_window (of_cell c) (map of_cell M) (enc_window (words_of v) ++ b) (group_is c ∙ e)
          ∙ ap₂ ◌∷◌
          (whole_back c a.0 _
          (ap₂ window_in (fill_is c e) (take_at (enc_window (words_of v)) b window_length (window_len (words_of v))) ∙ window_back v t.1 t.0))
          (ap (cells (map of_cell M)) (drop_at (enc_window (words_of v)) b window_length (window_len (words_of v))) ∙ ih m (omega arith)))

  -- they pass
  pub windows_pass : (M : State) → windows_raw (map of_cell M) ≡ windows (plan_of M)
  unfolding windows
  windows_pass [] = refl
  windows_pass (c ∷ M) = rw (group_is c, windows_pass M)

  pub area_passes : (m : ℕ) (M : State) → All (SoundCell n) M → windows (plan_of M) ≤ m → area_raw (map of_cell M) (area_for m M) ≡ true
  unfolding windows
  area_passes m [] a h = ap all_zero (none_windows m) ∙ zeros_zero (m * window_length)
  area_passes m (c ∷ M) a h = go (is_window_eqn c.eqn) refl m h (λ m' h'. area_passes m' M a.1 h')
    where
      go : (x : Bool) → is_window_eqn c.eqn ≡ x → (m : ℕ) → windows (plan_of (c ∷ M)) ≤ m → ((m' : ℕ) → windows (plan_of M) ≤ m' → area_raw (map of_cell M) (area_for m' M) ≡ true)
          → area_raw (map of_cell (c ∷ M)) (area_for m (c ∷ M)) ≡ true
      go false e m h ih = rw (group_is c, e) (ih m (rw e at h))
      go true e zero h ih = let k : suc (windows (plan_of M)) ≤ 0 = rw e at h in absurd (omega arith)
      go true e (suc m) h ih =
          let k : suc (windows (plan_of M)) ≤ suc m = rw e at h in
          let v = c.passed.window in
          let b = area_for m M in
          let t = window_kept c.eqn c.bound c.passed e a.0.width a.0.passed in
          let l : length (words_of v) ≡ length v = length-map v (of_z w64) in
          let z : all_zero (drop (num flag_f (of_cell c) * 8) (enc_window (words_of v))) ≡ true = ap (λ (j : ℕ). all_zero (drop (j * 8) (enc_window (words_of v)))) (fill_is c e ∙ sym l) ∙ window_passes (words_of v) (rw l t.0) in
          rw (group_is c, e, enc_cons m (words_of v) (map words_of (windows_of M)), take_at (enc_window (words_of v)) b window_length (window_len (words_of v)), drop_at (enc_window (words_of v)) b window_length (window_len (words_of v)), z) (ih m (omega arith))
