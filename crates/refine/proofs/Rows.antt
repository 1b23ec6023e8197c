-- What each raw step makes of a cell's record is the record of what the machine makes of the cell.
use Prim.Native.Nat.{ℕ, ◌+◌, min}
use mathlib.Core.Path.{◌≡◌, refl, sym, ap, ◌∙◌}
use mathlib.Core.List.{List, map}
use mathlib.Core.Bool.{Bool, true, false, cond}
use lib.Dec.{leb, ltb, eqb}
use lib.IntN.{ℤ}
use mir.Syntax.{w64}
use mir.Val.{of_z}
use Rattle.meaning.specs.Plan.{Eqn, input, nil, unit, one, two, last, delay, signal, window}
use Rattle.meaning.specs.Arguments.{Argument}
use Rattle.meaning.specs.Events.{Event}
use Rattle.machine.specs.State.{Kept, Passed, Cell}
use Rattle.machine.specs.Step.{any_of, reads_it, value_told, prior_told, since_told, kept_told, told}
use Rattle.operators.specs.Operators.{group_of, number_of}
use Rattle.operators.proofs.Laws.{one_group, two_group, signal_group, window_group, arguments_of_lem}
use Rattle.layout.specs.Record.{Raw}
use Rattle.encoding.specs.View.{kept_nums, flag, counts_word, raw_of, of_cell}
use Rattle.readers.specs.Step.{reads_row, told_last, told_at, told_value, told_prior, told_since, told_delay, told_row, lowered, waiting_row}

pub cond_same : {A : Type 0} (b : Bool) (x : A) → cond b x x ≡ x
cond_same true x = refl
cond_same false x = refl

-- ---- who reads

pub reads_of : (s : ℕ) (c : Cell) → reads_row s (of_cell c) ≡ reads_it s c.eqn
unfolding reads_row of_cell
reads_of s c = ap (λ l. any_of s (map (λ (x : Argument). x.stream) l)) (arguments_of_lem c.eqn)

pub lower_of : (s acc : ℕ) (c : Cell) → lowered s (of_cell c) acc ≡ cond (reads_it s c.eqn) (min c.bound acc) acc
unfolding lowered of_cell
lower_of s acc c = ap (λ (b : Bool). cond b (min c.bound acc) acc) (reads_of s c)

pub waiting_of : (least : ℕ) (c : Cell) → waiting_row least (of_cell c) ≡ cond c.out (min c.next least) least
unfolding waiting_row of_cell
waiting_of least c = go c.out
  where
    go : (o : Bool) → cond (eqb (flag o) 0) least (min c.next least) ≡ cond o (min c.next least) least
    go true = refl
    go false = refl

-- ---- telling

-- l: the bound is above the stamp; p, q: s is a, b; u: the bound is one past the stamp; w: the latest set point lies
-- there; z: the stamp lies above it
module _ (s t : ℕ) (v : ℤ) (a b : ℕ) (o : Bool) (y : ℕ) (h : List Event) (m z : ℕ) (k : Kept) (w : Passed) where
  abbrev last_with : Kept → Raw
  last_with x = raw_of (last a b) o y h m (kept_nums (last a b) x w) z

  last_told : (l p : Bool) → ltb t y ≡ l → eqb a s ≡ p
      → told_row s t (of_z w64 v) (last_with k) ≡ last_with (cond (ltb t y) (kept_told (last a b) s y t v k) k)
  unfolding told_row told_last group_of number_of
  last_told false p e f = rw e
  last_told true true e f = rw (e, f)
  last_told true false e f = rw (e, f)

module _ (s t a b : ℕ) (o : Bool) (y : ℕ) (h : List Event) (m z : ℕ) (n : Passed) where
  abbrev delay_with : Kept → Raw
  delay_with x = raw_of (delay a b) o y h m (kept_nums (delay a b) x n) z

  value_told_lem : (v : ℤ) (k : Kept) (p w : Bool) → eqb a s ≡ p → eqb k.since (t + 1) ≡ w → told_value s t (of_z w64 v) (delay_with k) ≡ delay_with (value_told (eqb a s) t v k)
  unfolding told_at number_of
  value_told_lem v k false w e f = rw e
  value_told_lem v k true true e f = rw (e, f)
  value_told_lem v k true false e f = rw (e, f)

  prior_told_lem : (v : ℤ) (k : Kept) (p u : Bool) → eqb a s ≡ p → eqb y (t + 1) ≡ u → told_prior s t (of_z w64 v) (delay_with k) ≡ delay_with (prior_told (eqb a s) y t v k)
  unfolding told_at number_of
  prior_told_lem v k false u e f = rw e
  prior_told_lem v k true true e f = rw (e, f)
  prior_told_lem v k true false e f = rw (e, f)

  since_told_lem : (k : Kept) (q z u : Bool) → eqb b s ≡ q → leb k.since t ≡ z → eqb y (t + 1) ≡ u → told_since s t (delay_with k) ≡ delay_with (since_told (eqb b s) y t k)
  unfolding told_since number_of
  since_told_lem k false z u e f g = rw e
  since_told_lem k true false u e f g = rw (e, f)
  since_told_lem k true true true e f g = rw (e, f, g)
  since_told_lem k true true false e f g = rw (e, f, g)

  delay_three : (v : ℤ) (k : Kept) → told_delay s t (of_z w64 v) (delay_with k) ≡ delay_with (kept_told (delay a b) s y t v k)
  unfolding told_delay
  delay_three v k =
      let k₁ = value_told (eqb a s) t v k in
      let k₂ = prior_told (eqb a s) y t v k₁ in
      ap (λ (r : Raw). told_since s t (told_prior s t (of_z w64 v) r)) (value_told_lem v k (eqb a s) (eqb k.since (t + 1)) refl refl)
      ∙ ap (told_since s t) (prior_told_lem v k₁ (eqb a s) (eqb y (t + 1)) refl refl)
      ∙ since_told_lem k₂ (eqb b s) (leb k.since t) (eqb y (t + 1)) refl refl refl

  delay_told : (v : ℤ) (k : Kept) (l : Bool) → ltb t y ≡ l → told_row s t (of_z w64 v) (delay_with k) ≡ delay_with (cond (ltb t y) (kept_told (delay a b) s y t v k) k)
  unfolding told_row group_of number_of
  delay_told v k true e = rw e (delay_three v k)
  delay_told v k false e = rw e

told_raw : (s t : ℕ) (v : ℤ) (e : Eqn) (o : Bool) (y : ℕ) (h : List Event) (m z : ℕ) (k : Kept) (w : Passed)
    → told_row s t (of_z w64 v) (raw_of e o y h m (kept_nums e k w) z) ≡ raw_of e o y h m (kept_nums e (cond (ltb t y) (kept_told e s y t v k) k) w) z
unfolding told_row group_of number_of
told_raw s t v input o y h m z k w = cond_same (ltb t y) (raw_of input o y h m (kept_nums input k w) z)
told_raw s t v nil o y h m z k w = cond_same (ltb t y) (raw_of nil o y h m (kept_nums nil k w) z)
told_raw s t v unit o y h m z k w = cond_same (ltb t y) (raw_of unit o y h m (kept_nums unit k w) z)
told_raw s t v (one f a) o y h m z k w = rw (one_group f) (cond_same (ltb t y) (raw_of (one f a) o y h m (kept_nums (one f a) k w) z))
told_raw s t v (two g a b) o y h m z k w = rw (two_group g) (cond_same (ltb t y) (raw_of (two g a b) o y h m (kept_nums (two g a b) k w) z))
told_raw s t v (last a b) o y h m z k w = last_told s t v a b o y h m z k w (ltb t y) (eqb a s) refl refl
told_raw s t v (delay a b) o y h m z k w =
    delay_told s t a b o y h m z w v k (ltb t y) refl
told_raw s t v (signal c a b) o y h m z k w =
    let raw : Kept → Raw = λ x. raw_of (signal c a b) o y h m (kept_nums (signal c a b) x w) z in
    rw (signal_group c) (cond_same (ltb t y) (raw k) ∙ ap raw (sym (cond_same (ltb t y) k)))
told_raw s t v (window f n a) o y h m z k w = rw (window_group f) (cond_same (ltb t y) (raw_of (window f n a) o y h m (kept_nums (window f n a) k w) z))

pub told_of : (s t : ℕ) (v : ℤ) (c : Cell) → told_row s t (of_z w64 v) (of_cell c) ≡ of_cell (told s t v c)
unfolding of_cell told
told_of s t v c = told_raw s t v c.eqn c.out c.bound c.held c.next (counts_word c.passed) c.kept c.passed
