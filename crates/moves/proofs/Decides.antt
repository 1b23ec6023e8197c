-- What a stream finds, and whether it can move.
use Prim.Native.Nat.{ℕ, suc, ◌≤◌, ◌<◌, min, max}
use mathlib.Core.Path.{◌≡◌, refl, sym, ap, ◌∙◌}
use mathlib.Core.Bool.{Bool, true, false, not, cond, ◌&&◌, true≢false}
use mathlib.Core.List.{List, [], ◌∷◌, map}
use native.Mathlib.Omega.{arith}
use lib.Dec.{ltb}
use lib.IntN.{ℤ}
use mir.Syntax.{w64}
use mir.Val.{to_z}
use borrow.Author.Tests.{eq-eqb, ne_eqb}
use Rattle.meaning.specs.Plan.{Fold, Eqn, input, nil, unit, one, two, last, delay, signal, window, is_input}
use Rattle.meaning.specs.Events.{Event, horizon}
use Rattle.machine.specs.State.{Kept, Cell, no_kept}
use Rattle.machine.specs.Reach.{Next, silent, limit, decide}
use Rattle.machine.specs.Step.{drop_below}
use Rattle.machine.specs.Windows.{first_fit}
use Rattle.meaning.specs.Arguments.{arg_a, arg_b}
use Rattle.operators.specs.Operators.{value_of}
use Rattle.operators.specs.Windows.{is_window_eqn}
use Rattle.layout.specs.Record.{Raws, num, row_at, count_f, bound_f}
use Rattle.streams.specs.declared.Op.{Op}
use Rattle.streams.specs.Look.{equation, plain, own_cell}
use Rattle.streams.proofs.Laws.{look_bound}
use Rattle.decide.proofs.Searches.{decide_stays}
use Rattle.sliding.specs.Slide.{width_in, words_in, fit_row}
use Rattle.passing.specs.Pass.{arg_in, own_in, other_in, fold_of}
use Rattle.making.specs.Make.{bound_raw}
use Rattle.moves.specs.Move.{limit_raw, found_raw, ahead_raw, can_raw}
use Rattle.passing.proofs.Arms.{Other, no_window, plain_is}

and_false : (p : Bool) → (p && false) ≡ false
and_false true = refl
and_false false = refl

-- of the stream's own cell a decision looks only at this, but for a window; a limit only at its bound
decide_own : (e : Eqn) (o a b : Cell) → is_window_eqn e ≡ false → decide e (own_cell o.eqn o.bound o.kept) a b ≡ decide e o a b
unfolding decide
decide_own input o a b q = refl
decide_own nil o a b q = refl
decide_own unit o a b q = refl
decide_own (one f _) o a b q = refl
decide_own (two g _ _) o a b q = refl
decide_own (last _ _) o a b q = refl
decide_own (delay _ _) o a b q = refl
decide_own (signal c _ _) o a b q = refl
decide_own (window f k _) o a b q = absurd (true≢false q)

-- a window is found by its bound alone
found_own : (n i : ℕ) (e : Eqn) (o : Cell) (st : Raws) → found_raw n i e (own_cell o.eqn o.bound o.kept) st ≡ found_raw n i e o st
found_own n i e o st = go (is_window_eqn e) refl
  where
    go : (b : Bool) → is_window_eqn e ≡ b → found_raw n i e (own_cell o.eqn o.bound o.kept) st ≡ found_raw n i e o st
    go true q = rw q
    go false q = rw q (decide_own e o (other_in n (arg_a e) st) (other_in n (arg_b e) st) q)

limit_window : (e : Eqn) (o a b : Cell) → is_window_eqn e ≡ true → limit e o a b ≡ a.bound
limit_window input o a b q = absurd (true≢false (sym q))
limit_window nil o a b q = absurd (true≢false (sym q))
limit_window unit o a b q = absurd (true≢false (sym q))
limit_window (one f _) o a b q = absurd (true≢false (sym q))
limit_window (two g _ _) o a b q = absurd (true≢false (sym q))
limit_window (last _ _) o a b q = absurd (true≢false (sym q))
limit_window (delay _ _) o a b q = absurd (true≢false (sym q))
limit_window (signal c _ _) o a b q = absurd (true≢false (sym q))
limit_window (window f k _) o a b q = refl

-- no event from y on lies below y
fit_low : (f : Fold) (k y : ℕ) (w : List ℤ) (es : List Event) → first_fit f k y w (drop_below y es) ≡ silent y
unfolding first_fit drop_below
fit_low f k y w [] = refl
fit_low f k y w (e ∷ es) = go (ltb e.stamp y) refl (fit_low f k y w es)
  where
    go : (b : Bool) → ltb e.stamp y ≡ b → first_fit f k y w (drop_below y es) ≡ silent y → first_fit f k y w (cond b (drop_below y es) (e ∷ es)) ≡ silent y
    go true q ih = ih
    go false q ih = rw q

limit_own : (e : Eqn) (o a b : Cell) (k : Kept) → limit e (own_cell e o.bound k) a b ≡ limit e o a b
limit_own input o a b k = refl
limit_own nil o a b k = refl
limit_own unit o a b k = refl
limit_own (one f _) o a b k = refl
limit_own (two g _ _) o a b k = refl
limit_own (last _ _) o a b k = refl
limit_own (delay _ _) o a b k = refl
limit_own (signal c _ _) o a b k = refl
limit_own (window f n _) o a b k = refl

-- an operator that is no window
pub found_other : (n i : ℕ) (o : Op) (c : Cell) (st : Raws) → Other o → decide (plain o) c (other_in n (arg_a (equation o)) st) (other_in n (arg_b (equation o)) st) ≡ found_raw n i (equation o) c st
found_other n i o c st h =
    ap (λ (e : Eqn). decide e c (other_in n (arg_a (equation o)) st) (other_in n (arg_b (equation o)) st)) (plain_is o h) ∙ sym (rw (no_window o h))

-- ---- an argument that is not ahead: its bound x and the stream's bound y as they are stored

pub other_low : (n a : ℕ) (st : Raws) (x : ℕ) → x ≡ num bound_f (row_at st (arg_in n a)) → (other_in n a st).bound ≤ min x horizon
other_low n a st x q = let h = look_bound (row_at st (arg_in n a)) in omega arith

pub low_first : (a b x y : ℕ) → a ≤ min x horizon → x ≤ y → min a b ≤ min y horizon
low_first a b x y h k = omega arith

pub low_second : (a b x y : ℕ) → b ≤ min x horizon → x ≤ y → min a b ≤ min y horizon
low_second a b x y h k = omega arith

pub low_reset : (b x y : ℕ) → b ≤ min x horizon → x < y → min (suc b) horizon ≤ min y horizon
low_reset b x y h k = omega arith

pub low : (a x y : ℕ) → a ≤ min x horizon → x ≤ y → a ≤ min y horizon
low a x y h k = omega arith

-- none to wait for, and known to the end
pub low_end : (y : ℕ) → y ≡ horizon → horizon ≤ min y horizon
low_end y q = omega arith

-- ---- the decision

module _ (n i : ℕ) (st : Raws) where
  pub can_stays : bound_raw (ahead_raw n i st) (num count_f (row_at st i)) ≡ (own_in i st).bound → can_raw n i st ≡ false
  unfolding can_raw
  can_stays e = rw (eq-eqb (bound_raw (ahead_raw n i st) (num count_f (row_at st i))) (own_in i st).bound e) (and_false (not (is_input (own_in i st).eqn)))

  -- where the limit is not above the bound, nothing is found
  silent_here : (w : Bool) → is_window_eqn (own_in i st).eqn ≡ w → limit (own_in i st).eqn (own_in i st) (other_in n (arg_a (own_in i st).eqn) st) (other_in n (arg_b (own_in i st).eqn) st) ≤ (own_in i st).bound
      → ahead_raw n i st ≡ silent (own_in i st).bound
  unfolding ahead_raw fit_row
  silent_here true q m =
      let o = own_in i st in
      let a = other_in n (arg_a o.eqn) st in
      let b = other_in n (arg_b o.eqn) st in
      let l = limit_window o.eqn o a b q in
      let k = width_in (value_of o.eqn) in
      let top : max o.bound a.bound ≡ o.bound = omega arith in
      rw q (ap (λ (hi : ℕ). fit_row (fold_of o.eqn) k i o.bound hi a.held st) top ∙ fit_low (fold_of o.eqn) k o.bound (map (to_z w64) (words_in k i st)) a.held)
  silent_here false q m =
      let o = own_in i st in
      rw q (decide_stays o (other_in n (arg_a o.eqn) st) (other_in n (arg_b o.eqn) st) o.eqn m)

  -- e and y are the equation and the bound as they were read
  module _ (e : Eqn) (y : ℕ) (is : e ≡ (own_in i st).eqn) (at : y ≡ (own_in i st).bound) where
    stays : limit_raw n e y st ≤ y → bound_raw (ahead_raw n i st) (num count_f (row_at st i)) ≡ (own_in i st).bound
    stays h =
        let o = own_in i st in
        let a = other_in n (arg_a o.eqn) st in
        let b = other_in n (arg_b o.eqn) st in
        let l : limit_raw n e y st ≡ limit o.eqn o a b = (λ z. limit_raw n (is z) (at z) st) ∙ limit_own o.eqn o a b no_kept in
        ap (λ (x : Next). bound_raw x (num count_f (row_at st i))) (silent_here (is_window_eqn o.eqn) refl (omega arith))

    -- the bounds alone say that it stays
    pub can_stuck : limit_raw n e y st ≤ y → can_raw n i st ≡ false
    can_stuck h = can_stays (stays h)

    -- what is found from the stream as it was read
    pub ahead_is : (k : Kept) → k ≡ (own_in i st).kept → found_raw n i e (own_cell e y k) st ≡ ahead_raw n i st
    unfolding ahead_raw
    ahead_is k q =
        let o = own_in i st in
        (λ z. found_raw n i (is z) (own_cell (is z) (at z) (q z)) st) ∙ found_own n i o.eqn o st

  -- an input stays
  not_input : (e : Eqn) → e ≡ (own_in i st).eqn → (bound_raw (ahead_raw n i st) (num count_f (row_at st i)) ≡ (own_in i st).bound → ⊥) → is_input e ≡ false
  not_input input q h = absurd (h (stays input (own_in i st).bound q refl (omega arith)))
  not_input nil q h = refl
  not_input unit q h = refl
  not_input (one f _) q h = refl
  not_input (two g _ _) q h = refl
  not_input (last _ _) q h = refl
  not_input (delay _ _) q h = refl
  not_input (signal c _ _) q h = refl
  not_input (window f k _) q h = refl

  pub can_moves : (bound_raw (ahead_raw n i st) (num count_f (row_at st i)) ≡ (own_in i st).bound → ⊥) → can_raw n i st ≡ true
  unfolding can_raw
  can_moves e = rw (not_input (own_in i st).eqn refl e, ne_eqb (bound_raw (ahead_raw n i st) (num count_f (row_at st i))) (own_in i st).bound e)
