-- A window over the held events of its argument, by rising stamp: those from its bound on come in one after the other, and the
-- first at which it gives a value is what a move finds.
use mathlib.Core.Path.{◌≡◌, refl, sym, ◌∙◌, ap}
use mathlib.Core.Logic.{inl}
use mathlib.Core.Bool.{true, false}
use Rattle.std.specs.Prelude.{Option, None, Some}
use mathlib.Core.List.{List, [], ◌∷◌, ◌++◌, append_assoc}
use Prim.Native.Nat.{ℕ, suc, ◌≤◌, ◌<◌, ◌-◌, max}
use native.Mathlib.Omega.{arith}
use native.Mathlib.Decide.{dec_lt}
use lib.Dec.{ltb, ltb→lt, nltb→le}
use lib.IntN.{ℤ}
use Rattle.meaning.specs.Plan.{Fold, window}
use Rattle.meaning.specs.Events.{Event, found, events}
use Rattle.meaning.specs.Table.{value_of, folded, latest_of, values, width, window_at_lem}
use Rattle.meaning.proofs.Tests.{Is, yes!, no!, look, eqb_self}
use Rattle.meaning.proofs.Causal.{events_cong}
use Rattle.machine.specs.State.{Cell}
use Rattle.machine.specs.Reach.{from, slid, gives, reach, silent, decide}
use Rattle.machine.specs.Step.{drop_below}
use Rattle.machine.specs.Windows.{take_below, fits_at, first_fit}
use Rattle.machine.proofs.Search.{least_is}
use Rattle.machine.proofs.Rising.{Rising, events_flat, events_under, events_first, found_low, found_rest, found_drop, rising_dropped}
use Rattle.machine.proofs.Lasts.{from_yes, from_no}
use Rattle.machine.proofs.Moves.{decide_event, decide_silent}

-- ---- what comes in

take_yes : (x : ℕ) (e : Event) (es : List Event) → ltb e.stamp x ≡ true → take_below x (e ∷ es) ≡ e ∷ take_below x es
unfolding take_below
take_yes x e es q = rw (take_below, q)

take_no : (x : ℕ) (e : Event) (es : List Event) → ltb e.stamp x ≡ false → take_below x (e ∷ es) ≡ []
unfolding take_below
take_no x e es q = rw (take_below, q)

-- rising events below x
pub events_taken : (lo hi : ℕ) (es : List Event) → Rising lo hi es → (x : ℕ) → events (found es) x ≡ take_below x es
unfolding take_below
events_taken lo hi [] r x = events_flat (found []) 0 x (omega arith) (λ p a b. refl)
events_taken lo hi (e ∷ es) r x = go (look (ltb e.stamp x)) (events_taken (suc e.stamp) hi es r.2 x)
  where
    go : Is (ltb e.stamp x) → events (found es) x ≡ take_below x es → events (found (e ∷ es)) x ≡ take_below x (e ∷ es)
    go (yes! q k) ih = rw (take_yes x e es q) (events_first lo hi e es r x (ltb→lt e.stamp x k) ∙ ap (◌∷◌ e) ih)
    go (no! q k) ih = rw (take_no x e es q) (events_under e.stamp hi (e ∷ es) (omega arith, r.1, r.2) x (nltb→le e.stamp x k))

-- from y on: those that are left when the ones below y are dropped
pub from_dropped : (y lo hi : ℕ) (es : List Event) → Rising lo hi es → (x : ℕ) → events (from y (found es)) x ≡ events (found (drop_below y es)) x
from_dropped y lo hi es r x = events_cong (from y (found es)) (found (drop_below y es)) x (λ p l. go p (dec_lt p y))
  where
    go : (p : ℕ) → Dec (p < y) → from y (found es) p ≡ found (drop_below y es) p
    go p (yes k) = from_no y (found es) p k ∙ sym (found_low y hi (drop_below y es) (rising_dropped y lo hi es r) p k)
    go p (no k) = from_yes y (found es) p (omega arith) ∙ sym (found_drop y es p (omega arith))

pub window_slides : (k y x : ℕ) (w : List ℤ) (lo hi : ℕ) (es : List Event) → Rising lo hi es → slid k y x w (found es) ≡ latest_of k (w ++ values (take_below x (drop_below y es)))
window_slides k y x w lo hi es r = rw (from_dropped y lo hi es r x, events_taken y hi (drop_below y es) (rising_dropped y lo hi es r) x)

-- ---- what a move finds

module _ (f : Fold) (k hi : ℕ) (w : List ℤ) where
  fit_none : first_fit f k hi w [] ≡ silent hi
  unfolding first_fit
  fit_none = refl

  module _ (e : Event) (es : List Event) where
    fit_yes : ltb e.stamp hi ≡ true
        → first_fit f k hi w (e ∷ es) ≡ fits_at e.stamp (value_of (folded f (latest_of k (w ++ e.value ∷ [])))) (first_fit f k hi (w ++ e.value ∷ []) es)
    unfolding first_fit
    fit_yes q = rw (first_fit, q)

    fit_no : ltb e.stamp hi ≡ false → first_fit f k hi w (e ∷ es) ≡ silent hi
    unfolding first_fit
    fit_no q = rw (first_fit, q)

module _ (f : Fold) (k : ℤ) (x : ℕ) (o a b : Cell) where
  abbrev has_at : ℕ → Option ℤ
  has_at t = gives (window f k x) o a b t

  abbrev far : ℕ
  far = reach (window f k x) o a b

  far_is : far ≡ max o.bound a.bound
  unfolding reach
  far_is = least_is (λ t. false) o.bound (a.bound - o.bound) (max o.bound a.bound) (omega arith) (omega arith) (λ t i j. tt) (inl (omega arith))

  -- no event of the argument, no event
  at_none : {v : Option ℤ} (ws : List ℤ) → v ≡ None → window_at_lem f v ws ≡ None
  unfolding window_at_lem
  at_none ws q = rw q

  at_some : {v : Option ℤ} {ws : List ℤ} (u : ℤ) (vs : List ℤ) → v ≡ Some u → ws ≡ vs → window_at_lem f v ws ≡ value_of (folded f vs)
  unfolding window_at_lem
  at_some u vs q r = rw (q, r)

  -- from lo on the window looks at these events, and w came before them
  abbrev Sees : ℕ → List ℤ → List Event → Type 0
  Sees lo w es = (p : ℕ) → lo ≤ p → has_at p ≡ window_at_lem f (found es p) (latest_of (width k) (w ++ values (events (found es) (suc p))))

  -- nothing from the bound on and below lo
  abbrev Quiet : ℕ → Type 0
  Quiet lo = (p : ℕ) → o.bound ≤ p → p < lo → has_at p ≡ None

  module _ (lo hi : ℕ) (w : List ℤ) (e : Event) (es : List Event) (r : Rising lo hi (e ∷ es)) (sees : Sees lo w (e ∷ es)) where
    abbrev t : ℕ
    t = e.stamp

    abbrev now : List ℤ
    now = w ++ e.value ∷ []

    -- up to the first event there is nothing more
    before : Quiet lo → Quiet t
    before q p l m = go (dec_lt p lo)
      where
        go : Dec (p < lo) → has_at p ≡ None
        go (yes d) = q p l d
        go (no d) = sees p (omega arith) ∙ at_none (latest_of (width k) (w ++ values (events (found (e ∷ es)) (suc p)))) (found_low t hi (e ∷ es) (omega arith, r.1, r.2) p m)

    at_first : has_at t ≡ value_of (folded f (latest_of (width k) now))
    at_first =
        sees t r.0
        ∙ at_some e.value (latest_of (width k) now) (rw (eqb_self t))
        (ap (λ l. latest_of (width k) (w ++ values l)) (events_first lo hi e es r (suc t) (omega arith) ∙ ap (◌∷◌ e) (events_under (suc t) hi es r.2 (suc t) (omega arith))))

    sees_rest : Sees (suc t) now es
    sees_rest p l =
        let q = r.0 in
        sees p (omega arith)
        ∙ rw (events_first lo hi e es r (suc p) (omega arith), found_rest e es p (λ j. omega arith), append_assoc w (e.value ∷ []) (values (events (found es) (suc p))))

  finds : (lo hi : ℕ) (w : List ℤ) (es : List Event) → o.bound ≤ lo → Rising lo hi es → Quiet lo → Sees lo w es → decide (window f k x) o a b ≡ first_fit f (width k) far w es
  finds lo hi w [] l r q sees = decide_silent (window f k x) o a b (λ p i j. go p i (dec_lt p lo)) ∙ sym (fit_none f (width k) far w)
    where
      go : (p : ℕ) → o.bound ≤ p → Dec (p < lo) → has_at p ≡ None
      go p i (yes d) = q p i d
      go p i (no d) = sees p (omega arith) ∙ at_none (latest_of (width k) (w ++ values (events (found []) (suc p)))) refl
  finds lo hi w (e ∷ es) l r q sees =
      go (look (ltb e.stamp far)) (λ n. finds (suc e.stamp) hi (w ++ e.value ∷ []) es (let j = r.0 in omega arith) r.2 n (sees_rest lo hi w e es r sees))
    where
      t : ℕ
      t = e.stamp

      now : List ℤ
      now = w ++ e.value ∷ []

      -- the rest of the events, after one that gave no value
      Rest : Type 0
      Rest = Quiet (suc t) → decide (window f k x) o a b ≡ first_fit f (width k) far now es

      past : has_at t ≡ None → Quiet (suc t)
      past n p i m = either (dec_lt p t)
        where
          either : Dec (p < t) → has_at p ≡ None
          either (yes d) = before lo hi w e es r sees q p i d
          either (no d) = let j : p ≡ t = omega arith in rw j n

      shown : t < far → (v : Option ℤ) → has_at t ≡ v → Rest → decide (window f k x) o a b ≡ fits_at t v (first_fit f (width k) far now es)
      shown m None n ih = ih (past n)
      shown m (Some v) n ih = decide_event (window f k x) o a b t v (let j = r.0 in omega arith) m (before lo hi w e es r sees q) n

      go : Is (ltb t far) → Rest → decide (window f k x) o a b ≡ first_fit f (width k) far w (e ∷ es)
      go (yes! j c) ih = rw (fit_yes f (width k) far w e es j) (shown (ltb→lt t far c) (value_of (folded f (latest_of (width k) now))) (at_first lo hi w e es r sees) ih)
      go (no! j c) ih =
          let m = nltb→le t far c in
          rw (fit_no f (width k) far w e es j) (decide_silent (window f k x) o a b (λ p i n. before lo hi w e es r sees q p i (omega arith)))

  pub window_finds : (lo hi : ℕ) → Rising lo hi a.held → decide (window f k x) o a b ≡ first_fit f (width k) (max o.bound a.bound) o.passed.window (drop_below o.bound a.held)
  window_finds lo hi r =
      rw (sym far_is)
      (finds o.bound hi o.passed.window (drop_below o.bound a.held) (omega arith) (rising_dropped o.bound lo hi a.held r) (λ p i j. absurd (omega arith))
      (λ p i. rw (from_dropped o.bound lo hi a.held r (suc p), ← found_drop o.bound a.held p i)))
