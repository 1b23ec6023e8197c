-- Counting over held events, by rising stamp, is counting over all stamps: where no event is held there is nothing to work on. And
-- at the stamp of an event that a move finds nothing is missing.
use mathlib.Core.Path.{◌≡◌, refl, sym, ◌∙◌, ap, ap₂}
use mathlib.Core.Bool.{Bool, true, false, not, cond, ◌&&◌}
use Rattle.std.specs.Prelude.{Option, None, Some, Ok, Err}
use mathlib.Core.List.{List, [], ◌∷◌, ◌++◌, append_assoc}
use Prim.Native.Nat.{ℕ, zero, suc, ◌+◌, ◌≤◌, min}
use native.Mathlib.Omega.{arith}
use lib.Dec.{leb, ltb, leb→le, nleb→lt}
use lib.ListN.{length}
use lib.IntN.{ℤ}
use Rattle.num.specs.Arithmetic.{fit, least_value, past_values}
use lib.Signed.{le_z, lt_z}
use Rattle.meaning.specs.Plan.{Unary, time, neg, set, plus, Calc, Fold, wsum, wmin, wmax, Eqn, input, nil, unit, one, two, calc, keep, merge, Binary, last, delay, signal, window}
use Rattle.meaning.specs.Events.{Event, Stream, here, found, events, has}
use Rattle.meaning.specs.Table.{two_at, value_of, folded, total, latest_of, values, width}
use Rattle.meaning.specs.Missing.{one_says, calc_says, two_says, signal_says, window_says, Reason, Outside, ZeroDivisor, lacks, said_for, tally, count_limit}
use Rattle.meaning.proofs.Tests.{Is, yes!, no!, look, eqb_self}
use Rattle.meaning.proofs.Missing.{one_row, two_row, signal_row_lem, window_row_lem, valued_lacks, shown_lacks, window_lacks, tally_zero}
use Rattle.meaning.proofs.Options.{none_some}
use Rattle.machine.specs.State.{Cell, room}
use Rattle.machine.specs.Reach.{view, from, slid, held_latest, gives, reach, first, Next, event, silent, next_of, decide}
use Rattle.machine.specs.Step.{hears, counted, drop_below, new_bound}
use Rattle.machine.specs.Windows.{take_below}
use Rattle.machine.specs.Counting.{tally_of, sum_tally, passing, tallied, end_of}
use Rattle.machine.proofs.Rising.{Rising, found_rest, found_drop, rising_dropped, events_first, events_under}
use Rattle.machine.proofs.Lasts.{from_yes, from_no}
use Rattle.machine.proofs.Windows.{events_taken, from_dropped}

-- ---- stamps and events

tally_append : (f : ℕ → Bool) (xs ys : List Event) → tally_of f (xs ++ ys) ≡ tally_of f xs + tally_of f ys
unfolding tally_of
tally_append f [] ys = omega arith
tally_append f (e ∷ xs) ys = go (f e.stamp) (tally_append f xs ys)
  where
    go : (b : Bool) → tally_of f (xs ++ ys) ≡ tally_of f xs + tally_of f ys
        → cond b (suc (tally_of f (xs ++ ys))) (tally_of f (xs ++ ys)) ≡ cond b (suc (tally_of f xs)) (tally_of f xs) + tally_of f ys
    go true ih = omega arith
    go false ih = ih

-- a test that is passed only where the stream has an event, and there tells the same as g
tally_events : (f g : ℕ → Bool) (h : Stream) → ((t : ℕ) → h t ≡ None → f t ≡ false) → ((t : ℕ) (v : ℤ) → h t ≡ Some v → f t ≡ g t) → (x : ℕ) → tally f x ≡ tally_of g (events h x)
unfolding tally tally_of
tally_events f g h only same zero = refl
tally_events f g h only same (suc x) = rw (tally_append g (events h x) (here x (h x))) (go (h x) refl (g x) refl (tally_events f g h only same x))
  where
    go : (o : Option ℤ) → h x ≡ o → (b : Bool) → g x ≡ b → tally f x ≡ tally_of g (events h x) → cond (f x) (suc (tally f x)) (tally f x) ≡ tally_of g (events h x) + tally_of g (here x o)
    go None e b d ih = rw (only x e) (omega arith)
    go (Some v) e true d ih = rw (same x v e, d) (omega arith)
    go (Some v) e false d ih = rw (same x v e, d) (omega arith)

-- over the held events from y on
tally_held : (f g : ℕ → Bool) (lo hi : ℕ) (es : List Event) → Rising lo hi es → ((t : ℕ) → found es t ≡ None → f t ≡ false) → ((t : ℕ) (v : ℤ) → found es t ≡ Some v → f t ≡ g t)
    → (y x : ℕ) → tally (λ t. leb y t && f t) x ≡ tally_of g (take_below x (drop_below y es))
tally_held f g lo hi es r only same y x =
    tally_events (λ t. leb y t && f t) g (from y (found es)) (λ t n. none_at t n (look (leb y t))) (λ t v e. some_at t v e (look (leb y t))) x
    ∙ ap (tally_of g) (from_dropped y lo hi es r x ∙ events_taken y hi (drop_below y es) (rising_dropped y lo hi es r) x)
  where
    none_at : (t : ℕ) → from y (found es) t ≡ None → Is (leb y t) → (leb y t && f t) ≡ false
    none_at t n (yes! e k) = rw (e, only t (sym (from_yes y (found es) t (leb→le y t k)) ∙ n))
    none_at t n (no! e k) = rw e

    some_at : (t : ℕ) (v : ℤ) → from y (found es) t ≡ Some v → Is (leb y t) → (leb y t && f t) ≡ g t
    some_at t v n (yes! e k) = rw e (same t v (sym (from_yes y (found es) t (leb→le y t k)) ∙ n))
    some_at t v n (no! e k) = none_some (sym (from_no y (found es) t (nleb→lt y t k)) ∙ n)

-- ---- two sets of stamps

-- those at which c holds, and the others
tally_parts : (c f : ℕ → Bool) (y x : ℕ) → tally (λ t. leb y t && f t) x ≡ tally (λ t. leb y t && (c t && f t)) x + tally (λ t. leb y t && (not (c t) && f t)) x
unfolding tally
tally_parts c f y zero = refl
tally_parts c f y (suc x) = go (leb y x) (c x) (f x) _ _ _ (tally_parts c f y x)
  where
    go : (i j k : Bool) (m n l : ℕ) → m ≡ n + l → cond (i && k) (suc m) m ≡ cond (i && (j && k)) (suc n) n + cond (i && (not j && k)) (suc l) l
    go true true true m n l ih = omega arith
    go true true false m n l ih = omega arith
    go true false true m n l ih = omega arith
    go true false false m n l ih = omega arith
    go false j k m n l ih = omega arith

-- ---- each equation

-- the held events of an argument rise
pub record Rises (c : Cell) : Type 0 where
  pub top : ℕ
  pub rising : Rising 0 top c.held

module _ (q : Reason) (o a b : Cell) (ra : Rises a) (rb : Rises b) (x : ℕ) where
  abbrev asked : Eqn → ℕ → Bool
  asked e t = said_for q (hears e o a b t)

  abbrev all : Eqn → ℕ
  all e = tally (λ t. leb o.bound t && asked e t) x

  -- no event of a, nothing to work on
  by_first : (e : Eqn) → ((t : ℕ) → view a t ≡ None → asked e t ≡ false) → all e ≡ tally_of (asked e) (passing o a x)
  by_first e only = tally_held (asked e) (asked e) 0 ra.top a.held ra.rising only (λ t v d. refl) o.bound x

  never : (e : Eqn) → ((t : ℕ) → asked e t ≡ false) → all e ≡ 0
  never e h = tally_zero (λ t. leb o.bound t && asked e t) x (λ p l. go p (leb o.bound p))
    where
      go : (p : ℕ) (i : Bool) → (i && asked e p) ≡ false
      go p true = h p
      go p false = refl

  one_none : (f : Unary) (t : ℕ) {v : Option ℤ} → v ≡ None → said_for q (one_says f t v) ≡ false
  unfolding one_says
  one_none time t e = rw e
  one_none neg t e = rw e
  one_none (set k) t e = rw e
  one_none (plus k) t e = rw e

  calc_none : (c : Calc) {v : Option ℤ} (w : Option ℤ) → v ≡ None → said_for q (calc_says c v w) ≡ false
  unfolding calc_says
  calc_none c w e = rw e

  two_none : (g : Binary) (v w : Option ℤ) → v ≡ None → said_for q (two_says g v w) ≡ false
  unfolding two_says
  two_none (calc c) v w e = calc_none c w e
  two_none keep v w e = valued_lacks q (two_at keep v w)
  two_none merge v w e = valued_lacks q (two_at merge v w)

  signal_none : (c : Calc) (m n : Option ℤ) {v w : Option ℤ} → v ≡ None → w ≡ None → said_for q (signal_says c v w m n) ≡ false
  unfolding signal_says
  signal_none c m n d e = rw (d, e)

  signal_held : (c : Calc) (i j : ℕ) → all (signal c i j) ≡ tallied q (signal c i j) o a b x
  signal_held c i j =
      tally_parts (λ t. has (view a t)) F o.bound x
      ∙ ap₂ ◌+◌
      (tally_held (λ t. has (view a t) && F t) F 0 ra.top a.held ra.rising (λ t n. rw n) (λ t v e. rw e) o.bound x)
      (tally_held (λ t. not (has (view a t)) && F t) (λ t. not (has (view a t)) && F t) 0 rb.top b.held rb.rising (λ t n. alone t n (view a t) refl) (λ t v e. refl) o.bound x)
    where
      F : ℕ → Bool
      F t = asked (signal c i j) t

      both : (i : Bool) {j : Bool} → j ≡ false → (i && j) ≡ false
      both true e = e
      both false e = refl

      alone : (t : ℕ) → view b t ≡ None → (u : Option ℤ) → view a t ≡ u → (not (has (view a t)) && F t) ≡ false
      alone t n None e = both (not (has (view a t))) (signal_none c (held_latest a (suc t) o.kept.prev) (held_latest b (suc t) o.kept.prev_b) e n)
      alone t n (Some u) e = rw e

  -- ---- a window: a sum lacks a value where it is outside the range

  window_none : (f : Fold) (xs : List ℤ) {v : Option ℤ} → v ≡ None → said_for q (window_says f v xs) ≡ false
  unfolding window_says
  window_none wsum xs e = rw e
  window_none wmin xs e = rw e
  window_none wmax xs e = rw e

fit_outside : (z : ℤ) → lacks Outside (fit z) ≡ not (has (value_of (fit z)))
unfolding fit value_of
fit_outside z = go (le_z least_value z) (lt_z z past_values)
  where
    go : (i j : Bool) → lacks Outside (cond i (cond j (Ok z) (Err Outside)) (Err Outside)) ≡ not (has (value_of (cond i (cond j (Ok z) (Err Outside)) (Err Outside))))
    go true true = refl
    go true false = refl
    go false j = refl

fit_divisor : (z : ℤ) → lacks ZeroDivisor (fit z) ≡ false
unfolding fit
fit_divisor z = go (le_z least_value z) (lt_z z past_values)
  where
    go : (i j : Bool) → lacks ZeroDivisor (cond i (cond j (Ok z) (Err Outside)) (Err Outside)) ≡ false
    go true true = refl
    go true false = refl
    go false j = refl

-- a sum at an event of its argument
sum_said : (q : Reason) {v : Option ℤ} (u : ℤ) {ws : List ℤ} (vs : List ℤ) → v ≡ Some u → ws ≡ vs → said_for q (window_says wsum v ws) ≡ lacks q (folded wsum vs)
unfolding window_says
sum_said q u vs d e = rw (d, e)

sum_divisor : (v : Option ℤ) (ws : List ℤ) → said_for ZeroDivisor (window_says wsum v ws) ≡ false
unfolding window_says folded
sum_divisor None ws = refl
sum_divisor (Some u) ws = fit_divisor (total ws)

sum_outside : (xs : List ℤ) → lacks Outside (folded wsum xs) ≡ not (has (value_of (folded wsum xs)))
unfolding folded
sum_outside xs = fit_outside (total xs)

module _ (k x : ℕ) (f : ℕ → Bool) where
  -- from lo on the test looks at these events, and w came before them
  abbrev Sees : ℕ → List ℤ → List Event → Type 0
  Sees lo w es = (p : ℕ) → lo ≤ p → f p ≡ said_for Outside (window_says wsum (found es p) (latest_of k (w ++ values (events (found es) (suc p)))))

  sum_tally_lem : (lo hi : ℕ) (w : List ℤ) (es : List Event) → Rising lo hi es → Sees lo w es → tally_of f (take_below x es) ≡ sum_tally k x w es
  unfolding tally_of take_below sum_tally
  sum_tally_lem lo hi w [] r sees = refl
  sum_tally_lem lo hi w (e ∷ es) r sees = go (ltb t x) (sum_tally_lem (suc t) hi now es r.2 rest)
    where
      t : ℕ
      t = e.stamp

      now : List ℤ
      now = w ++ e.value ∷ []

      at : f t ≡ not (has (value_of (folded wsum (latest_of k now))))
      at =
          sees t r.0
          ∙ sum_said Outside e.value (latest_of k now) (rw (eqb_self t))
          (ap (λ l. latest_of k (w ++ values l)) (events_first lo hi e es r (suc t) (omega arith) ∙ ap (◌∷◌ e) (events_under (suc t) hi es r.2 (suc t) (omega arith))))
          ∙ sum_outside (latest_of k now)

      rest : Sees (suc t) now es
      rest p l =
          let j = r.0 in
          sees p (omega arith)
          ∙ rw (events_first lo hi e es r (suc p) (omega arith), found_rest e es p (λ i. omega arith), append_assoc w (e.value ∷ []) (values (events (found es) (suc p))))

      pick : (i : Bool) {m n : ℕ} → m ≡ n → cond (not i) (suc m) m ≡ cond i n (suc n)
      pick true d = d
      pick false d = ap suc d

      go : (i : Bool) → tally_of f (take_below x es) ≡ sum_tally k x now es
          → tally_of f (cond i (e ∷ take_below x es) []) ≡ cond i (cond (has (value_of (folded wsum (latest_of k now)))) (sum_tally k x now es) (suc (sum_tally k x now es))) 0
      go true ih = rw at (pick (has (value_of (folded wsum (latest_of k now)))) ih)
      go false ih = refl

module _ (o a b : Cell) (ra : Rises a) (rb : Rises b) (x : ℕ) where
  window_held : (q : Reason) (f : Fold) (k : ℤ) (c : ℕ) → all q o a b ra rb x (window f k c) ≡ tallied q (window f k c) o a b x
  window_held Outside wsum k c =
      by_first Outside o a b ra rb x (window wsum k c) (λ t n. window_none Outside o a b ra rb x wsum (slid (width k) o.bound (suc t) o.passed.window (view a)) n)
      ∙ sum_tally_lem (width k) x (asked Outside o a b ra rb x (window wsum k c)) o.bound ra.top o.passed.window (drop_below o.bound a.held) (rising_dropped o.bound 0 ra.top a.held ra.rising)
      (λ p l. rw (from_dropped o.bound 0 ra.top a.held ra.rising (suc p), ← found_drop o.bound a.held p l))
  window_held Outside wmin k c = never Outside o a b ra rb x (window wmin k c) (λ t. window_lacks wmin refl Outside (view a t) (slid (width k) o.bound (suc t) o.passed.window (view a)))
  window_held Outside wmax k c = never Outside o a b ra rb x (window wmax k c) (λ t. window_lacks wmax refl Outside (view a t) (slid (width k) o.bound (suc t) o.passed.window (view a)))
  window_held ZeroDivisor wsum k c = never ZeroDivisor o a b ra rb x (window wsum k c) (λ t. sum_divisor (view a t) (slid (width k) o.bound (suc t) o.passed.window (view a)))
  window_held ZeroDivisor wmin k c = never ZeroDivisor o a b ra rb x (window wmin k c) (λ t. window_lacks wmin refl ZeroDivisor (view a t) (slid (width k) o.bound (suc t) o.passed.window (view a)))
  window_held ZeroDivisor wmax k c = never ZeroDivisor o a b ra rb x (window wmax k c) (λ t. window_lacks wmax refl ZeroDivisor (view a t) (slid (width k) o.bound (suc t) o.passed.window (view a)))

  -- the held events tell how many stamps from the bound on and below x lack a value
  pub tallied_is : (q : Reason) (e : Eqn) → tally (λ t. leb o.bound t && said_for q (hears e o a b t)) x ≡ tallied q e o a b x
  tallied_is q input = never q o a b ra rb x input (λ t. refl)
  tallied_is q nil = never q o a b ra rb x nil (λ t. refl)
  tallied_is q unit = never q o a b ra rb x unit (λ t. refl)
  tallied_is q (one f c) = by_first q o a b ra rb x (one f c) (λ t n. one_none q o a b ra rb x f t n)
  tallied_is q (two g c d) = by_first q o a b ra rb x (two g c d) (λ t n. two_none q o a b ra rb x g (view a t) (view b t) n)
  tallied_is q (last c d) = never q o a b ra rb x (last c d) (λ t. refl)
  tallied_is q (delay c d) = never q o a b ra rb x (delay c d) (λ t. refl)
  tallied_is q (signal g c d) = signal_held q o a b ra rb x g c d
  tallied_is q (window f k c) = window_held q f k c

-- ---- at the stamp of the event that a move finds nothing is missing

heard_lacks : (q : Reason) (e : Eqn) (o a b : Cell) (t : ℕ) (v : ℤ) → gives e o a b t ≡ Some v → said_for q (hears e o a b t) ≡ false
heard_lacks q input o a b t v h = refl
heard_lacks q nil o a b t v h = refl
heard_lacks q unit o a b t v h = refl
heard_lacks q (one f c) o a b t v h = shown_lacks q (hears (one f c) o a b t) v (one_row f t (view a t) ∙ h)
heard_lacks q (two g c d) o a b t v h = shown_lacks q (hears (two g c d) o a b t) v (two_row g (view a t) (view b t) ∙ h)
heard_lacks q (last c d) o a b t v h = refl
heard_lacks q (delay c d) o a b t v h = refl
heard_lacks q (signal g c d) o a b t v h =
    shown_lacks q (hears (signal g c d) o a b t) v (signal_row_lem g (view a t) (view b t) (held_latest a (suc t) o.kept.prev) (held_latest b (suc t) o.kept.prev_b) ∙ h)
heard_lacks q (window f k c) o a b t v h =
    shown_lacks q (hears (window f k c) o a b t) v (window_row_lem f (view a t) (slid (width k) o.bound (suc t) o.passed.window (view a)) ∙ h)

decide_gives : (e : Eqn) (o a b : Cell) (t : ℕ) (v : ℤ) → decide e o a b ≡ event t v → gives e o a b t ≡ Some v
unfolding decide
decide_gives e o a b t v h = go (ltb (first e o a b) (reach e o a b)) h
  where
    hit : (u : Option ℤ) → gives e o a b (first e o a b) ≡ u → next_of (first e o a b) (reach e o a b) u ≡ event t v → gives e o a b t ≡ Some v
    hit None d n = let z : ◌≡◌ {A = ℕ} 0 1 = cc in absurd (omega arith)
    hit (Some w) d n = let i : first e o a b ≡ t = cc in let j : w ≡ v = cc in rw (← i) (d ∙ ap Some j)

    go : (i : Bool) → next_of (first e o a b) (reach e o a b) (cond i (gives e o a b (first e o a b)) None) ≡ event t v → gives e o a b t ≡ Some v
    go true n = hit (gives e o a b (first e o a b)) refl n
    go false n = hit None (let z : ◌≡◌ {A = ℕ} 0 1 = cc in absurd (omega arith)) n

-- what a move counts, over the held events and up to the event that it finds
pub counted_is : (q : Reason) (e : Eqn) (o a b : Cell) → Rises a → Rises b → (held : List Event) (n : ℕ)
    → counted n (λ t. said_for q (hears e o a b t)) o.bound (new_bound (decide e o a b) held) ≡ min count_limit (n + tallied q e o a b (end_of (decide e o a b)))
unfolding tally
counted_is q e o a b ra rb held n = ap (λ m. min count_limit (n + m)) (go (decide e o a b) refl)
  where
    F : ℕ → Bool
    F t = leb o.bound t && said_for q (hears e o a b t)

    past : (t : ℕ) → said_for q (hears e o a b t) ≡ false → (i : Bool) → tally F (cond i t (suc t)) ≡ tally F t
    past t h true = refl
    past t h false = rw h (none_at (leb o.bound t))
      where
        none_at : (j : Bool) → cond (j && false) (suc (tally F t)) (tally F t) ≡ tally F t
        none_at true = refl
        none_at false = refl

    go : (d : Next) → decide e o a b ≡ d → tally F (new_bound d held) ≡ tallied q e o a b (end_of d)
    go (silent r) h = tallied_is o a b ra rb r q e
    go (event t v) h = past t (heard_lacks q e o a b t v (decide_gives e o a b t v h)) (leb room (length held)) ∙ tallied_is o a b ra rb t q e
