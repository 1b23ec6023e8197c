-- The invariant: in a run the state is determined by the solution, the bounds and the marks of collection.
-- Each stream holds its events from the least waiting reader on and below its bound; what is kept is what is known below
-- the bound; a delay is at most one ahead of its second argument, all others but last ahead of none. So a window and the counts
-- are of the solution itself, and indifferent to every other stream's step.
use mathlib.Core.Path.{◌≡◌, refl, sym, ◌∙◌, ap}
use Rattle.std.specs.Prelude.{None, Some}
use mathlib.Core.List.{List, [], ◌∷◌, ◌++◌, append-nil}
use Prim.Native.Nat.{ℕ, suc, ◌≤◌, ◌<◌, min}
use native.Mathlib.Nat.{lt-suc_self}
use native.Mathlib.Omega.{arith}
use native.Mathlib.Decide.{dec_lt}
use lib.Dec.{T, ltb, lt→ltb, ltb→lt, not_T}
use lib.ListN.{length}
use lib.IntN.{ℤ}
use Rattle.meaning.specs.Plan.{Eqn, input, nil, unit, one, two, last, delay, signal, window}
use Rattle.meaning.specs.Events.{Event, ev, Stream, Streams, found, events, or_else, horizon}
use Rattle.meaning.specs.Table.{latest}
use Rattle.meaning.proofs.Tests.{true_is, false_is, eqb_self}
use Rattle.meaning.proofs.Causal.{latest_cong}
use Rattle.machine.specs.State.{State, cell_at}
use Rattle.machine.specs.Step.{drop_below, least_waiting}
use Rattle.machine.proofs.Cells.{ne_eqb}
use Rattle.machine.proofs.Window.{Seen, or_none}
use Rattle.machine.proofs.Rising.{Rising, events_rising, events_some, events_flat, found_append, found_events, found_low, found_high, found_drop, rising_drop, rising_dropped}
use Rattle.machine.proofs.Release.{waiting_le_next}
use Rattle.runs.specs.Inside.{cut, known_in}
use Rattle.runs.proofs.Kept.{kept_of}
use Rattle.runs.proofs.Passed.{passed_of}

-- ---- what is known of a stream below k

pub cut_yes : (f : Stream) (k p : ℕ) → p < k → cut f k p ≡ f p
cut_yes f k p l = rw (true_is (ltb p k) (lt→ltb p k l))

pub cut_no : (f : Stream) (k p : ℕ) → k ≤ p → cut f k p ≡ None
cut_no f k p l = rw (false_is (ltb p k) (not_T (ltb p k) (λ y. let z = ltb→lt p k y in absurd (omega arith))))

pub cut_latest : (f : Stream) (k t : ℕ) → t ≤ k → latest (cut f k) t ≡ latest f t
cut_latest f k t l = latest_cong (cut f k) f t (λ p m. cut_yes f k p (omega arith))

-- ---- the invariant

-- the bound of an equation against those of its arguments
abbrev pub Ahead : Eqn → State → ℕ → Type 0
Ahead input M y = Unit
Ahead nil M y = Unit
Ahead unit M y = Unit
Ahead (one f a) M y = y ≤ (cell_at M a).bound
Ahead (two g a b) M y = (y ≤ (cell_at M a).bound) × (y ≤ (cell_at M b).bound)
Ahead (last a b) M y = Unit
Ahead (delay a b) M y = y ≤ suc (cell_at M b).bound
Ahead (signal c a b) M y = (y ≤ (cell_at M a).bound) × (y ≤ (cell_at M b).bound)
Ahead (window f k a) M y = y ≤ (cell_at M a).bound

pub record Tracks (S : Streams) (M : State) : Type 0 where
  pub held : (s : ℕ) → (cell_at M s).held ≡ drop_below (least_waiting s M) (events (S s) (cell_at M s).bound)
  pub kept : (s : ℕ) → (cell_at M s).kept ≡ kept_of (cell_at M s).eqn (known_in S M) s (cell_at M s).bound
  pub passed : (s : ℕ) → (cell_at M s).passed ≡ passed_of (cell_at M s).eqn S s (cell_at M s).bound
  pub ahead : (s : ℕ) → Ahead (cell_at M s).eqn M (cell_at M s).bound
  pub top : (s : ℕ) → (cell_at M s).bound ≤ horizon
  pub taken : (s : ℕ) → (cell_at M s).next ≤ (cell_at M s).bound

module _ (S : Streams) (M : State) (inv : Tracks S M) (s : ℕ) where
  pub held_rising : Rising 0 (cell_at M s).bound (cell_at M s).held
  held_rising = rw (inv.held s) (rising_drop (least_waiting s M) 0 (cell_at M s).bound (events (S s) (cell_at M s).bound) (events_rising (S s) (cell_at M s).bound))

  -- from the mark on an output's held events are the solution's
  pub held_from_mark : T (cell_at M s).out → (t : ℕ) → (cell_at M s).next ≤ t → t < (cell_at M s).bound → found (cell_at M s).held t ≡ S s t
  held_from_mark out t l m =
      let w = waiting_le_next s M out in
      rw (inv.held s) (found_drop (least_waiting s M) (events (S s) (cell_at M s).bound) t (omega arith) ∙ found_events (S s) (cell_at M s).bound t m)

pub ahead_grows : (e : Eqn) (M N : State) (y : ℕ) → ((i : ℕ) → (cell_at M i).bound ≤ (cell_at N i).bound) → Ahead e M y → Ahead e N y
ahead_grows input M N y g h = tt
ahead_grows nil M N y g h = tt
ahead_grows unit M N y g h = tt
ahead_grows (one f a) M N y g h = let x = g a in omega arith
ahead_grows (two k a b) M N y g h = let x = g a in let z = g b in let u = h.0 in let v = h.1 in (omega arith, omega arith)
ahead_grows (last a b) M N y g h = tt
ahead_grows (delay a b) M N y g h = let x = g b in omega arith
ahead_grows (signal c a b) M N y g h = let x = g a in let z = g b in let u = h.0 in let v = h.1 in (omega arith, omega arith)
ahead_grows (window f k a) M N y g h = let x = g a in omega arith

-- ---- what comes in when a bound goes from lo to y: nothing, or one event just below y

pub data New (f : Stream) (lo : ℕ) : ℕ → List Event → Type 0 where
  quiet : {y : ℕ} → lo ≤ y → ((p : ℕ) → lo ≤ p → p < y → f p ≡ None) → New f lo y []
  event : {t : ℕ} {v : ℤ} → lo ≤ t → ((p : ℕ) → lo ≤ p → p < t → f p ≡ None) → f t ≡ Some v → New f lo (suc t) (ev t v ∷ [])

pub new_grows : {f : Stream} {lo y : ℕ} {es : List Event} → New f lo y es → lo ≤ y
new_grows (quiet l n) = l
new_grows (event l n e) = omega arith

pub new_none : (f : Stream) (lo : ℕ) → New f lo lo []
new_none f lo = quiet {y = lo} (omega arith) (λ p a b. absurd (omega arith))

pub new_events : {f : Stream} {lo y : ℕ} {es : List Event} → New f lo y es → events f y ≡ events f lo ++ es
new_events {f} {lo} {y} (quiet l n) = events_flat f lo y l n ∙ sym (append-nil (events f lo))
new_events {f} {lo} (event {t} {v} l n e) = events_some f t v e ∙ ap (λ xs. xs ++ ev t v ∷ []) (events_flat f lo t l n)

one_miss : (t p : ℕ) (v : ℤ) → (t ≡ p → ⊥) → found (ev t v ∷ []) p ≡ None
one_miss t p v n = rw (ne_eqb t p n)

-- new events as a stream
new_under : {f : Stream} {lo y : ℕ} {es : List Event} → New f lo y es → (p : ℕ) → p < lo → found es p ≡ None
new_under (quiet l n) p k = refl
new_under (event {t} {v} l n e) p k = one_miss t p v (λ q. omega arith)

new_from : {f : Stream} {lo y : ℕ} {es : List Event} → New f lo y es → (p : ℕ) → lo ≤ p → found es p ≡ cut f y p
new_from {f} {lo} {y} (quiet l n) p k = go (dec_lt p y)
  where
    go : Dec (p < y) → None ≡ cut f y p
    go (yes d) = sym (cut_yes f y p d ∙ n p k d)
    go (no d) = sym (cut_no f y p (omega arith))
new_from {f} {lo} (event {t} {v} l n e) p k = go (dec_lt p t) (dec_lt t p)
  where
    go : Dec (p < t) → Dec (t < p) → found (ev t v ∷ []) p ≡ cut f (suc t) p
    go (yes d) c = one_miss t p v (λ q. omega arith) ∙ sym (cut_yes f (suc t) p (omega arith) ∙ n p k d)
    go (no d) (yes c) = one_miss t p v (λ q. omega arith) ∙ sym (cut_no f (suc t) p (omega arith))
    go (no d) (no c) = let q : p ≡ t = omega arith in rw (q, eqb_self t) (sym (cut_yes f (suc t) t (lt-suc_self t) ∙ e))

-- a stream that holds its events from w on, with what comes in, shows what is known then
pub held_shows : (f : Stream) (w lo y : ℕ) (es : List Event) → New f lo y es → Seen (cut f y) (min w lo) (found (drop_below w (events f lo) ++ es))
held_shows f w lo y es n = record {
  from = λ p l. found_append old es p ∙ from p l (dec_lt p lo) (dec_lt p w);
  under = λ p l. rw (found_append old es p, new_under n p (omega arith), found_low w lo old (rising_dropped w 0 lo (events f lo) (events_rising f lo)) p (omega arith));
}
  where
    old : List Event
    old = drop_below w (events f lo)

    from : (p : ℕ) → min w lo ≤ p → Dec (p < lo) → Dec (p < w) → or_else (found old p) (found es p) ≡ cut f y p
    from p l (yes d) (yes c) = absurd (omega arith)
    from p l (yes d) (no c) =
        let g = new_grows n in
        rw (new_under n p d, found_drop w (events f lo) p (omega arith), found_events f lo p d, cut_yes f y p (omega arith)) (or_none (f p))
    from p l (no d) c =
        rw (found_high 0 lo old (rising_drop w 0 lo (events f lo) (events_rising f lo)) p (omega arith), new_from n p (omega arith))

-- what is known changes only where the event comes in
pub cut_quiet : (f : Stream) (lo y p : ℕ) → lo ≤ y → ((p : ℕ) → lo ≤ p → p < y → f p ≡ None) → cut f lo p ≡ cut f y p
cut_quiet f lo y p l n = go (dec_lt p lo) (dec_lt p y)
  where
    go : Dec (p < lo) → Dec (p < y) → cut f lo p ≡ cut f y p
    go (yes d) c = rw (cut_yes f lo p d, cut_yes f y p (omega arith))
    go (no d) (yes c) = rw (cut_no f lo p (omega arith), cut_yes f y p c) (sym (n p (omega arith) c))
    go (no d) (no c) = rw (cut_no f lo p (omega arith), cut_no f y p (omega arith))

pub cut_event : (f : Stream) (lo t p : ℕ) → lo ≤ t → ((p : ℕ) → lo ≤ p → p < t → f p ≡ None) → (p ≡ t → ⊥) → cut f lo p ≡ cut f (suc t) p
cut_event f lo t p l n d = cut_quiet f lo t p l n ∙ go (dec_lt p t)
  where
    go : Dec (p < t) → cut f t p ≡ cut f (suc t) p
    go (yes c) = rw (cut_yes f t p c, cut_yes f (suc t) p (omega arith))
    go (no c) = rw (cut_no f t p (omega arith), cut_no f (suc t) p (omega arith))

-- ---- a step that may be made: stream s goes on to y, with these new events

pub record Rise (S : Streams) (M : State) (s y : ℕ) (new : List Event) : Type 0 where
  pub there : s < length M
  pub grows : (cell_at M s).bound < y
  pub top : y ≤ horizon
  pub near : Ahead (cell_at M s).eqn M y
  pub comes : New (S s) (cell_at M s).bound y new
