-- What a stream holds: in a state that tracks the solution, its events from the least stamp that is waited for on, below its
-- bound. The machine drops from the front; the definition filters by stamp.
use mathlib.Core.Path.{◌≡◌, sym, ◌∙◌, ap}
use mathlib.Core.Logic.{◌⊎◌, inl, inr, ◌↔◌}
use mathlib.Core.Bool.{cond}
use Rattle.std.specs.Prelude.{Option, None, Some}
use mathlib.Core.List.{List, [], ◌∷◌, ◌++◌, append-nil, Memᴰ}
use Prim.Native.Nat.{ℕ, zero, suc, ◌≤◌, ◌<◌}
use native.Mathlib.Omega.{arith}
use lib.Dec.{T, leb, ltb, eqb, ltb→lt, nltb→le, leb→le, nleb→lt, eqb→eq}
use lib.ListN.{length}
use lib.IntN.{ℤ}
use Rattle.meaning.specs.Arguments.{reads}
use Rattle.meaning.specs.Events.{Event, ev, Stream, Streams, here, events, horizon}
use Rattle.meaning.proofs.Tests.{Is, yes!, no!, look, T-or}
use Rattle.meaning.proofs.Each.{each_at}
use Rattle.machine.specs.State.{State, cell_at}
use Rattle.machine.specs.Step.{reads_it, drop_below, least_waiting}
use Rattle.machine.proofs.Rising.{Rising, rising_one, events_rising, drop_nil}
use Rattle.machine.proofs.Release.{each_read, among, read_among, waiting_le_reader, waiting_le_next, waiting_who}
use Rattle.runs.specs.Inside.{Waits, reader, collection, between, HeldAs}
use Rattle.runs.proofs.Tracks.{Tracks}

-- ---- dropping from the front is filtering by stamp

-- all of them are dropped
drop_all : (w lo hi : ℕ) (xs : List Event) → Rising lo hi xs → hi ≤ w → drop_below w xs ≡ []
unfolding drop_below
drop_all w lo hi [] r l = drop_nil w
drop_all w lo hi (e ∷ es) r l = go (look (ltb e.stamp w)) (drop_all w (suc e.stamp) hi es r.2 l)
  where
    go : Is (ltb e.stamp w) → drop_below w es ≡ [] → drop_below w (e ∷ es) ≡ []
    go (yes! q x) ih = rw (drop_below, q) ih
    go (no! q x) ih = let a = nltb→le e.stamp w x in let b = r.1 in absurd (omega arith)

-- the last one stays
drop_last : (w t : ℕ) (v : ℤ) (xs : List Event) → w ≤ t → drop_below w (xs ++ ev t v ∷ []) ≡ drop_below w xs ++ ev t v ∷ []
unfolding drop_below
drop_last w t v [] l = go (look (ltb t w))
  where
    go : Is (ltb t w) → drop_below w (ev t v ∷ []) ≡ drop_below w [] ++ ev t v ∷ []
    go (yes! q x) = let a = ltb→lt t w x in absurd (omega arith)
    go (no! q x) = rw (drop_below, q)
drop_last w t v (e ∷ es) l = go (look (ltb e.stamp w)) (drop_last w t v es l)
  where
    go : Is (ltb e.stamp w) → drop_below w (es ++ ev t v ∷ []) ≡ drop_below w es ++ ev t v ∷ [] → drop_below w (e ∷ es ++ ev t v ∷ []) ≡ drop_below w (e ∷ es) ++ ev t v ∷ []
    go (yes! q x) ih = rw (drop_below, q) ih
    go (no! q x) ih = rw (drop_below, q)

pub drop_between : (w : ℕ) (f : Stream) (y : ℕ) → drop_below w (events f y) ≡ between f w y
drop_between w f zero = drop_nil w
drop_between w f (suc t) = go (look (leb w t)) (f t) (drop_between w f t)
  where
    go : Is (leb w t) → (o : Option ℤ) → drop_below w (events f t) ≡ between f w t → drop_below w (events f t ++ here t o) ≡ between f w t ++ cond (leb w t) (here t o) []
    go (yes! q x) None ih = rw (q, append-nil (events f t)) (ih ∙ sym (append-nil (between f w t)))
    go (yes! q x) (Some v) ih = rw q (drop_last w t v (events f t) (leb→le w t x) ∙ ap (λ l. l ++ ev t v ∷ []) ih)
    go (no! q x) o ih =
        let a = nleb→lt w t x in
        rw q (every o ∙ sym (drop_all w 0 t (events f t) (events_rising f t) (omega arith)) ∙ ih ∙ sym (append-nil (between f w t)))
      where
        every : (o : Option ℤ) → drop_below w (events f t ++ here t o) ≡ []
        every None = rw (append-nil (events f t)) (drop_all w 0 t (events f t) (events_rising f t) (let a = nleb→lt w t x in omega arith))
        every (Some v) =
            drop_all w 0 (suc t) (events f t ++ ev t v ∷ []) (rising_one 0 t t v (events f t) (omega arith) (omega arith) (events_rising f t)) (let a = nleb→lt w t x in omega arith)

-- ---- who waits

-- the number is in the list
among_in : (s : ℕ) (xs : List ℕ) → T (among s xs) → Memᴰ s xs
among_in s [] h = absurd h
among_in s (x ∷ xs) h = go (T-or (eqb s x) (among s xs) h) (λ m. among_in s xs m)
  where
    go : T (eqb s x) ⊎ T (among s xs) → (T (among s xs) → Memᴰ s xs) → Memᴰ s (x ∷ xs)
    go (inl e) ih = Memᴰ.head (eqb→eq s x e)
    go (inr m) ih = Memᴰ.tail (ih m)

-- an event at a stamp is waited for exactly from the least waiting bound on
pub waits_from : (M : State) (s t : ℕ) → t < horizon → Waits M s t ↔ (least_waiting s M ≤ t)
waits_from M s t l = (to, λ h. from (waiting_who s M t l h))
  where
    to : Waits M s t → least_waiting s M ≤ t
    to (reader r i m b) =
        let e = (cell_at M r).eqn in
        let k = waiting_le_reader s M r (each_at (λ a. T (reads_it a e)) (reads e) (each_read e) m) in
        omega arith
    to (collection o b) = let k = waiting_le_next s M o in omega arith

    from : ((r : ℕ) × (r < length M) × T (reads_it s (cell_at M r).eqn) × ((cell_at M r).bound ≤ t)) ⊎ (T (cell_at M s).out × ((cell_at M s).next ≤ t)) → Waits M s t
    from (inl x) = reader x.0 x.1 (among_in s (reads (cell_at M x.0).eqn) (read_among s (cell_at M x.0).eqn x.2)) x.3
    from (inr x) = collection x.0 x.1

-- what each stream holds
pub held_as : (S : Streams) (M : State) → Tracks S M → (s : ℕ) → HeldAs (S s) M s
held_as S M inv s = record {
  from = least_waiting s M;
  waits = λ t l. waits_from M s t l;
  held = inv.held s ∙ drop_between (least_waiting s M) (S s) (cell_at M s).bound;
}
