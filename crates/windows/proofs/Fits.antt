-- Held events in the slots of a record, and where a window over them first gives a value.
use Prim.Native.Nat.{ℕ, zero, suc, ◌+◌, ◌<◌, ◌≤◌, min}
use mathlib.Core.Path.{◌≡◌, refl, sym, ap, ap₂, ◌∙◌}
use mathlib.Core.Bool.{Bool, true, false, cond}
use Rattle.std.specs.Prelude.{Option, None, Some}
use mathlib.Core.List.{List, [], ◌∷◌, ◌++◌, map, map-append, append_assoc, append-nil}
use native.Mathlib.Omega.{arith}
use lib.Dec.{ltb}
use lib.IntN.{ℤ}
use lib.ListN.{length, get_or, take, drop}
use lib.Seq.{slice, slice-cons, slice_empty, take-suc, length-take-le, drop-append-le}
use mir.Syntax.{w64}
use mir.Val.{to_z}
use borrow.Author.Tests.{lt-ltb, le-ltb}
use Rattle.meaning.specs.Plan.{Fold}
use Rattle.meaning.specs.Events.{Event}
use Rattle.meaning.specs.Table.{latest_of, folded, value_of}
use Rattle.machine.specs.State.{room}
use Rattle.machine.specs.Reach.{event, silent}
use Rattle.machine.specs.Step.{drop_below}
use Rattle.machine.specs.Windows.{fits_at, first_fit}
use Rattle.layout.specs.Record.{Slot, Raw, no_slot, num, count_f, slot_at}
use Rattle.encoding.specs.Back.{event_of, held_of}
use Rattle.queue.specs.Queue.{below}
use Rattle.windows.specs.Window.{values_in, slot_words}
use Rattle.windows.proofs.Heights.{slot_word}

-- ---- the events in the slots from i on, of the first n

abbrev pub events_in : (i n : ℕ) → List Slot → List Event
events_in i n l = map event_of (slice i n l)

pub events_more : (i n : ℕ) (l : List Slot) → i < n → n ≤ length l → events_in i n l ≡ event_of (get_or l i no_slot) ∷ events_in (i + 1) n l
events_more i n l h k = let q : i + 1 ≡ suc i = omega arith in rw (q, slice-cons i n l no_slot h k)

pub events_none : (n : ℕ) (l : List Slot) → events_in n n l ≡ []
events_none n l = rw slice_empty

-- the held events not below y are those from the first such slot on
drop_slots : (y n : ℕ) (l : List Slot) → drop_below y (map event_of (take n l)) ≡ events_in (below y n l) n l
unfolding drop_below below
drop_slots y zero l = refl
drop_slots y (suc n) [] = refl
drop_slots y (suc n) (e ∷ l) = go (ltb e.stamp y) (drop_slots y n l)
  where
    go : (b : Bool) → drop_below y (map event_of (take n l)) ≡ events_in (below y n l) n l
        → cond b (drop_below y (map event_of (take n l))) (map event_of (take (suc n) (e ∷ l))) ≡ events_in (cond b (suc (below y n l)) 0) (suc n) (e ∷ l)
    go true i = i
    go false i = refl

pub held_from : (y n i : ℕ) (r : Raw) → n ≡ min (num count_f r) room → i ≡ below y n r.slots → events_in i n r.slots ≡ drop_below y (held_of r)
unfolding held_of
held_from y n i r e q =
    ap (λ (m : ℕ). events_in m n r.slots) q ∙ sym (drop_slots y n r.slots) ∙ ap (λ (m : ℕ). drop_below y (map event_of (take m r.slots))) e

-- ---- one value more

values_more : (first i : ℕ) (ws : List ℕ) → first ≤ i → i < length ws → values_in first (i + 1) ws ≡ values_in first i ws ++ (to_z w64 (get_or ws i 0) ∷ [])
values_more first i ws h k =
    let q : i + 1 ≡ suc i = omega arith in
    let l : first ≤ length (take i ws) = rw (length-take-le i ws (omega arith)) h in
    ap (λ (m : ℕ). values_in first m ws) q
    ∙ ap (λ (z : List ℕ). map (to_z w64) (drop first z)) (take-suc ws i 0 k)
    ∙ ap (map (to_z w64)) (drop-append-le first (take i ws) (get_or ws i 0 ∷ []) l)
    ∙ map-append (to_z w64) (slice first i ws) (get_or ws i 0 ∷ [])

-- the loop begins with no value
pub values_none : (n : ℕ) (w : List ℤ) (ws : List ℕ) → w ++ values_in n n ws ≡ w
values_none n w ws = ap (λ (l : List ℕ). w ++ map (to_z w64) l) (slice_empty n ws) ∙ append-nil w

-- behind w come the values in the slots from the first on
abbrev pub grown : (first i : ℕ) → List ℤ → Raw → List ℤ
grown first i w r = w ++ values_in first i (slot_words r)

-- ---- a turn of the search

pub fit_end : (f : Fold) (k hi n : ℕ) (w : List ℤ) (l : List Slot) → silent hi ≡ first_fit f k hi w (events_in n n l)
unfolding first_fit
fit_end f k hi n w l = rw (events_none n l)

module _ (f : Fold) (k hi first i n : ℕ) (w : List ℤ) (r : Raw) (low : first ≤ i) (h : i < n) (many : n ≤ length r.slots) (words : n ≤ length (slot_words r)) (t : ℕ) (stamp : t ≡ (slot_at i r).stamp) where
  -- with the value of slot i
  pub now_is : grown first i w r ++ (to_z w64 (slot_at i r).value ∷ []) ≡ grown first (i + 1) w r
  now_is =
      append_assoc w (values_in first i (slot_words r)) (to_z w64 (slot_at i r).value ∷ [])
      ∙ ap (λ (l : List ℤ). w ++ l) (ap (λ (v : ℕ). values_in first i (slot_words r) ++ (to_z w64 v ∷ [])) (sym (slot_word r i)) ∙ sym (values_more first i (slot_words r) low (omega arith)))

  turn : first_fit f k hi (grown first i w r) (events_in i n r.slots)
      ≡ cond (ltb t hi) (fits_at t (value_of (folded f (latest_of k (grown first (i + 1) w r)))) (first_fit f k hi (grown first (i + 1) w r) (events_in (i + 1) n r.slots))) (silent hi)
  unfolding first_fit
  turn =
      ap (first_fit f k hi (grown first i w r)) (events_more i n r.slots h many)
      ∙ ap₂ (λ (s : ℕ) (z : List ℤ). cond (ltb s hi) (fits_at s (value_of (folded f (latest_of k z))) (first_fit f k hi z (events_in (i + 1) n r.slots))) (silent hi)) (sym stamp) now_is

  pub fit_stop : hi ≤ t → silent hi ≡ first_fit f k hi (grown first i w r) (events_in i n r.slots)
  fit_stop q = sym (turn ∙ rw (le-ltb t hi q))

  module _ (q : t < hi) (o : Option ℤ) (e : o ≡ value_of (folded f (latest_of k (grown first (i + 1) w r)))) where
    here : fits_at t o (first_fit f k hi (grown first (i + 1) w r) (events_in (i + 1) n r.slots)) ≡ first_fit f k hi (grown first i w r) (events_in i n r.slots)
    here = sym (turn ∙ ap (λ (b : Bool). cond b (fits_at t (value_of (folded f (latest_of k (grown first (i + 1) w r)))) (first_fit f k hi (grown first (i + 1) w r) (events_in (i + 1) n r.slots))) (silent hi)) (lt-ltb t hi q) ∙ ap (λ (x : Option ℤ). fits_at t x (first_fit f k hi (grown first (i + 1) w r) (events_in (i + 1) n r.slots))) (sym e))

    pub fit_hit : (v : ℤ) → o ≡ Some v → event t v ≡ first_fit f k hi (grown first i w r) (events_in i n r.slots)
    fit_hit v s = ap (λ (x : Option ℤ). fits_at t x (first_fit f k hi (grown first (i + 1) w r) (events_in (i + 1) n r.slots))) (sym s) ∙ here

    pub fit_miss : o ≡ None → first_fit f k hi (grown first (i + 1) w r) (events_in (i + 1) n r.slots) ≡ first_fit f k hi (grown first i w r) (events_in i n r.slots)
    fit_miss s = ap (λ (x : Option ℤ). fits_at t x (first_fit f k hi (grown first (i + 1) w r) (events_in (i + 1) n r.slots))) (sym s) ∙ here
