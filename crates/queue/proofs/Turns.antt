-- One turn of each loop over the slots of a record.
use Prim.Native.Nat.{ℕ, suc, ◌+◌, ◌-◌, ◌<◌, ◌≤◌, min}
use mathlib.Core.Path.{◌≡◌, sym, ap, ap₂, ◌∙◌}
use mathlib.Core.List.{List, [], ◌∷◌, map}
use Rattle.std.specs.Prelude.{Some}
use mathlib.Core.Bool.{cond}
use native.Mathlib.Omega.{arith}
use native.Mathlib.Nat.{sub-zero}
use lib.ListN.{length, get_or, take, drop}
use lib.Seq.{drop-cons}
use borrow.Author.Tests.{eq-eqb, ne_eqb, lt-ltb, le-ltb}
use Rattle.layout.specs.Record.{Slot, Raw, no_slot, num, count_f}
use Rattle.encoding.specs.Back.{event_of, held_of}
use Rattle.meaning.specs.Events.{Event, found}
use Rattle.machine.specs.State.{room}
use Rattle.machine.specs.Reach.{past_latest}
use Rattle.queue.specs.Latest.{passed}
use Rattle.queue.proofs.Latest.{past_cons, past_none}

-- the events in the slots from i on, of n
abbrev pub left : List Slot → ℕ → ℕ → List Event
left l i n = map event_of (take (n - i) (drop i l))

pub left_none : (l : List Slot) (i n : ℕ) → n ≤ i → left l i n ≡ []
left_none l i n h = let e : n - i ≡ 0 = omega arith in rw e

pub left_more : (l : List Slot) (i n : ℕ) → i < n → n ≤ length l → left l i n ≡ event_of (get_or l i no_slot) ∷ left l (i + 1) n
left_more l i n h k =
    let e : n - i ≡ suc (n - (i + 1)) = omega arith in
    let f : suc i ≡ i + 1 = omega arith in
    ap₂ (λ (m : ℕ) (x : List Slot). map event_of (take m x)) e (drop-cons l i no_slot (omega arith))
    ∙ ap (λ (j : ℕ). event_of (get_or l i no_slot) ∷ map event_of (take (n - (i + 1)) (drop j l))) f

-- the slots from the first on are what is held
pub left_all : (r : Raw) (n : ℕ) → n ≡ min (num count_f r) room → left r.slots 0 n ≡ held_of r
unfolding held_of
left_all r n e = rw (e, sub-zero)

module _ (l : List Slot) (i n t x : ℕ) (h : i < n) (k : n ≤ length l) (w : x ≡ (get_or l i no_slot).stamp) where
  -- find
  pub find_hit : x ≡ t → found (left l i n) t ≡ Some (event_of (get_or l i no_slot)).value
  find_hit e =
      ap (λ (es : List Event). found es t) (left_more l i n h k)
      ∙ ap (λ b. cond b (Some (event_of (get_or l i no_slot)).value) (found (left l (i + 1) n) t)) (eq-eqb (get_or l i no_slot).stamp t (sym w ∙ e))

  pub find_miss : (x ≡ t → ⊥) → found (left l (i + 1) n) t ≡ found (left l i n) t
  find_miss e =
      sym
      (ap (λ (es : List Event). found es t) (left_more l i n h k)
      ∙ ap (λ b. cond b (Some (event_of (get_or l i no_slot)).value) (found (left l (i + 1) n) t)) (ne_eqb (get_or l i no_slot).stamp t (λ q. e (w ∙ q))))

  -- past_latest
  pub past_turn : passed t x (past_latest (found (left l (i + 1) n)) t) ≡ past_latest (found (left l i n)) t
  past_turn =
      ap (λ (s : ℕ). passed t s (past_latest (found (left l (i + 1) n)) t)) w
      ∙ sym (ap (λ (es : List Event). past_latest (found es) t) (left_more l i n h k) ∙ past_cons (event_of (get_or l i no_slot)) (left l (i + 1) n) t)

pub past_start : (l : List Slot) (n t : ℕ) → 0 ≡ past_latest (found (left l n n)) t
past_start l n t = sym (ap (λ (es : List Event). past_latest (found es) t) (left_none l n n (omega arith)) ∙ past_none t)

-- later
module _ (t s z : ℕ) where
  pub later_no : t ≤ s → z ≡ passed t s z
  later_no h = rw (le-ltb s t h)

  pub later_up : s < t → z ≤ s → s + 1 ≡ passed t s z
  later_up h k = rw (lt-ltb s t h) (omega arith)

  pub later_same : s < t → s < z → z ≡ passed t s z
  later_same h k = rw (lt-ltb s t h) (omega arith)
