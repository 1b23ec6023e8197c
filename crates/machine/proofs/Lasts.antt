-- The latest k of a list that grows at its end, and the events of a stream from a stamp on.
use mathlib.Core.Path.{◌≡◌, refl, sym, ◌∙◌, ap, subst}
use Rattle.std.specs.Prelude.{None}
use mathlib.Core.List.{List, [], ◌∷◌, ◌++◌, append-nil, append_assoc}
use Prim.Native.Nat.{ℕ, zero, suc, ◌-◌, ◌≤◌, ◌<◌}
use native.Mathlib.Omega.{arith}
use native.Mathlib.Decide.{dec_lt, dec_le}
use lib.Dec.{ltb, lt→ltb, ltb→lt, not_T}
use lib.ListN.{length, length-append}
use lib.IntN.{ℤ}
use Rattle.meaning.specs.Events.{Event, Stream, here, events}
use Rattle.meaning.specs.Table.{latest_of, values}
use Rattle.meaning.proofs.Tests.{true_is, false_is}
use Rattle.meaning.proofs.Causal.{events_cong}
use Rattle.machine.specs.Reach.{from}

pub last_short : (k : ℕ) (xs : List ℤ) → length xs ≤ k → latest_of k xs ≡ xs
unfolding latest_of
last_short k xs l = let e : length xs - k ≡ 0 = omega arith in rw e

last_long : (k : ℕ) (x : ℤ) (xs : List ℤ) → k ≤ length xs → latest_of k (x ∷ xs) ≡ latest_of k xs
unfolding latest_of
last_long k x xs l = let e : suc (length xs) - k ≡ suc (length xs - k) = omega arith in rw e

-- what is kept, with what comes, gives the latest k of all
pub last_seam : (k : ℕ) (xs ys : List ℤ) → latest_of k (latest_of k xs ++ ys) ≡ latest_of k (xs ++ ys)
last_seam k [] ys = rw (last_short k [] (omega arith))
last_seam k (x ∷ xs) ys = go (dec_le k (length xs)) (last_seam k xs ys)
  where
    go : Dec (k ≤ length xs) → latest_of k (latest_of k xs ++ ys) ≡ latest_of k (xs ++ ys) → latest_of k (latest_of k (x ∷ xs) ++ ys) ≡ latest_of k (x ∷ xs ++ ys)
    go (yes l) ih = rw (last_long k x xs l, last_long k x (xs ++ ys) (let e = length-append xs ys in omega arith)) ih
    go (no l) ih = rw (last_short k (x ∷ xs) (omega arith))

pub values_append : (xs ys : List Event) → values (xs ++ ys) ≡ values xs ++ values ys
values_append [] ys = refl
values_append (e ∷ xs) ys = rw (values_append xs ys)

-- ---- from a stamp on

pub from_yes : (y : ℕ) (f : Stream) (p : ℕ) → y ≤ p → from y f p ≡ f p
from_yes y f p l = rw (false_is (ltb p y) (not_T (ltb p y) (λ h. let k = ltb→lt p y h in absurd (omega arith))))

pub from_no : (y : ℕ) (f : Stream) (p : ℕ) → p < y → from y f p ≡ None
from_no y f p l = rw (true_is (ltb p y) (lt→ltb p y l))

pub from_none : (y : ℕ) (f : Stream) (x : ℕ) → x ≤ y → events (from y f) x ≡ []
from_none y f zero l = refl
from_none y f (suc x) l = rw (from_none y f x (omega arith), from_no y f x (omega arith))

-- the events below x are those below y and those from there on
pub events_seam : (f : Stream) (y x : ℕ) → y ≤ x → events f x ≡ events f y ++ events (from y f) x
events_seam f y zero l = let e : y ≡ 0 = omega arith in rw e
events_seam f y (suc x) l = go (dec_le y x) (λ m. events_seam f y x m)
  where
    go : Dec (y ≤ x) → (y ≤ x → events f x ≡ events f y ++ events (from y f) x) → events f (suc x) ≡ events f y ++ events (from y f) (suc x)
    go (yes m) ih = rw (ih m, from_yes y f x m) (append_assoc (events f y) (events (from y f) x) (here x (f x)))
    go (no m) ih = let e : y ≡ suc x = omega arith in subst (λ (z : ℕ). events f (suc x) ≡ events f z ++ events (from z f) (suc x)) (sym e) (sym (append-nil (events f (suc x))) ∙ ap (λ (r : List Event). events f (suc x) ++ r) (sym (from_none (suc x) f (suc x) (omega arith))))

-- two streams that agree from y on and below x
pub from_cong : (f g : Stream) (y x : ℕ) → ((p : ℕ) → y ≤ p → p < x → f p ≡ g p) → events (from y f) x ≡ events (from y g) x
from_cong f g y x h = events_cong (from y f) (from y g) x (λ p l. go p l (dec_lt p y))
  where
    go : (p : ℕ) → p < x → Dec (p < y) → from y f p ≡ from y g p
    go p l (yes d) = rw (from_no y f p d, from_no y g p d)
    go p l (no d) = rw (from_yes y f p (omega arith), from_yes y g p (omega arith)) (h p (omega arith) l)

-- a window that is kept below y, with what is seen from y on and below x
pub window_seam : (k : ℕ) (f v : Stream) (y x : ℕ) → y ≤ x → ((p : ℕ) → y ≤ p → p < x → v p ≡ f p)
    → latest_of k (latest_of k (values (events f y)) ++ values (events (from y v) x)) ≡ latest_of k (values (events f x))
window_seam k f v y x l h =
    last_seam k (values (events f y)) (values (events (from y v) x))
    ∙ rw (from_cong v f y x h) (ap (latest_of k) (sym (ap values (events_seam f y x l) ∙ values_append (events f y) (events (from y f) x))))
