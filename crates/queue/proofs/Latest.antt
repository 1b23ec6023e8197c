-- A list of events as a stream: the latest event below a stamp, read off the list.
use mathlib.Core.Path.{◌≡◌, refl, sym, ◌∙◌, ap}
use mathlib.Core.Bool.{cond}
use Rattle.std.specs.Prelude.{Option, None, Some}
use mathlib.Core.List.{List, [], ◌∷◌}
use Prim.Native.Nat.{ℕ, zero, suc, pred, ◌-◌, ◌≤◌, ◌<◌, max}
use native.Mathlib.Omega.{arith}
use native.Mathlib.Decide.{dec_le}
use lib.Dec.{T, ltb, eqb, ltb→lt, eqb→eq, nltb→le, eqb_refl, T_not}
use lib.IntN.{ℤ}
use Rattle.meaning.specs.Events.{Stream, Event, found, has}
use Rattle.meaning.specs.Table.{latest}
use Rattle.meaning.proofs.Tests.{Is, yes!, no!, look}
use Rattle.machine.specs.Reach.{past_latest}
use Rattle.machine.proofs.Window.{past_le, past_max, past_hit, past_is}
use Rattle.queue.specs.Latest.{passed}

-- the stream of one event more
found_cases : (P : Option ℤ → Type 0) (e : Event) (es : List Event) (t : ℕ) → (e.stamp ≡ t → P (Some e.value)) → ((e.stamp ≡ t → ⊥) → P (found es t)) → P (found (e ∷ es) t)
found_cases P e es t same other = go (look (eqb e.stamp t))
  where
    go : Is (eqb e.stamp t) → P (cond (eqb e.stamp t) (Some e.value) (found es t))
    go (yes! q k) = rw q (same (eqb→eq e.stamp t k))
    go (no! q k) = rw q (other (λ h. T_not (eqb e.stamp t) k (rw h (eqb_refl t))))

has_cons : (e : Event) (es : List Event) (t : ℕ) → T (has (found es t)) → T (has (found (e ∷ es) t))
has_cons e es t h = found_cases (λ o. T (has o)) e es t (λ q. tt) (λ q. h)

has_here : (e : Event) (es : List Event) → T (has (found (e ∷ es) e.stamp))
has_here e es = found_cases (λ o. T (has o)) e es e.stamp (λ q. tt) (λ q. absurd (q refl))

-- one past the latest, of one event more
pub past_cons : (e : Event) (es : List Event) (t : ℕ) → past_latest (found (e ∷ es)) t ≡ passed t e.stamp (past_latest (found es) t)
past_cons e es t = go (look (ltb e.stamp t))
  where
    z : ℕ
    z = past_latest (found es) t

    go : Is (ltb e.stamp t) → past_latest (found (e ∷ es)) t ≡ cond (ltb e.stamp t) (max (suc e.stamp) (past_latest (found es) t)) (past_latest (found es) t)
    go (yes! q k) =
        let l = ltb→lt e.stamp t k in
        let u = past_le (found es) t in
        rw q
        (past_is (found (e ∷ es)) t (max (suc e.stamp) (past_latest (found es) t)) (omega arith)
        (λ p i. found_cases (λ o. T (has o) → p < max (suc e.stamp) (past_latest (found es) t)) e es p (λ j h. omega arith) (λ j h. let w = past_max (found es) t p i h in omega arith))
        (λ w. top (dec_le (past_latest (found es) t) (suc e.stamp))))
      where
        top : Dec (past_latest (found es) t ≤ suc e.stamp) → T (has (found (e ∷ es) (pred (max (suc e.stamp) (past_latest (found es) t)))))
        top (yes d) = let w : pred (max (suc e.stamp) (past_latest (found es) t)) ≡ e.stamp = omega arith in rw w (has_here e es)
        top (no d) = let w : max (suc e.stamp) (past_latest (found es) t) ≡ past_latest (found es) t = omega arith in rw w (has_cons e es (pred (past_latest (found es) t)) (past_hit (found es) t (omega arith)))
    go (no! q k) =
        let l = nltb→le e.stamp t k in
        rw q
        (past_is (found (e ∷ es)) t (past_latest (found es) t) (past_le (found es) t)
        (λ p i. found_cases (λ o. T (has o) → p < past_latest (found es) t) e es p (λ j h. absurd (omega arith)) (λ j h. past_max (found es) t p i h))
        (λ w. has_cons e es (pred (past_latest (found es) t)) (past_hit (found es) t w)))

pub past_none : (t : ℕ) → past_latest (found []) t ≡ 0
unfolding past_latest
past_none zero = refl
past_none (suc t) = past_none t

-- what a stream has one below a stamp
abbrev below : Stream → ℕ → Option ℤ
below f zero = None
below f (suc p) = f p

latest_past : (f : Stream) (t : ℕ) → latest f t ≡ below f (past_latest f t)
unfolding latest past_latest
latest_past f zero = refl
latest_past f (suc t) = go (f t) refl (latest_past f t)
  where
    go : (o : Option ℤ) → f t ≡ o → latest f t ≡ below f (past_latest f t) → latest f (suc t) ≡ below f (past_latest f (suc t))
    go None e ih = rw (e, latest, past_latest) ih
    go (Some x) e ih = rw (e, latest, past_latest) (sym e)

-- z is one past the latest event
pub latest_none : (f : Stream) (t z : ℕ) → z ≡ past_latest f t → z ≡ 0 → None ≡ latest f t
latest_none f t z e q = sym (latest_past f t ∙ ap (below f) (sym e ∙ q))

pub latest_some : (f : Stream) (t z : ℕ) → z ≡ past_latest f t → (z ≡ 0 → ⊥) → f (z - 1) ≡ latest f t
latest_some f t z e q = let p : z ≡ suc (z - 1) = omega arith in sym (latest_past f t ∙ ap (below f) (sym e ∙ p))
