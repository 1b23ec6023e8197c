-- Held events by rising stamp, each with a value: another top, one more event, the oldest let go.
use Prim.Native.Nat.{ℕ, suc, ◌<◌, ◌≤◌}
use mathlib.Core.Bool.{Bool, true, false, cond}
use Rattle.std.specs.Prelude.{Some}
use mathlib.Core.List.{List, [], ◌∷◌, ◌++◌}
use native.Mathlib.Omega.{arith}
use lib.Dec.{T, ltb, eqb}
use lib.IntN.{ℤ}
use Rattle.meaning.specs.Events.{Event, ev, found, has}
use Rattle.meaning.proofs.Tests.{eqb_self}
use Rattle.machine.specs.Step.{drop_below}
use Rattle.encoding.specs.Sound.{IsValue, Rising}

pub rising_top : (lo top y : ℕ) (es : List Event) → top ≤ y → Rising lo top es → Rising lo y es
rising_top lo top y [] h r = omega arith
rising_top lo top y (e ∷ es) h r = (r.0, r.1, rising_top (suc e.stamp) top y es h r.2)

pub rising_low : (lo lo' top : ℕ) (es : List Event) → lo' ≤ lo → Rising lo top es → Rising lo' top es
rising_low lo lo' top [] h r = omega arith
rising_low lo lo' top (e ∷ es) h r = let q = r.0 in (omega arith, r.1, r.2)

pub rising_snoc : (lo top t : ℕ) (v : ℤ) (es : List Event) → top ≤ t → IsValue v → Rising lo top es → Rising lo (suc t) (es ++ ev t v ∷ [])
rising_snoc lo top t v [] h k r = (omega arith, k, omega arith)
rising_snoc lo top t v (e ∷ es) h k r = (r.0, r.1, rising_snoc (suc e.stamp) top t v es h k r.2)

pub rising_drop : (w lo top : ℕ) (es : List Event) → Rising lo top es → Rising lo top (drop_below w es)
unfolding drop_below
rising_drop w lo top [] r = r
rising_drop w lo top (e ∷ es) r = go (ltb e.stamp w) (rising_drop w (suc e.stamp) top es r.2)
  where
    go : (b : Bool) → Rising (suc e.stamp) top (drop_below w es) → Rising lo top (cond b (drop_below w es) (e ∷ es))
    go true h = let q = r.0 in rising_low (suc e.stamp) lo top (drop_below w es) (omega arith) h
    go false h = r

-- the least top that is past every event
pub rising_past : (lo top z : ℕ) (es : List Event) → Rising lo top es → lo ≤ z → ((p : ℕ) → T (has (found es p)) → p < z) → Rising lo z es
rising_past lo top z [] r l h = l
rising_past lo top z (e ∷ es) r l h =
    (r.0, r.1, rising_past (suc e.stamp) top z es r.2 (h e.stamp (rw (eqb_self e.stamp) tt)) (λ p k. h p (later_has (eqb e.stamp p) p k)))
  where
    later_has : (b : Bool) (p : ℕ) → T (has (found es p)) → T (has (cond b (Some e.value) (found es p)))
    later_has true p k = tt
    later_has false p k = k
