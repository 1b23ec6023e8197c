-- A delay's own held events stay below `since`: when events are let go, when an event is told, when the stream is written.
use Prim.Native.Nat.{ℕ, ◌+◌, ◌≤◌}
use mathlib.Core.Path.{◌≡◌, refl, ap}
use mathlib.Core.Bool.{Bool, true, false, cond, ◌&&◌}
use Rattle.std.specs.Prelude.{None}
use mathlib.Core.List.{List}
use native.Mathlib.Omega.{arith}
use lib.Dec.{T, leb, ltb, eqb}
use lib.IntN.{ℤ}
use borrow.Author.Tests.{leb-true}
use Rattle.meaning.specs.Plan.{Eqn, input, nil, unit, one, two, last, delay, signal, window}
use Rattle.meaning.specs.Events.{Event}
use Rattle.machine.specs.State.{Kept, Cell, with_held, with_kept, with_since, with_value}
use Rattle.machine.specs.Reach.{view}
use Rattle.machine.specs.Step.{later, absorb, value_told, prior_told, since_told, kept_told, told, drop_below}
use Rattle.machine.proofs.Window.{past_max}
use Rattle.operators.specs.Operators.{eqn_group, is_delay}
use Rattle.encoding.specs.Sound.{Rising, Own}
use Rattle.encoding.proofs.Points.{held_below}
use Rattle.preserve.proofs.Rising.{rising_top, rising_drop, rising_past}

-- ---- let go

pub dropped_own : (w : ℕ) (c : Cell) (b : Bool) → Own c → Own (with_held (cond b (drop_below w c.held) c.held) c)
dropped_own w c true own d = rising_drop w 0 c.kept.since c.held (own d)
dropped_own w c false own d = own d

-- ---- told

pub and_true : (p q : Bool) → (p && q) ≡ true → (p ≡ true) × (q ≡ true)
and_true true q e = (refl, e)
and_true false q e = let z : ◌≡◌ {A = ℕ} 0 1 = ap (λ (b : Bool). cond b 1 0) e in absurd (omega arith)

-- `since` never falls
since_up : (p : Bool) (y t : ℕ) (k : Kept) → k.since ≤ (since_told p y t k).since
since_up p y t k = go (p && leb k.since t) refl
  where
    go : (b : Bool) → (p && leb k.since t) ≡ b → k.since ≤ (cond b (with_since (t + 1) (with_value (cond (eqb y (t + 1)) k.prior None) k)) k).since
    go true e = let h = leb-true k.since t (and_true p (leb k.since t) e).1 in omega arith
    go false e = omega arith

told_own : (e : Eqn) (s y t : ℕ) (v : ℤ) (k : Kept) (es : List Event) → (T (is_delay (eqn_group e)) → Rising 0 k.since es) → T (is_delay (eqn_group e)) → Rising 0 (kept_told e s y t v k).since es
told_own input s y t v k es own d = absurd d
told_own nil s y t v k es own d = absurd d
told_own unit s y t v k es own d = absurd d
told_own (one f a) s y t v k es own d = absurd d
told_own (two g a b) s y t v k es own d = absurd d
told_own (last a b) s y t v k es own d = absurd d
told_own (delay a b) s y t v k es own d =
    let x = prior_told (eqb a s) y t v (value_told (eqb a s) t v k) in
    rising_top 0 k.since (since_told (eqb b s) y t x).since es (since_up (eqb b s) y t x) (own d)
told_own (signal c a b) s y t v k es own d = absurd d
told_own (window f n a) s y t v k es own d = absurd d

pub own_told : (s t : ℕ) (v : ℤ) (c : Cell) → Own c → Own (told s t v c)
unfolding told
own_told s t v c own = go (ltb t c.bound)
  where
    go : (b : Bool) → Own (with_kept (cond b (kept_told c.eqn s c.bound t v c.kept) c.kept) c)
    go true d = told_own c.eqn s c.bound t v c.kept c.held own d
    go false d = own d

-- ---- written: the new event counts in `since` with the others

pub absorb_own : (e : Eqn) (o a b : Cell) → Rising 0 o.bound o.held → T (is_delay (eqn_group e)) → Rising 0 (absorb e o a b).since o.held
absorb_own input o a b r d = absurd d
absorb_own nil o a b r d = absurd d
absorb_own unit o a b r d = absurd d
absorb_own (one f _) o a b r d = absurd d
absorb_own (two g _ _) o a b r d = absurd d
absorb_own (last _ _) o a b r d = absurd d
absorb_own (signal c _ _) o a b r d = absurd d
absorb_own (window f k _) o a b r d = absurd d
absorb_own (delay _ _) o a b r d =
    rising_past 0 o.bound (later o b) o.held r (omega arith)
    (λ p k. let m = past_max (view o) o.bound p (held_below 0 o.bound o.held r p k) k in omega arith)
