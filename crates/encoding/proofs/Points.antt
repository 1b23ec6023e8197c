-- The definition of a delay agrees with itself: its own held events are set points, and what is kept counts them.
use Prim.Native.Nat.{ℕ, suc, pred, ◌≤◌, ◌<◌, max}
use mathlib.Core.Path.{◌≡◌, refl}
use mathlib.Core.List.{List, [], ◌∷◌}
use native.Mathlib.Omega.{arith}
use native.Mathlib.Decide.{dec_lt}
use lib.Dec.{T, eqb, eqb→eq}
use lib.ListN.{length}
use Rattle.meaning.specs.Plan.{Eqn, input, nil, unit, one, two, last, delay, signal, window}
use Rattle.meaning.specs.Events.{Event, found, has}
use Rattle.meaning.proofs.Tests.{Is, yes!, no!, look}
use Rattle.machine.specs.State.{Cell, State, cell_at}
use Rattle.machine.specs.Reach.{view, past_latest, point, reach}
use Rattle.machine.specs.Greatest.{HeldFixes, OwnKept}
use Rattle.machine.proofs.Window.{past_hit}
use Rattle.machine.proofs.Greatest.{reach_fixed}
use Rattle.operators.specs.Operators.{eqn_group, is_delay}
use Rattle.encoding.specs.Sound.{Rising, Own, Sound}
use Rattle.encoding.proofs.Widths.{rising_le}

pub held_below : (lo top : ℕ) (es : List Event) → Rising lo top es → (p : ℕ) → T (has (found es p)) → p < top
held_below lo top [] r p h = absurd h
held_below lo top (e ∷ es) r p h = go (look (eqb e.stamp p)) (held_below (suc e.stamp) top es r.2 p)
  where
    go : Is (eqb e.stamp p) → (T (has (found es p)) → p < top) → p < top
    go (yes! q x) later = let s = eqb→eq e.stamp p x in let l = rising_le (suc e.stamp) top es r.2 in omega arith
    go (no! q x) later = later (rw q at h)

pub past_held : (top : ℕ) (es : List Event) → Rising 0 top es → (t : ℕ) → past_latest (found es) t ≤ top
past_held top es r t = go (dec_lt 0 (past_latest (found es) t))
  where
    go : Dec (0 < past_latest (found es) t) → past_latest (found es) t ≤ top
    go (yes h) = let l = held_below 0 top es r (pred (past_latest (found es) t)) (past_hit (found es) t h) in omega arith
    go (no h) = omega arith

-- in a sound state the latest set point is the same with the delay's own held events counted
pub point_own : {cap : ℕ} (M : State) (s : ℕ) (b : Cell) (t : ℕ) → Sound cap M → s < length M → T (is_delay (eqn_group (cell_at M s).eqn))
    → point (cell_at M s) b t ≡ max (cell_at M s).kept.since (max (past_latest (view b) t) (past_latest (view (cell_at M s)) t))
unfolding point
point_own M s b t ok l d = let h = past_held (cell_at M s).kept.since (cell_at M s).held (ok.own s l d) t in omega arith

-- so its own held events are among those that the reach is the greatest for (machine, `reach_fixed`)
pub own_kept : (e : Eqn) (c : Cell) → c.eqn ≡ e → Own c → OwnKept e c
own_kept input c q h = tt
own_kept nil c q h = tt
own_kept unit c q h = tt
own_kept (one f a) c q h = tt
own_kept (two g a b) c q h = tt
own_kept (last a b) c q h = tt
own_kept (delay a b) c q h = held_below 0 c.kept.since c.held (h (rw q tt))
own_kept (signal g a b) c q h = tt
own_kept (window f k a) c q h = tt

-- in a sound state the reach of every equation is fixed by its arguments, its own held events counted, if it is above its bound
pub sound_reach_fixed : {cap : ℕ} (M : State) (s : ℕ) (a b : Cell) → Sound cap M → s < length M
    → let o = cell_at M s in o.bound < reach o.eqn o a b → HeldFixes o.eqn o a b (reach o.eqn o a b)
sound_reach_fixed M s a b ok l h = let o = cell_at M s in reach_fixed o.eqn o a b (own_kept o.eqn o refl (ok.own s l)) h
