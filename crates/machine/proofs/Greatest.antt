-- The reach is the greatest bound that the arguments fix, on held events and what is kept, or the present bound if that is
-- greater.
use mathlib.Core.Path.{◌≡◌}
use mathlib.Core.Logic.{inl, inr}
use mathlib.Core.Bool.{Bool, false}
use mathlib.Core.List.{[]}
use Prim.Native.Nat.{ℕ, suc, pred, ◌+◌, ◌-◌, ◌≤◌, ◌<◌, min, max}
use native.Mathlib.Omega.{arith}
use native.Mathlib.Decide.{dec_lt, dec_le}
use lib.Dec.{T, ltb, lt→ltb, ltb→lt, nltb→le}
use Rattle.meaning.specs.Plan.{Eqn, input, nil, unit, one, two, last, delay, signal, window}
use Rattle.meaning.specs.Events.{has, horizon}
use Rattle.meaning.proofs.Tests.{T_and, T-and-l, T-and-r}
use Rattle.machine.specs.State.{Cell}
use Rattle.machine.specs.Reach.{view, past_latest, least, point, stops, reach}
use Rattle.machine.specs.Greatest.{HeldPoint, HeldFixes, OwnKept}
use Rattle.machine.proofs.Search.{least_ge, least_le, least_before, least_hit, least_min}
use Rattle.machine.proofs.Window.{past_le, past_max, past_hit}

-- a reach that is found at the end of the search, or where it is stopped
module _ (f : ℕ → Bool) (y l : ℕ) where
  search_le : (k : ℕ) → k ≤ l → ((t : ℕ) → y ≤ t → T (f t) → k ≤ t) → k ≤ least f y (l - y)
  search_le k m h = go (dec_lt (least f y (l - y)) (y + (l - y)))
    where
      go : Dec (least f y (l - y) < y + (l - y)) → k ≤ least f y (l - y)
      go (yes d) = h (least f y (l - y)) (least_ge f y (l - y)) (least_hit f y (l - y) d)
      go (no d) = omega arith

  search_within : y < least f y (l - y) → least f y (l - y) ≤ l
  search_within h = let k = least_le f y (l - y) in omega arith

-- so it is where nothing is held
pub own_kept_none : (e : Eqn) (o : Cell) → o.held ≡ [] → OwnKept e o
own_kept_none input o q = tt
own_kept_none nil o q = tt
own_kept_none unit o q = tt
own_kept_none (one f x) o q = tt
own_kept_none (two g x z) o q = tt
own_kept_none (last x z) o q = tt
own_kept_none (delay x z) o q = λ p h. absurd (rw q at h)
own_kept_none (signal c x z) o q = tt
own_kept_none (window f n x) o q = tt

-- one past a set point below t is counted
point_counts : (o b : Cell) → ((p : ℕ) → T (has (view o p)) → p < o.kept.since) → (p t : ℕ) → HeldPoint o b p → p < t → p < point o b t
unfolding point
point_counts o b own p t (inl e) l = omega arith
point_counts o b own p t (inr (inl h)) l = let k = past_max (view b) t p l h in omega arith
point_counts o b own p t (inr (inr h)) l = let k = own p h in omega arith

-- and what is counted is one past a set point
point_set : (o b : Cell) (t : ℕ) → 0 < point o b t → HeldPoint o b (pred (point o b t))
unfolding point
point_set o b t h = go (dec_le (past_latest (view b) t) o.kept.since)
  where
    go : Dec (past_latest (view b) t ≤ o.kept.since) → HeldPoint o b (pred (max o.kept.since (past_latest (view b) t)))
    go (yes d) = inl (omega arith)
    go (no d) = let e : max o.kept.since (past_latest (view b) t) ≡ past_latest (view b) t = omega arith in rw e (inr (inl (past_hit (view b) t (omega arith))))

point_le : (o b : Cell) (t : ℕ) → o.kept.since ≤ t → point o b t ≤ t
unfolding point
point_le o b t l = let k = past_le (view b) t in omega arith

-- above the present bound the reach is allowed
pub reach_fixed : (e : Eqn) (o a b : Cell) → OwnKept e o → o.bound < reach e o a b → HeldFixes e o a b (reach e o a b)
unfolding reach
reach_fixed input o a b own h = search_within (λ t. false) o.bound o.bound h
reach_fixed nil o a b own h = search_within (λ t. false) o.bound horizon h
reach_fixed unit o a b own h = search_within (λ t. false) o.bound horizon h
reach_fixed (one f x) o a b own h = search_within (λ t. false) o.bound a.bound h
reach_fixed (two g x z) o a b own h = let k = search_within (λ t. false) o.bound (min a.bound b.bound) h in (omega arith, omega arith)
reach_fixed (signal c x z) o a b own h = let k = search_within (λ t. false) o.bound (min a.bound b.bound) h in (omega arith, omega arith)
reach_fixed (window f n x) o a b own h = search_within (λ t. false) o.bound a.bound h
reach_fixed (last x z) o a b own h = (
  search_within (stops (last x z) o a b) o.bound b.bound h,
  λ t i l m. least_min (stops (last x z) o a b) o.bound (b.bound - o.bound) t l (T_and (has (view b t)) (ltb a.bound t) i (lt→ltb a.bound t m)),
)
reach_fixed (delay x z) o a b own h =
    let f : ℕ → Bool = stops (delay x z) o a b in
    let n = min (suc b.bound) horizon in
    let r = least f o.bound (n - o.bound) in
    let k = search_within f o.bound n h in (
      omega arith,
      omega arith,
      λ p s l.
          let c = point_counts o b own p (pred r) s (omega arith) in
          let d = nltb→le a.bound (point o b (pred r)) (least_before f o.bound (n - o.bound) (pred r) (omega arith) (omega arith)) in
          omega arith,
    )

-- and nothing greater is
pub reach_greatest : (e : Eqn) (o a b : Cell) → o.kept.since ≤ o.bound → (k : ℕ) → HeldFixes e o a b k → k ≤ reach e o a b
unfolding reach
reach_greatest input o a b s k h = search_le (λ t. false) o.bound o.bound k h (λ t l i. absurd i)
reach_greatest nil o a b s k h = search_le (λ t. false) o.bound horizon k h (λ t l i. absurd i)
reach_greatest unit o a b s k h = search_le (λ t. false) o.bound horizon k h (λ t l i. absurd i)
reach_greatest (one f x) o a b s k h = search_le (λ t. false) o.bound a.bound k h (λ t l i. absurd i)
reach_greatest (two g x z) o a b s k h = let u = h.0 in let v = h.1 in search_le (λ t. false) o.bound (min a.bound b.bound) k (omega arith) (λ t l i. absurd i)
reach_greatest (signal c x z) o a b s k h = let u = h.0 in let v = h.1 in search_le (λ t. false) o.bound (min a.bound b.bound) k (omega arith) (λ t l i. absurd i)
reach_greatest (window f n x) o a b s k h = search_le (λ t. false) o.bound a.bound k h (λ t l i. absurd i)
reach_greatest (last x z) o a b s k h =
    search_le (stops (last x z) o a b) o.bound b.bound k h.0 (λ t l i.
    h.1 t (T-and-l (has (view b t)) (ltb a.bound t) i) l (ltb→lt a.bound t (T-and-r (has (view b t)) (ltb a.bound t) i)))
reach_greatest (delay x z) o a b s k h =
    let u = h.0 in let v = h.1 in
    search_le (stops (delay x z) o a b) o.bound (min (suc b.bound) horizon) k (omega arith) (λ t l i.
    let m = ltb→lt a.bound (point o b t) i in
    go t l m (dec_le k t))
  where
    go : (t : ℕ) → o.bound ≤ t → a.bound < point o b t → Dec (k ≤ t) → k ≤ t
    go t l m (yes d) = d
    go t l m (no d) =
        let w = point_le o b t (omega arith) in
        let q = h.2 (pred (point o b t)) (point_set o b t (omega arith)) (omega arith) in
        absurd (omega arith)
