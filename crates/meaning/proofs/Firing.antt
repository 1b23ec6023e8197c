-- A delay fires at t exactly if it does so from some set point before.
use mathlib.Core.Path.{◌≡◌}
use mathlib.Core.Logic.{◌⊎◌, inl, inr}
use mathlib.Core.Bool.{Bool, not, ◌&&◌, ◌||◌}
use Prim.Native.Nat.{ℕ, zero, suc, ◌-◌, ◌<◌}
use native.Mathlib.Nat.{lt-suc_self, not-suc-le-zero}
use native.Mathlib.Omega.{arith}
use native.Mathlib.Decide.{dec_lt}
use lib.Dec.{T, ltb, ltb→lt, lt→ltb, T_not, not_T}
use Rattle.meaning.specs.Events.{Stream, has}
use Rattle.meaning.specs.Table.{any_below, is, fires}
use Rattle.meaning.proofs.Tests.{T-or, T-or-l, T-or-r, T_and, T-and-l, T-and-r}

-- some stamp below t passes the test
pub any_hit : (t : ℕ) (f : ℕ → Bool) → T (any_below t f) → (p : ℕ) × (p < t) × T (f p)
unfolding any_below
any_hit zero f h = absurd h
any_hit (suc t) f h = go (T-or (f t) (any_below t f) h) (any_hit t f)
  where
    go : T (f t) ⊎ T (any_below t f) → (T (any_below t f) → (p : ℕ) × (p < t) × T (f p)) → (p : ℕ) × (p < suc t) × T (f p)
    go (inl k) ih = (t, lt-suc_self t, k)
    go (inr k) ih = let r = ih k in let l = r.1 in (r.0, omega arith, r.2)

pub any_put : (t : ℕ) (f : ℕ → Bool) (p : ℕ) → p < t → T (f p) → T (any_below t f)
unfolding any_below
any_put zero f p l h = absurd (not-suc-le-zero l)
any_put (suc t) f p l h = go (dec_lt p t) (λ m. any_put t f p m h)
  where
    go : Dec (p < t) → (p < t → T (any_below t f)) → T (f t || any_below t f)
    go (yes m) ih = T-or-r (f t) _ (ih m)
    go (no m) ih = let e : p ≡ t = omega arith in T-or-l (f t) _ (rw e at h)

-- A delay fires at t from p
pub record Fires (a b d : Stream) (t p : ℕ) : Type 0 where
  pub before : p < t
  pub set : T (has (b p) || has (d p))
  pub value : T (is (t - p) (a p))
  pub quiet : (q : ℕ) → p < q → q < t → T (not (has (b q)))

pub fires_from : (a b d : Stream) (t : ℕ) → T (fires a b d t) → (p : ℕ) × Fires a b d t p
unfolding fires
fires_from a b d t h =
    let r = any_hit t _ h in
    let p = r.0 in
    let k = T-and-l ((has (b p) || has (d p)) && is (t - p) (a p)) _ r.2 in
    let n = T-and-r ((has (b p) || has (d p)) && is (t - p) (a p)) _ r.2 in
    let f : ℕ → Bool = λ q. ltb p q && has (b q) in (
      p,
      record {
        before = r.1;
        set = T-and-l (has (b p) || has (d p)) _ k;
        value = T-and-r (has (b p) || has (d p)) _ k;
        quiet = λ q l m. not_T (has (b q)) (λ y. T_not (any_below t f) n (any_put t f q m (T_and (ltb p q) (has (b q)) (lt→ltb p q l) y)));
      },
    )

pub fires_at : (a b d : Stream) (t p : ℕ) → Fires a b d t p → T (fires a b d t)
unfolding fires
fires_at a b d t p h =
    let f : ℕ → Bool = λ q. ltb p q && has (b q) in
    any_put t _ p h.before (T_and ((has (b p) || has (d p)) && is (t - p) (a p)) _ (T_and (has (b p) || has (d p)) _ h.set h.value)
    (not_T (any_below t f) (λ y. let r = any_hit t f y in let q = r.0 in
    T_not (has (b q)) (h.quiet q (ltb→lt p q (T-and-l (ltb p q) (has (b q)) r.2)) r.1) (T-and-r (ltb p q) (has (b q)) r.2))))
