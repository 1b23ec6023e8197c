-- The searches of a move as code does them: over the held events, and not over all stamps.
use mathlib.Core.Path.{◌≡◌, refl, subst}
use mathlib.Core.Logic.{◌⊎◌, inl, inr}
use mathlib.Core.Bool.{Bool, true, false, not, cond, ◌&&◌, ◌||◌}
use Rattle.std.specs.Prelude.{Option, None, Some}
use mathlib.Core.List.{List, [], ◌∷◌, ◌++◌, map}
use Prim.Native.Nat.{ℕ, zero, suc, pred, ◌+◌, ◌-◌, ◌≤◌, ◌<◌, max}
use native.Mathlib.Omega.{arith}
use native.Mathlib.Decide.{dec_lt, dec_le}
use lib.Dec.{T, leb, ltb, eqb, leb→le, ltb→lt, eqb→eq, le→leb, lt→ltb, eqb_refl, not_T, T_not}
use lib.IntN.{ℤ, pos, negsuc}
use Rattle.meaning.specs.Plan.{Unary, Binary, Calc, Fold, calc, keep, merge, Eqn, input, nil, unit, one, two, last, delay, signal, window}
use Rattle.meaning.specs.Events.{Event, found, has, or_else}
use Rattle.meaning.specs.Table.{one_at, two_at, unit_at, last_at, signal_at, window_at_lem, is, delay_at}
use Rattle.meaning.proofs.Tests.{Is, yes!, no!, look, T_and, T-and-l, T-and-r, T-or, T-or-l, T-or-r}
use Rattle.machine.specs.State.{Cell}
use Rattle.machine.specs.Reach.{view, past_latest, least, limit, point, stops, reach, due, gives, first}
use Rattle.machine.proofs.Search.{least_ge, least_is}
use Rattle.machine.proofs.Window.{past_le, past_max, past_hit}
use Rattle.events.specs.Near.{size}
use Rattle.decide.specs.Search.{pick, stamps, due_at, wanted, halts}

-- some number of the list passes the test
abbrev any : (ℕ → Bool) → List ℕ → Bool
any f [] = false
any f (x ∷ xs) = f x || any f xs

module _ (f : ℕ → Bool) (lo hi : ℕ) where
  pick_cases : (P : ℕ → Type 0) (c : ℕ) (cs : List ℕ) → (lo ≤ c → c < pick f lo hi cs → T (f c) → P c) → (T (not (leb lo c && ltb c (pick f lo hi cs) && f c)) → P (pick f lo hi cs)) → P (pick f lo hi (c ∷ cs))
  unfolding pick
  pick_cases P c cs yes-case no-case = go (look (leb lo c && ltb c (pick f lo hi cs) && f c))
    where
      q : ℕ
      q = pick f lo hi cs

      go : Is (leb lo c && ltb c q && f c) → P (cond (leb lo c && ltb c q && f c) c q)
      go (yes! e t) =
          let u = T-and-l (leb lo c && ltb c q) (f c) t in
          rw e (yes-case (leb→le lo c (T-and-l (leb lo c) (ltb c q) u)) (ltb→lt c q (T-and-r (leb lo c) (ltb c q) u)) (T-and-r (leb lo c && ltb c q) (f c) t))
      go (no! e t) = rw e (no-case t)

  pub pick_le : (cs : List ℕ) → pick f lo hi cs ≤ hi
  unfolding pick
  pick_le [] = omega arith
  pick_le (c ∷ cs) = let h = pick_le cs in pick_cases (λ n. n ≤ hi) c cs (λ a b t. omega arith) (λ t. h)

  pick_ge : lo ≤ hi → (cs : List ℕ) → lo ≤ pick f lo hi cs
  unfolding pick
  pick_ge l [] = l
  pick_ge l (c ∷ cs) = let h = pick_ge l cs in pick_cases (λ n. lo ≤ n) c cs (λ a b t. a) (λ t. h)

  pick_hit : (cs : List ℕ) → (pick f lo hi cs ≡ hi) ⊎ T (f (pick f lo hi cs))
  unfolding pick
  pick_hit [] = inl refl
  pick_hit (c ∷ cs) = let h = pick_hit cs in pick_cases (λ n. (n ≡ hi) ⊎ T (f n)) c cs (λ a b t. inr t) (λ t. h)

  pick_min : (cs : List ℕ) (c : ℕ) → T (any (eqb c) cs) → lo ≤ c → T (f c) → pick f lo hi cs ≤ c
  unfolding pick
  pick_min [] c m l t = absurd m
  pick_min (d ∷ cs) c m l t = go (T-or (eqb c d) (any (eqb c) cs) m) (λ m. pick_min cs c m l t)
    where
      go : T (eqb c d) ⊎ T (any (eqb c) cs) → (T (any (eqb c) cs) → pick f lo hi cs ≤ c) → pick f lo hi (d ∷ cs) ≤ c
      go (inr k) ih = let h = ih k in pick_cases (λ n. n ≤ c) d cs (λ a b u. omega arith) (λ u. h)
      go (inl k) ih =
          let e = eqb→eq c d k in
          pick_cases (λ n. n ≤ c) d cs (λ a b u. omega arith) (λ u. out (dec_le (pick f lo hi cs) c) u)
        where
          out : Dec (pick f lo hi cs ≤ c) → T (not (leb lo d && ltb d (pick f lo hi cs) && f d)) → pick f lo hi cs ≤ c
          out (yes h) u = h
          out (no h) u =
              let e = eqb→eq c d k in
              absurd (T_not (leb lo d && ltb d (pick f lo hi cs) && f d) u
              (T_and (leb lo d && ltb d (pick f lo hi cs)) (f d) (T_and (leb lo d) (ltb d (pick f lo hi cs)) (le→leb lo d (omega arith)) (lt→ltb d (pick f lo hi cs) (omega arith))) (rw e at t)))

  -- where the candidates are enough, that is the least
  pub pick_least : (cs : List ℕ) → lo ≤ hi → ((t : ℕ) → lo ≤ t → t < hi → T (f t) → (c : ℕ) × T (any (eqb c) cs) × (lo ≤ c) × (c ≤ t) × T (f c)) → least f lo (hi - lo) ≡ pick f lo hi cs
  pick_least cs l h =
      let a = pick_le cs in
      let b = pick_ge l cs in
      least_is f lo (hi - lo) (pick f lo hi cs) b (omega arith)
      (λ t i j. not_T (f t) (λ k. let x = h t i (omega arith) k in let y = pick_min cs x.0 x.1 x.2 x.4 in let z = x.3 in absurd (omega arith)))
      (end (pick_hit cs))
    where
      end : (pick f lo hi cs ≡ hi) ⊎ T (f (pick f lo hi cs)) → (pick f lo hi cs ≡ lo + (hi - lo)) ⊎ T (f (pick f lo hi cs))
      end (inl e) = inl (omega arith)
      end (inr t) = inr t

any_right : (c : ℕ) (xs ys : List ℕ) → T (any (eqb c) ys) → T (any (eqb c) (xs ++ ys))
any_right c [] ys h = h
any_right c (x ∷ xs) ys h = T-or-r (eqb c x) (any (eqb c) (xs ++ ys)) (any_right c xs ys h)

any_left : (c : ℕ) (xs ys : List ℕ) → T (any (eqb c) xs) → T (any (eqb c) (xs ++ ys))
any_left c [] ys h = absurd h
any_left c (x ∷ xs) ys h = go (T-or (eqb c x) (any (eqb c) xs) h) (λ k. any_left c xs ys k)
  where
    go : T (eqb c x) ⊎ T (any (eqb c) xs) → (T (any (eqb c) xs) → T (any (eqb c) (xs ++ ys))) → T (eqb c x || any (eqb c) (xs ++ ys))
    go (inl k) ih = T-or-l (eqb c x) (any (eqb c) (xs ++ ys)) k
    go (inr k) ih = T-or-r (eqb c x) (any (eqb c) (xs ++ ys)) (ih k)

found_in : (xs : List Event) (t : ℕ) → T (has (found xs t)) → T (any (eqb t) (stamps xs))
found_in [] t h = h
found_in (e ∷ es) t h = go (look (eqb e.stamp t)) (λ k. found_in es t k)
  where
    go : Is (eqb e.stamp t) → (T (has (found es t)) → T (any (eqb t) (stamps es))) → T (eqb t e.stamp || any (eqb t) (stamps es))
    go (yes! q k) ih = T-or-l (eqb t e.stamp) (any (eqb t) (stamps es)) (rw (eqb→eq e.stamp t k) (eqb_refl t))
    go (no! q k) ih = T-or-r (eqb t e.stamp) (any (eqb t) (stamps es)) (ih (rw q at h))

in_each : (g : ℕ → ℕ) (xs : List ℕ) (c : ℕ) → T (any (eqb c) xs) → T (any (eqb (g c)) (map g xs))
in_each g [] c h = h
in_each g (x ∷ xs) c h = go (T-or (eqb c x) (any (eqb c) xs) h) (λ k. in_each g xs c k)
  where
    go : T (eqb c x) ⊎ T (any (eqb c) xs) → (T (any (eqb c) xs) → T (any (eqb (g c)) (map g xs))) → T (eqb (g c) (g x) || any (eqb (g c)) (map g xs))
    go (inl k) ih = T-or-l (eqb (g c) (g x)) (any (eqb (g c)) (map g xs)) (rw (eqb→eq c x k) (eqb_refl (g x)))
    go (inr k) ih = T-or-r (eqb (g c) (g x)) (any (eqb (g c)) (map g xs)) (ih k)

is_size : (n : ℕ) (o : Option ℤ) → T (is n o) → size o ≡ n
is_size n None h = absurd h
is_size n (Some (pos m)) h = eqb→eq m n h
is_size n (Some (negsuc m)) h = absurd h

one_has : (f : Unary) (t : ℕ) (o : Option ℤ) → T (has (one_at f t o)) → T (has o)
unfolding one_at
one_has f t None h = h
one_has f t (Some x) h = tt

two_has : (g : Binary) (o p : Option ℤ) → T (has (two_at g o p)) → T (has o) ⊎ T (has p)
unfolding two_at
two_has g (Some x) p h = inl tt
two_has g None (Some y) h = inr tt
two_has (calc g) None None h = absurd h
two_has keep None None h = absurd h
two_has merge None None h = absurd h

signal_has : (c : Calc) (o p x y : Option ℤ) → T (has (signal_at c o p x y)) → T (has o) ⊎ T (has p)
unfolding signal_at
signal_has c (Some v) p x y h = inl tt
signal_has c None (Some w) x y h = inr tt
signal_has c None None x y h = absurd h

window_has : (f : Fold) (o : Option ℤ) (xs : List ℤ) → T (has (window_at_lem f o xs)) → T (has o)
unfolding window_at_lem
window_has f None xs h = h
window_has f (Some x) xs h = tt

last_has : (o v : Option ℤ) → T (has (last_at o v)) → T (has o)
unfolding last_at
last_has None v h = h
last_has (Some x) v h = tt

unit_has : (t : ℕ) → T (has (unit_at t)) → T (any (eqb t) (0 ∷ []))
unfolding unit_at
unit_has zero h = tt
unit_has (suc t) h = absurd h

delay_has : (b : Bool) → T (has (delay_at b)) → T b
unfolding delay_at
delay_has true h = tt
delay_has false h = h

-- one past a held event of b, or the kept set point
point_in : (o b : Cell) (t : ℕ) → T (any (eqb (point o b t)) (o.kept.since ∷ map suc (stamps b.held))) ⊎ (point o b t ≡ 0)
unfolding point
point_in o b t = go (dec_le (past_latest (view b) t) o.kept.since) (dec_lt 0 (past_latest (view b) t))
  where
    z : ℕ
    z = max o.kept.since (past_latest (view b) t)

    xs : List ℕ
    xs = map suc (stamps b.held)

    go : Dec (past_latest (view b) t ≤ o.kept.since) → Dec (0 < past_latest (view b) t) → T (eqb z o.kept.since || any (eqb z) xs) ⊎ (z ≡ 0)
    go (yes l) d = let e : z ≡ o.kept.since = omega arith in inl (T-or-l (eqb z o.kept.since) (any (eqb z) xs) (rw e (eqb_refl o.kept.since)))
    go (no l) (no d) = absurd (omega arith)
    go (no l) (yes d) =
        let e : suc (pred (past_latest (view b) t)) ≡ z = omega arith in
        let k = in_each suc (stamps b.held) (pred (past_latest (view b) t)) (found_in b.held (pred (past_latest (view b) t)) (past_hit (view b) t d)) in
        inl (T-or-r (eqb z o.kept.since) (any (eqb z) xs) (rw e at k))

-- where one of two streams holds an event
either_in : (a b : Cell) (t : ℕ) → T (has (view a t)) ⊎ T (has (view b t)) → T (any (eqb t) (stamps a.held ++ stamps b.held))
either_in a b t (inl k) = any_left t (stamps a.held) (stamps b.held) (found_in a.held t k)
either_in a b t (inr k) = any_right t (stamps a.held) (stamps b.held) (found_in b.held t k)

gives_in_lem : (e : Eqn) (o a b : Cell) (t : ℕ) → o.kept.since ≤ t → T (has (gives e o a b t)) → T (any (eqb t) (wanted e o a b))
gives_in_lem input o a b t l h = h
gives_in_lem nil o a b t l h = h
gives_in_lem unit o a b t l h = unit_has t h
gives_in_lem (one f _) o a b t l h = found_in a.held t (one_has f t (view a t) h)
gives_in_lem (two g _ _) o a b t l h = either_in a b t (two_has g (view a t) (view b t) h)
gives_in_lem (signal c _ _) o a b t l h = either_in a b t (signal_has c (view a t) (view b t) _ _ h)
gives_in_lem (window f k _) o a b t l h = found_in a.held t (window_has f (view a t) _ h)
gives_in_lem (last _ _) o a b t l h = found_in b.held t (last_has (view b t) _ h)
gives_in_lem (delay _ _) o a b t l h = go (point_in o b t)
  where
    z : ℕ
    z = point o b t

    v : Option ℤ
    v = or_else (view a (pred z)) (cond (eqb z o.kept.since) o.kept.value None)

    fired : T (ltb 0 z && is (t - pred z) v)
    fired = delay_has (due o a z t) h

    below : z ≤ t
    below = unfold point in let k = past_le (view b) t in omega arith

    zs : List ℕ
    zs = o.kept.since ∷ map suc (stamps b.held)

    go : T (any (eqb z) zs) ⊎ (z ≡ 0) → T (any (eqb t) (map (due_at o a) zs))
    go (inr e) = let k = ltb→lt 0 z (T-and-l (ltb 0 z) (is (t - pred z) v) fired) in absurd (omega arith)
    go (inl k) =
        let n = is_size (t - pred z) v (T-and-r (ltb 0 z) (is (t - pred z) v) fired) in
        let p = ltb→lt 0 z (T-and-l (ltb 0 z) (is (t - pred z) v) fired) in
        let e : due_at o a z ≡ t = omega (arith, below) in
        subst (λ (x : ℕ). T (any (eqb x) (map (due_at o a) zs))) e (in_each (due_at o a) zs z k)

-- the first event's stamp, over the held events alone
pub first_pick : (e : Eqn) (o a b : Cell) → o.kept.since ≤ o.bound → first e o a b ≡ pick (λ t. has (gives e o a b t)) o.bound (reach e o a b) (wanted e o a b)
unfolding first
first_pick e o a b l =
    pick_least (λ t. has (gives e o a b t)) o.bound (reach e o a b) (wanted e o a b) (unfold reach in least_ge (stops e o a b) o.bound (limit e o a b - o.bound))
    (λ t i j k. (t, gives_in_lem e o a b t (omega arith) k, i, omega arith, k))

delay_stop : (o a b : Cell) (t : ℕ) → o.bound ≤ t → T (ltb a.bound (point o b t))
    → (c : ℕ) × T (eqb c o.bound || any (eqb c) (map suc (stamps b.held))) × (o.bound ≤ c) × (c ≤ t) × T (ltb a.bound (point o b c))
unfolding point
delay_stop o a b t l h = go (dec_lt a.bound o.kept.since) (dec_le (past_latest (view b) t) o.bound)
  where
    y : ℕ
    y = o.bound

    n : ℕ
    n = past_latest (view b) t

    xs : List ℕ
    xs = map suc (stamps b.held)

    over : a.bound < max o.kept.since n
    over = ltb→lt a.bound (max o.kept.since n) h

    here : T (eqb y y || any (eqb y) xs)
    here = T-or-l (eqb y y) (any (eqb y) xs) (eqb_refl y)

    go : Dec (a.bound < o.kept.since) → Dec (n ≤ y)
        → (c : ℕ) × T (eqb c y || any (eqb c) xs) × (y ≤ c) × (c ≤ t) × T (ltb a.bound (max o.kept.since (past_latest (view b) c)))
    go (yes k) d = (y, here, omega arith, l, lt→ltb a.bound (max o.kept.since (past_latest (view b) y)) (omega arith))
    go (no k) (yes d) =
        let m = past_max (view b) y (pred n) (omega (arith, over)) (past_hit (view b) t (omega (arith, over))) in
        (y, here, omega arith, l, lt→ltb a.bound (max o.kept.since (past_latest (view b) y)) (omega (arith, over)))
    go (no k) (no d) =
        let hit = past_hit (view b) t (omega arith) in
        let e : suc (pred n) ≡ n = omega arith in
        let m = past_max (view b) n (pred n) (omega arith) hit in
        let i = in_each suc (stamps b.held) (pred n) (found_in b.held (pred n) hit) in
        (n, T-or-r (eqb n y) (any (eqb n) xs) (rw e at i), omega arith, past_le (view b) t, lt→ltb a.bound (max o.kept.since (past_latest (view b) n)) (omega (arith, over)))

stop_in : (e : Eqn) (o a b : Cell) (t : ℕ) → o.bound ≤ t → T (stops e o a b t) → (c : ℕ) × T (any (eqb c) (halts e o a b)) × (o.bound ≤ c) × (c ≤ t) × T (stops e o a b c)
stop_in input o a b t l h = absurd h
stop_in nil o a b t l h = absurd h
stop_in unit o a b t l h = absurd h
stop_in (one f _) o a b t l h = absurd h
stop_in (two g _ _) o a b t l h = absurd h
stop_in (last _ _) o a b t l h = (t, found_in b.held t (T-and-l (has (view b t)) (ltb a.bound t) h), l, omega arith, h)
stop_in (delay _ _) o a b t l h = delay_stop o a b t l h
stop_in (signal c _ _) o a b t l h = absurd h
stop_in (window f k _) o a b t l h = absurd h

pub reach_pick : (e : Eqn) (o a b : Cell) → reach e o a b ≡ pick (stops e o a b) o.bound (max o.bound (limit e o a b)) (halts e o a b)
unfolding reach
reach_pick e o a b =
    let q : limit e o a b - o.bound ≡ max o.bound (limit e o a b) - o.bound = omega arith in
    rw q (pick_least (stops e o a b) o.bound (max o.bound (limit e o a b)) (halts e o a b) (omega arith) (λ t i j k. stop_in e o a b t i k))
