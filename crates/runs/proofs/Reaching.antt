-- Where a move takes the bound, told by the solution: to the first event below the reach, or to the reach, which is the
-- greatest bound that the arguments fix. The machine searches for what stops a bound from the present bound on, among held
-- events and what is kept; of the solution the same search begins at stamp 0. Both stop at the same place where the stream
-- is silent between, and otherwise both go past its first event.
use mathlib.Core.Path.{◌≡◌, refl, sym}
use mathlib.Core.Bool.{Bool, false, not, ◌&&◌}
use Rattle.std.specs.Prelude.{None}
use mathlib.Core.List.{List}
use Prim.Native.Nat.{ℕ, suc, pred, ◌-◌, ◌+◌, ◌≤◌, ◌<◌, min, max}
use native.Mathlib.Omega.{arith}
use native.Mathlib.Decide.{dec_lt}
use lib.Dec.{T, leb, ltb, leb→le, ltb→lt, lt→ltb, le→leb, nltb→le, T_not}
use lib.ListN.{length}
use Rattle.meaning.specs.Plan.{Eqn, input, nil, unit, one, two, last, delay, signal, window, is_input}
use Rattle.meaning.specs.Arguments.{arg_a, arg_b}
use Rattle.meaning.specs.Events.{Stream, Streams, has, horizon}
use Rattle.meaning.specs.Table.{Solves}
use Rattle.meaning.proofs.Tests.{Is, yes!, no!, look, true_is, false_is, T_and, T-and-l, T-and-r}
use Rattle.machine.specs.State.{Declared, State, Cell, cell_at, declared_plan, room}
use Rattle.machine.specs.Reach.{view, least, limit, point, stops, reach, Next}
use Rattle.machine.specs.Step.{new_bound, can_move, ahead, comes_in, move}
use Rattle.machine.specs.Calls.{unless, done, arrivals, no_equation, move_one}
use Rattle.machine.proofs.Search.{least_ge, least_le, least_before, least_hit, least_min}
use Rattle.machine.proofs.Window.{past_mono}
use Rattle.machine.proofs.Frame.{raise_bound}
use Rattle.machine.proofs.Moves.{reach_of, goal, goal_ge, can_of, no_input_lem}
use Rattle.runs.specs.Inside.{known_in, Fixes, IsReach, Goes, silent, event, MovesAs}
use Rattle.runs.proofs.Kept.{kept_of, point_of, point_le}
use Rattle.runs.proofs.Tracks.{Tracks}
use Rattle.runs.proofs.Decide.{Finds, nothing, something, floor, floor_read, arg_at, point_is}
use Rattle.runs.proofs.World.{Shape}
use Rattle.runs.proofs.Move.{move_raise, equation_finds}
use Rattle.runs.proofs.Keeping.{point_max, point_hit}

-- a stream is silent from one stamp on and below another
abbrev Silent : Stream → ℕ → ℕ → Type 0
Silent f y t = (p : ℕ) → y ≤ p → p < t → f p ≡ None

-- what the two searches have to do with each other: `far` is the machine's reach, r that of the solution
record Agrees (f : Stream) (y far r : ℕ) : Type 0 where
  quiet : Silent f y far → far ≡ max y r
  within : (t : ℕ) → y ≤ t → t < far → Silent f y t → t < r

-- g stops the machine's search, h that of the solution, n is how far both may go
module _ (f : Stream) (g h : ℕ → Bool) (y n r : ℕ) (low : r ≤ n) (hit : r < n → T (h r)) (first : (t : ℕ) → T (h t) → r ≤ t)
    (same : (t : ℕ) → y ≤ t → t < n → Silent f y t → h t ≡ g t) (early : (t : ℕ) → t < y → T (h t) → T (h y)) where
  abbrev far : ℕ
  far = least g y (n - y)

  far_ge : y ≤ far
  far_ge = least_ge g y (n - y)

  far_le : far ≤ y + (n - y)
  far_le = least_le g y (n - y)

  -- nothing stops the search of the solution below the machine's
  passes : (t : ℕ) → y ≤ t → t < far → Silent f y t → t < r
  passes t l m q = go (dec_lt t r)
    where
      clear : (u : ℕ) → y ≤ u → u ≤ t → T (h u) → ⊥
      clear u a b x =
          let k = far_le in
          T_not (g u) (least_before g y (n - y) u a (omega arith)) (rw (sym (same u a (omega arith) (λ p i j. q p i (omega arith)))) x)

      go : Dec (t < r) → t < r
      go (yes d) = d
      go (no d) = absurd (stopped (dec_lt r y))
        where
          at : T (h r)
          at = let k = far_le in hit (omega arith)

          stopped : Dec (r < y) → ⊥
          stopped (yes c) = clear y (omega arith) l (early r c at)
          stopped (no c) = clear r (omega arith) (omega arith) at

  searches_agree : Agrees f y far r
  searches_agree = record {
    quiet = λ q. let a = far_ge in let b = upper q in let c = lower q in omega arith;
    within = passes;
  }
    where
      upper : Silent f y far → r ≤ far
      upper q = go (dec_lt far (y + (n - y)))
        where
          go : Dec (far < y + (n - y)) → r ≤ far
          go (yes d) = first far (rw (same far far_ge (let k = far_ge in omega arith) q) (least_hit g y (n - y) d))
          go (no d) = let k = far_le in omega arith

      lower : Silent f y far → far ≤ max y r
      lower q = go (dec_lt y far)
        where
          go : Dec (y < far) → far ≤ max y r
          go (yes d) = let k = passes (pred far) (omega arith) (omega arith) (λ p i j. q p i (omega arith)) in omega arith
          go (no d) = omega arith

module _ (S : Streams) (M : State) (inv : Tracks S M) (rd : Streams) (s : ℕ) where
  abbrev Y : ℕ → ℕ
  Y i = (cell_at M i).bound

  abbrev C : ℕ → Cell
  C i = cell_at M i

  abbrev stops_at : Eqn → ℕ → Bool
  stops_at e t = stops e (C s) (C (arg_a e)) (C (arg_b e)) t

  abbrev limit_of : Eqn → ℕ
  limit_of e = limit e (C s) (C (arg_a e)) (C (arg_b e))

  record Reached (e : Eqn) : Type 0 where
    reach : ℕ
    is_reach : IsReach e S Y s reach
    agrees : Agrees (S s) (Y s) (least (stops_at e) (Y s) (limit_of e - Y s)) reach

  -- nothing stops: the reach is the limit
  plain : (e : Eqn) → ((t : ℕ) → stops_at e t ≡ false) → Fixes e S Y s (limit_of e) → ((k : ℕ) → Fixes e S Y s k → k ≤ limit_of e) → Reached e
  plain e never fixes greatest = record {
    reach = limit_of e;
    is_reach = record { fixes = fixes; greatest = greatest };
    agrees = searches_agree (S s) (stops_at e) (λ t. false) (Y s) (limit_of e) (limit_of e) (omega arith) (λ l. absurd (omega arith)) (λ t x. absurd x) (λ t a b q. sym (never t)) (λ t a x. x);
  }

  -- ---- last: an event of b, at y or later, above a's bound
  module _ (a b : ℕ) (lb : floor S M inv b ≤ Y s) where
    abbrev late : ℕ → Bool
    late t = leb (Y s) t && (has (S b t) && ltb (Y a) t)

    abbrev last_reach : ℕ
    last_reach = least late 0 (Y b)

    last_le : last_reach ≤ Y b
    last_le = let k = least_le late 0 (Y b) in omega arith

    last_same : (t : ℕ) → Y s ≤ t → t < Y b → Silent (S s) (Y s) t → late t ≡ (has (view (C b) t) && ltb (Y a) t)
    last_same t l m q = rw (true_is (leb (Y s) t) (le→leb (Y s) t l), arg_at S M inv rd s b t lb l m)

    last_early : (t : ℕ) → t < Y s → T (late t) → T (late (Y s))
    last_early t l x = let k = leb→le (Y s) t (T-and-l (leb (Y s) t) (has (S b t) && ltb (Y a) t) x) in absurd (omega arith)

    last_reached : Reached (last a b)
    last_reached = record {
      reach = last_reach;
      is_reach = record {
        fixes = (last_le, λ t h l m. least_min late 0 (Y b) t (omega arith) (T_and (leb (Y s) t) (has (S b t) && ltb (Y a) t) (le→leb (Y s) t l) (T_and (has (S b t)) (ltb (Y a) t) h (lt→ltb (Y a) t m))));
        greatest = λ k h. go k h (dec_lt last_reach (Y b));
      };
      agrees = searches_agree (S s) (stops (last a b) (C s) (C a) (C b)) late (Y s) (Y b) last_reach last_le (λ l. least_hit late 0 (Y b) (omega arith)) (λ t x. least_min late 0 (Y b) t (omega arith) x) last_same last_early;
    }
      where
        go : (k : ℕ) → Fixes (last a b) S Y s k → Dec (last_reach < Y b) → k ≤ last_reach
        go k h (yes d) =
            let x = least_hit late 0 (Y b) (omega arith) in
            let u = T-and-r (leb (Y s) last_reach) (has (S b last_reach) && ltb (Y a) last_reach) x in
            h.1 last_reach (T-and-l (has (S b last_reach)) (ltb (Y a) last_reach) u) (leb→le (Y s) last_reach (T-and-l (leb (Y s) last_reach) (has (S b last_reach) && ltb (Y a) last_reach) x))
            (ltb→lt (Y a) last_reach (T-and-r (has (S b last_reach)) (ltb (Y a) last_reach) u))
        go k h (no d) = let x = h.0 in omega arith

  -- ---- delay: a set point that does not lie below a's bound
  module _ (a b : ℕ) (la : floor S M inv a ≤ Y s) (lb : floor S M inv b ≤ Y s) (kept : (C s).kept ≡ kept_of (delay a b) (known_in S M) s (Y s)) where
    abbrev unknown : ℕ → Bool
    unknown t = ltb (Y a) (point_of (S b) (S s) t)

    abbrev most : ℕ
    most = min (suc (Y b)) horizon

    abbrev delay_reach : ℕ
    delay_reach = least unknown 0 most

    delay_le : delay_reach ≤ most
    delay_le = let k = least_le unknown 0 most in omega arith

    delay_same : (t : ℕ) → Y s ≤ t → t < most → Silent (S s) (Y s) t → unknown t ≡ ltb (Y a) (point (C s) (C b) t)
    delay_same t l m q = rw (point_is S M inv rd s a b t la lb kept l (omega arith) q)

    delay_early : (t : ℕ) → t < Y s → T (unknown t) → T (unknown (Y s))
    delay_early t l x =
        let u = ltb→lt (Y a) (point_of (S b) (S s) t) x in
        let v = past_mono (S b) t (Y s) (omega arith) in
        let w = past_mono (S s) t (Y s) (omega arith) in
        lt→ltb (Y a) (point_of (S b) (S s) (Y s)) (omega arith)

    delay_reached : Reached (delay a b)
    delay_reached = record {
      reach = delay_reach;
      is_reach = record {
        fixes = (
          let k = delay_le in omega arith,
          let k = delay_le in omega arith,
          λ p x l.
              let u = nltb→le (Y a) (point_of (S b) (S s) (suc p)) (least_before unknown 0 most (suc p) (omega arith) (omega arith)) in
              let v = point_max (S b) (S s) (suc p) p (omega arith) x in
              omega arith,
        );
        greatest = λ k h. go k h (dec_lt delay_reach most);
      };
      agrees = searches_agree (S s) (stops (delay a b) (C s) (C a) (C b)) unknown (Y s) most delay_reach delay_le (λ l. least_hit unknown 0 most (omega arith)) (λ t x. least_min unknown 0 most t (omega arith) x) delay_same delay_early;
    }
      where
        z : ℕ
        z = point_of (S b) (S s) delay_reach

        go : (k : ℕ) → Fixes (delay a b) S Y s k → Dec (delay_reach < most) → k ≤ delay_reach
        go k h (no d) = let u = h.0 in let v = h.1 in omega arith
        go k h (yes d) = late (dec_lt delay_reach k)
          where
            late : Dec (delay_reach < k) → k ≤ delay_reach
            late (no c) = omega arith
            late (yes c) =
                let x = ltb→lt (Y a) z (least_hit unknown 0 most (omega arith)) in
                let l = point_le (S b) (S s) delay_reach in
                let u = h.2 (pred z) (point_hit (S b) (S s) delay_reach (omega arith)) (omega arith) in
                absurd (omega arith)

  -- one case for each operator
  reached : (e : Eqn) → (C s).eqn ≡ e → (e ≡ input → ⊥) → Reached e
  reached input q n = absurd (n refl)
  reached nil q n = plain nil (λ t. refl) (omega arith) (λ k h. h)
  reached unit q n = plain unit (λ t. refl) (omega arith) (λ k h. h)
  reached (one f a) q n = plain (one f a) (λ t. refl) (omega arith) (λ k h. h)
  reached (two g a b) q n = plain (two g a b) (λ t. refl) (omega arith, omega arith) (λ k h. let u = h.0 in let v = h.1 in omega arith)
  reached (last a b) q n = last_reached a b (rw q at (floor_read S M inv s)).1.0
  reached (delay a b) q n = let l = rw q at (floor_read S M inv s) in delay_reached a b l.0 l.1.0 (rw q at (inv.kept s))
  reached (signal c a b) q n = plain (signal c a b) (λ t. refl) (omega arith, omega arith) (λ k h. let u = h.0 in let v = h.1 in omega arith)
  reached (window f w a) q n = plain (window f w a) (λ t. refl) (omega arith) (λ k h. h)

-- ---- the bound after a move, made or refused

bound_after_lem : (s : ℕ) (M : State) → s < length M → T (not (is_input (cell_at M s).eqn)) → (cell_at (move_one s M).state s).bound ≡ goal s M
unfolding move_one
bound_after_lem s M l i =
    let a : no_equation s M ≡ false = rw (true_is (ltb s (length M)) (lt→ltb s (length M) l)) (false_is (is_input (cell_at M s).eqn) i) in
    rw a (go (look (can_move s M)))
  where
    stays : T (not (can_move s M)) → (cell_at M s).bound ≡ goal s M
    stays n = go (dec_lt (cell_at M s).bound (goal s M))
      where
        go : Dec ((cell_at M s).bound < goal s M) → (cell_at M s).bound ≡ goal s M
        go (yes d) = absurd (T_not (can_move s M) n (can_of s M i d))
        go (no d) = let g = goal_ge s M in omega arith

    go : Is (can_move s M) → (cell_at (unless (not (can_move s M)) 12 M (done (arrivals s (comes_in s M)) (move s M))).state s).bound ≡ goal s M
    go (yes! q x) = rw (q, move_raise s M) (raise_bound s (goal s M) (comes_in s M) M l (λ j b. j ≡ s → b ≡ goal s M) (λ j n e. absurd (n e)) (λ e. refl) s refl)
    go (no! q x) = rw q (stays x)

pub moves_as : (ds : List Declared) (rd S : Streams) → Solves (declared_plan ds) rd S horizon → (M : State) → Shape ds M → Tracks S M
    → (s : ℕ) → s < length M → T (not (is_input (cell_at M s).eqn)) → MovesAs S M s
unfolding reach
moves_as ds rd S sol M shape inv s l i = record { reach = far.reach; is_reach = far.is_reach; goes = rw (bound_after_lem s M l i) (by (ahead s M) (equation_finds ds rd S sol M shape inv s none_in)) }
  where
    y : ℕ
    y = (cell_at M s).bound

    none_in : (cell_at M s).eqn ≡ input → ⊥
    none_in = no_input_lem (cell_at M s).eqn i

    far : Reached S M inv rd s (cell_at M s).eqn
    far = reached S M inv rd s (cell_at M s).eqn refl none_in

    full : Bool
    full = leb room (length (cell_at M s).held)

    agrees : Agrees (S s) y (reach_of s M) far.reach
    agrees = far.agrees

    by : (n : Next) → Finds (S s) y (reach_of s M) n → Goes (S s) y far.reach full (new_bound n (cell_at M s).held)
    by n (nothing a q) =
        let e = agrees.quiet q in
        rw e (silent (λ p u v. q p u (omega arith)))
    by n (something {t} {v} a b q x) = event {t = t} a (agrees.within t a b q) q (rw x tt)
