-- Rest: when no equation can move and all is collected, every stream is known as far as the input furthest behind.
-- Let m be the least bound of the inputs, and suppose that all bounds are y or more, y < m. A stream of bound y whose
-- undelayed arguments are all above y has its reach above y, for no first argument of a last or delay lies below y. It
-- cannot move, so it is full and an event waits; but what it holds lies below y, and some reader of a bound below y, or
-- collection, waits for it, against the choice of y or of rest. So by the cycle rule all bounds are above y.
use mathlib.Core.Path.{◌≡◌, refl, ap}
use mathlib.Core.Logic.{◌⊎◌, inl, inr}
use mathlib.Core.Bool.{not, ◌&&◌}
use Rattle.std.specs.Prelude.{None}
use mathlib.Core.List.{List, [], ◌∷◌}
use Prim.Native.Nat.{ℕ, zero, suc, ◌≤◌, ◌<◌}
use native.Mathlib.Omega.{arith}
use native.Mathlib.Decide.{dec_lt}
use lib.Dec.{T, ltb, ltb→lt, T_not, not_T}
use lib.ListN.{length}
use Rattle.meaning.specs.Plan.{Eqn, input, nil, unit, one, two, last, delay, signal, window, Plan, eqn_at, is_input}
use Rattle.meaning.specs.Arguments.{reads, undelayed, Each, arg_a, arg_b}
use Rattle.meaning.specs.Events.{Event, Streams, found, events, has, horizon}
use Rattle.meaning.proofs.Tests.{Is, yes!, no!, look, T-and-r, eqb_self}
use Rattle.meaning.proofs.Clear.{clear, clear_args}
use Rattle.meaning.proofs.Within.{undelayed_read}
use Rattle.machine.specs.State.{Cell, State, cell_at}
use Rattle.machine.specs.Reach.{view, limit, point, stops}
use Rattle.machine.specs.Step.{reads_it, least_waiting, can_move}
use Rattle.machine.proofs.Window.{past_le}
use Rattle.machine.proofs.Rising.{Rising, events_rising, rising_dropped}
use Rattle.machine.proofs.Release.{waiting_who}
use Rattle.machine.proofs.Moves.{reach_gt, goal_gt, can_of, no_input_lem}
use Rattle.runs.specs.Inside.{known_in}
use Rattle.runs.proofs.Kept.{kept_of, point_of, point_le}
use Rattle.runs.proofs.Tracks.{Tracks}

each_zip : (P Q R : ℕ → Type 0) → ((a : ℕ) → P a → Q a → R a) → (xs : List ℕ) → Each P xs → Each Q xs → Each R xs
each_zip P Q R f [] h k = tt
each_zip P Q R f (x ∷ xs) h k = (f x h.0 k.0, each_zip P Q R f xs h.1 k.1)

module _ (S : Streams) (M : State) (inv : Tracks S M) (collected : (s : ℕ) → T (cell_at M s).out → (t : ℕ) → (cell_at M s).next ≤ t → found (cell_at M s).held t ≡ None) where
  abbrev C : ℕ → Cell
  C i = cell_at M i

  -- a stream that is behind all others holds nothing
  pub behind_holds_none : (s : ℕ) → ((r : ℕ) → r < length M → (C s).bound ≤ (C r).bound) → (C s).held ≡ []
  behind_holds_none s all = go (C s).held refl (rw (inv.held s) (rising_dropped (least_waiting s M) 0 (C s).bound (events (S s) (C s).bound) (events_rising (S s) (C s).bound)))
    where
      go : (xs : List Event) → (C s).held ≡ xs → Rising (least_waiting s M) (C s).bound (C s).held → xs ≡ []
      go [] q r = refl
      go (e ∷ es) q r =
          let k : Rising (least_waiting s M) (C s).bound (e ∷ es) = rw q at r in
          let a = k.0 in let b = k.1 in let t = inv.top s in
          absurd (who (waiting_who s M e.stamp (omega arith) a) b)
        where
          who : ((r : ℕ) × (r < length M) × T (reads_it s (C r).eqn) × ((C r).bound ≤ e.stamp)) ⊎ (T (C s).out × ((C s).next ≤ e.stamp)) → e.stamp < (C s).bound → ⊥
          who (inl x) b = let a = all x.0 x.1 in let c = x.3 in omega arith
          who (inr x) b =
              let n : found (e ∷ es) e.stamp ≡ None = rw q at (collected s x.0 e.stamp x.1) in
              let z : ◌≡◌ {A = ℕ} 0 1 = cc (eqb_self e.stamp) in omega arith

  module _ (plan : Plan) (planned : (s : ℕ) → (C s).eqn ≡ eqn_at plan s) (arguments : (s : ℕ) → Each (λ a. a < length M) (reads (C s).eqn))
      (m : ℕ) (top : m ≤ horizon) (inputs : (s : ℕ) → s < length M → T (is_input (C s).eqn) → m ≤ (C s).bound)
      (stuck : (s : ℕ) → s < length M → T (not (can_move s M))) where
    module _ (y : ℕ) (l : y < m) (all : (s : ℕ) → s < length M → y ≤ (C s).bound) where
      no_stop : (e : Eqn) (s : ℕ) → (C s).bound ≡ y → Each (λ a. a < length M) (reads e) → (C s).kept ≡ kept_of e (known_in S M) s (C s).bound → T (not (stops e (C s) (C (arg_a e)) (C (arg_b e)) (C s).bound))
      unfolding point
      no_stop input s b w k = tt
      no_stop nil s b w k = tt
      no_stop unit s b w k = tt
      no_stop (one f a) s b w k = tt
      no_stop (two g a c) s b w k = tt
      no_stop (last a c) s b w k =
          not_T (has (view (C c) (C s).bound) && ltb (C a).bound (C s).bound) (λ x.
          let u = all a w.0 in
          let v = ltb→lt (C a).bound (C s).bound (T-and-r (has (view (C c) (C s).bound)) (ltb (C a).bound (C s).bound) x) in absurd (omega arith))
      no_stop (delay a c) s b w k =
          not_T (ltb (C a).bound (point (C s) (C c) (C s).bound)) (λ x.
          let u = all a w.0 in
          let v = ltb→lt (C a).bound (point (C s) (C c) (C s).bound) x in
          let e : (C s).kept.since ≡ point_of (known_in S M c) (known_in S M s) (C s).bound = ap (λ c. c.since) k in
          let p = point_le (known_in S M c) (known_in S M s) (C s).bound in
          let r = past_le (view (C c)) (C s).bound in
          absurd (omega arith))
      no_stop (signal g a c) s b w k = tt
      no_stop (window f n a) s b w k = tt

      above : (e : Eqn) (s : ℕ) → (C s).bound ≡ y → (e ≡ input → ⊥) → Each (λ a. y < (C a).bound) (undelayed e) → (C s).bound < limit e (C s) (C (arg_a e)) (C (arg_b e))
      above input s b n w = absurd (n refl)
      above nil s b n w = omega arith
      above unit s b n w = omega arith
      above (one f a) s b n w = let u = w.0 in omega arith
      above (two g a c) s b n w = let u = w.0 in let v = w.1.0 in omega arith
      above (last a c) s b n w = let u = w.0 in omega arith
      above (delay a c) s b n w = let u = w.0 in omega arith
      above (signal g a c) s b n w = let u = w.0 in let v = w.1.0 in omega arith
      above (window f k a) s b n w = let u = w.0 in omega arith

      not_stuck : (s : ℕ) → s < length M → (C s).bound ≡ y → T (not (is_input (C s).eqn)) → Each (λ a. y < (C a).bound) (undelayed (C s).eqn) → ⊥
      not_stuck s k b i w =
          let e = (C s).eqn in
          let r = reach_gt e (C s) (C (arg_a e)) (C (arg_b e)) (above e s b (no_input_lem e i) w) (no_stop e s b (arguments s) (inv.kept s)) in
          let n = behind_holds_none s (λ r j. let u = all r j in omega arith) in
          T_not (can_move s M) (stuck s k) (can_of s M i (goal_gt s M r (rw n tt)))

      higher : (d s : ℕ) → T (clear plan d s) → s < length M → y < (C s).bound
      unfolding clear
      higher zero s c k = absurd c
      higher (suc d) s c k =
          go (dec_lt y (C s).bound) (look (is_input (C s).eqn))
          (each_zip (λ a. T (clear plan d a)) (λ a. a < length M) (λ a. y < (C a).bound) (λ a c k. higher d a c k) (undelayed (C s).eqn)
          (rw (planned s) (clear_args plan d s c)) (undelayed_read (λ a. a < length M) (C s).eqn (arguments s)))
        where
          go : Dec (y < (C s).bound) → Is (is_input (C s).eqn) → Each (λ a. y < (C a).bound) (undelayed (C s).eqn) → y < (C s).bound
          go (yes h) i w = h
          go (no h) (yes! e i) w = let u = inputs s k i in omega arith
          go (no h) (no! e i) w = let u = all s k in absurd (not_stuck s k (omega arith) i w)

    module _ (depth : ℕ) (passes : (s : ℕ) → T (clear plan depth s)) where
      all_reached : (y : ℕ) → y ≤ m → (s : ℕ) → s < length M → y ≤ (C s).bound
      all_reached zero l s k = omega arith
      all_reached (suc y) l s k = higher y l (λ s k. all_reached y (omega arith) s k) depth s (passes s) k

      -- every stream is known as far as the input furthest behind
      pub at_rest : (s : ℕ) → s < length M → m ≤ (C s).bound
      at_rest = all_reached m (omega arith)
