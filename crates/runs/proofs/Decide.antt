-- What a move finds is what the solution has: below the reach each equation gives what its row says, so the first event
-- found is the solution's next one, and up to the reach there is no other.
use mathlib.Core.Path.{◌≡◌, refl, sym, ◌∙◌, ap}
use mathlib.Core.Bool.{Bool, true, false, not, cond, ◌&&◌}
use Rattle.std.specs.Prelude.{Option, None, Some}
use mathlib.Core.List.{List, [], ◌∷◌, append-nil}
use Prim.Native.Nat.{ℕ, suc, pred, ◌-◌, ◌≤◌, ◌<◌, min, max}
use native.Mathlib.Omega.{arith}
use lib.Dec.{T, leb, ltb, ltb→lt, nltb→le}
use lib.ListN.{length}
use lib.IntN.{ℤ}
use Rattle.meaning.specs.Plan.{Calc, Fold, Eqn, input, nil, unit, one, two, last, delay, signal, window}
use Rattle.meaning.specs.Arguments.{reads, Each, arg_a, arg_b}
use Rattle.meaning.specs.Events.{Event, ev, Stream, Streams, events, has, horizon}
use Rattle.meaning.specs.Table.{latest, last_at, signal_at, latest_of, values, width, window_at_lem, is, fires, delay_at, at}
use Rattle.meaning.proofs.Tests.{Is, yes!, no!, look}
use Rattle.meaning.proofs.Each.{each_map}
use Rattle.meaning.proofs.Induction.{strong}
use Rattle.machine.specs.State.{Cell, State, cell_at, room}
use Rattle.machine.specs.Reach.{view, past_latest, limit, point, stops, reach, value_at, due, held_latest, slid, gives, first, Next, event, silent, next_of, decide}
use Rattle.machine.specs.Step.{least_waiting, new_bound, added}
use Rattle.machine.specs.Step as step
use Rattle.machine.proofs.Search.{least_ge, least_le, least_before, least_hit}
use Rattle.machine.proofs.Window.{Seen, has_none, latest_seam, past_cong, past_flat, past_seam}
use Rattle.machine.proofs.Lasts.{window_seam}
use Rattle.machine.proofs.Release.{each_read, waiting_le_reader}
use Rattle.runs.specs.Inside.{known_in, below}
use Rattle.runs.proofs.Kept.{kept_of, point_of, point_le, point_new, value_seam}
use Rattle.runs.proofs.Passed.{passed_of}
use Rattle.runs.proofs.Tracks.{cut_yes, cut_latest, Ahead, Tracks, New, quiet, new_none, held_shows}
use Rattle.runs.proofs.Tracks as tracks
use Rattle.runs.proofs.Fires.{fires_latest}

-- what is found from lo on and below hi, against the stream f
pub data Finds (f : Stream) (lo hi : ℕ) : Next → Type 0 where
  nothing : lo ≤ hi → ((p : ℕ) → lo ≤ p → p < hi → f p ≡ None) → Finds f lo hi (silent hi)
  something : {t : ℕ} {v : ℤ} → lo ≤ t → t < hi → ((p : ℕ) → lo ≤ p → p < t → f p ≡ None) → f t ≡ Some v → Finds f lo hi (event t v)

-- what comes in then
pub finds_new : {f : Stream} {lo hi : ℕ} {n : Next} → Finds f lo hi n → (held : List Event) → New f lo (new_bound n held) (added n held)
finds_new (nothing l q) held = quiet l q
finds_new {f} {lo} (something {t} {v} l m q e) held = go (leb room (length held))
  where
    go : (b : Bool) → New f lo (cond b t (suc t)) (cond b [] (ev t v ∷ []))
    go true = quiet l q
    go false = tracks.event l q e

pub finds_le : {f : Stream} {lo hi : ℕ} {n : Next} → Finds f lo hi n → (held : List Event) → new_bound n held ≤ hi
finds_le (nothing l q) held = omega arith
finds_le {f} {lo} {hi} (something {t} {v} l m q e) held = go (leb room (length held))
  where
    go : (b : Bool) → cond b t (suc t) ≤ hi
    go true = omega arith
    go false = m

module _ (S : Streams) (M : State) (inv : Tracks S M) where
  abbrev pub floor : ℕ → ℕ
  floor i = min (least_waiting i M) (cell_at M i).bound

  -- each stream shows what is known of it, from its floor on
  pub shows_now : (i : ℕ) → Seen (known_in S M i) (floor i) (view (cell_at M i))
  shows_now i =
      rw (inv.held i) (rw append-nil at (held_shows (S i) (least_waiting i M) (cell_at M i).bound (cell_at M i).bound [] (new_none (S i) (cell_at M i).bound)))

  pub floor_read : (s : ℕ) → Each (λ i. floor i ≤ (cell_at M s).bound) (reads (cell_at M s).eqn)
  floor_read s = each_map (λ a h. let x = waiting_le_reader a M s h in omega arith) (reads (cell_at M s).eqn) (each_read (cell_at M s).eqn)

  module _ (rd : Streams) (s : ℕ) where
    abbrev pub y : ℕ
    y = (cell_at M s).bound

    abbrev pub C : ℕ → Cell
    C i = cell_at M i

    pub arg_at : (a t : ℕ) → floor a ≤ y → y ≤ t → t < (C a).bound → view (C a) t ≡ S a t
    arg_at a t l m n = (shows_now a).from t (omega arith) ∙ cut_yes (S a) (C a).bound t n

    known_past : (a t : ℕ) → t ≤ (C a).bound → past_latest (known_in S M a) t ≡ past_latest (S a) t
    known_past a t l = past_cong (known_in S M a) (S a) t (λ p m. cut_yes (S a) (C a).bound p (omega arith))

    -- what an argument had latest: held, or kept
    pub latest_is : (a t : ℕ) {v : Option ℤ} → floor a ≤ y → v ≡ latest (known_in S M a) y → y ≤ t → t ≤ (C a).bound → held_latest (C a) t v ≡ latest (S a) t
    latest_is a t la k l m = rw (k, latest_seam (known_in S M a) (view (C a)) (floor a) (shows_now a) y t la l) (cut_latest (S a) (C a).bound t m)

    last_gives : (a b t : ℕ) → floor a ≤ y → floor b ≤ y → (C s).kept ≡ kept_of (last a b) (known_in S M) s y → y ≤ t → t < (C b).bound
        → T (not (has (view (C b) t) && ltb (C a).bound t)) → last_at (view (C b) t) (held_latest (C a) t (C s).kept.prev) ≡ last_at (S b t) (latest (S a) t)
    last_gives a b t la lb k l m n =
        rw (arg_at b t lb l m) (cases (S b t) (λ i. latest_is a t la (ap (λ c. c.prev) k) l (nltb→le (C a).bound t (right (has (S b t)) (ltb (C a).bound t) i (rw (arg_at b t lb l m) at n)))))
      where
        cases : (o : Option ℤ) {u v : Option ℤ} → (T (has o) → u ≡ v) → last_at o u ≡ last_at o v
        cases None h = unfold last_at in refl
        cases (Some x) h = rw (h tt)

        right : (p q : Bool) → T p → T (not (p && q)) → T (not q)
        right true q h k = k
        right false q h k = absurd h

    signal_gives : (c : Calc) (a b t : ℕ) → floor a ≤ y → floor b ≤ y → (C s).kept ≡ kept_of (signal c a b) (known_in S M) s y → y ≤ t → t < (C a).bound → t < (C b).bound
        → gives (signal c a b) (C s) (C a) (C b) t ≡ signal_at c (S a t) (S b t) (latest (S a) (suc t)) (latest (S b) (suc t))
    signal_gives c a b t la lb k l m n =
        rw (
          arg_at a t la l m,
          arg_at b t lb l n,
          latest_is a (suc t) la (ap (λ c. c.prev) k) (omega arith) m,
          latest_is b (suc t) lb (ap (λ c. c.prev_b) k) (omega arith) n,
        )

    -- what a window has at its end: what is kept, and what is held from its bound on
    pub slid_is : (k a t : ℕ) {w : List ℤ} → floor a ≤ y → w ≡ latest_of k (values (events (S a) y)) → y ≤ t → t ≤ (C a).bound → slid k y t w (view (C a)) ≡ latest_of k (values (events (S a) t))
    slid_is k a t la e l m = rw e (window_seam k (S a) (view (C a)) y t l (λ p i j. arg_at a p la i (omega arith)))

    window_gives : (f : Fold) (k : ℤ) (a t : ℕ) → floor a ≤ y → (C s).passed ≡ passed_of (window f k a) S s y → y ≤ t → t < (C a).bound
        → gives (window f k a) (C s) (C a) (C a) t ≡ window_at_lem f (S a t) (latest_of (width k) (values (events (S a) (suc t))))
    window_gives f k a t la e l m = rw (slid_is (width k) a (suc t) la (ap (λ w. w.window) e) (omega arith) m, arg_at a t la l m)

    module _ (a b t : ℕ) (la : floor a ≤ y) (lb : floor b ≤ y) (k : (C s).kept ≡ kept_of (delay a b) (known_in S M) s y) (l : y ≤ t) (m : t ≤ (C b).bound)
        (q : (p : ℕ) → y ≤ p → p < t → S s p ≡ None) where
      since_is : (C s).kept.since ≡ point_of (S b) (S s) y
      since_is = rw (k, known_past b y (omega arith), known_past s y (omega arith))

      pub point_is : point (C s) (C b) t ≡ point_of (S b) (S s) t
      unfolding point
      point_is =
          let e : (C s).kept.since ≡ point_of (known_in S M b) (known_in S M s) y = ap (λ c. c.since) k in
          let f = past_seam (known_in S M b) (view (C b)) (floor b) (shows_now b) y t lb l in
          let g = known_past b t m in
          let h = known_past s y (omega arith) in
          let i = past_flat (S s) y t l q in
          omega arith

      value_is : 0 < point_of (S b) (S s) t → point_of (S b) (S s) t ≤ (C a).bound → value_at (C s) (C a) (point_of (S b) (S s) t) ≡ S a (pred (point_of (S b) (S s) t))
      value_is z n =
          let e = since_is in
          let i = point_le (S b) (S s) y in
          let j : (C s).kept.value ≡ below (known_in S M a) (C s).kept.since = ap (λ c. c.value) k ∙ ap (λ c. below (known_in S M a) c.since) (sym k) in
          rw j
          (value_seam (known_in S M a) (view (C a)) (known_in S M a) (floor a) y (point_of (S b) (S s) t) (C s).kept.since (shows_now a) la (λ p u. refl) (omega arith)
          (λ u. point_new (S b) (S s) y t l (λ w. u (w ∙ sym e))) z
          ∙ cut_yes (S a) (C a).bound (pred (point_of (S b) (S s) t)) (omega arith))

      delay_gives : T (not (ltb (C a).bound (point (C s) (C b) t)))
          → fires (S a) (S b) (S s) t ≡ (ltb 0 (point_of (S b) (S s) t) && is (t - pred (point_of (S b) (S s) t)) (S a (pred (point_of (S b) (S s) t))))
          → due (C s) (C a) (point (C s) (C b) t) t ≡ fires (S a) (S b) (S s) t
      delay_gives n f = rw (point_is, f) (both (ltb 0 z) (λ p. ap (λ o. is (t - pred z) o) (value_is (ltb→lt 0 z p) (nltb→le (C a).bound z (rw point_is at n)))))
        where
          z : ℕ
          z = point_of (S b) (S s) t

          both : (p : Bool) {q r : Bool} → (T p → q ≡ r) → (p && q) ≡ (p && r)
          both true h = h tt
          both false h = refl

    -- one case for each operator
    gives_at : (e : Eqn) (t : ℕ) → Each (λ i. floor i ≤ y) (reads e) → (C s).kept ≡ kept_of e (known_in S M) s y → (C s).passed ≡ passed_of e S s y
        → ((p : ℕ) → p < horizon → S s p ≡ at e rd S s p)
        → y ≤ t → t < horizon → t < limit e (C s) (C (arg_a e)) (C (arg_b e)) → T (not (stops e (C s) (C (arg_a e)) (C (arg_b e)) t))
        → ((p : ℕ) → y ≤ p → p < t → S s p ≡ None) → (e ≡ input → ⊥) → gives e (C s) (C (arg_a e)) (C (arg_b e)) t ≡ at e rd S s t
    unfolding at
    gives_at input t l k w row a h b c n i = absurd (i refl)
    gives_at nil t l k w row a h b c n i = refl
    gives_at unit t l k w row a h b c n i = refl
    gives_at (one f x) t l k w row a h b c n i = rw (arg_at x t l.0 a b)
    gives_at (two g x z) t l k w row a h b c n i = rw (arg_at x t l.0 a (omega arith), arg_at z t l.1.0 a (omega arith))
    gives_at (last x z) t l k w row a h b c n i = last_gives x z t l.0 l.1.0 k a b c
    gives_at (delay x z) t l k w row a h b c n i =
        ap delay_at (delay_gives x z t l.0 l.1.0 k a (omega arith) n c (fires_latest (S x) (S z) (S s) horizon row t (omega arith)))
    gives_at (signal g x z) t l k w row a h b c n i = signal_gives g x z t l.0 l.1.0 k a (omega arith) (omega arith)
    gives_at (window f m x) t l k w row a h b c n i = window_gives f m x t l.0 w a b

    limit_le : (e : Eqn) → limit e (C s) (C (arg_a e)) (C (arg_b e)) ≤ horizon
    limit_le input = inv.top s
    limit_le nil = omega arith
    limit_le unit = omega arith
    limit_le (one f a) = inv.top a
    limit_le (two g a b) = let x = inv.top a in omega arith
    limit_le (last a b) = inv.top b
    limit_le (delay a b) = omega arith
    limit_le (signal c a b) = let x = inv.top a in omega arith
    limit_le (window f k a) = inv.top a

    ahead_limit : (e : Eqn) (x : ℕ) → Ahead e M y → x ≤ max y (limit e (C s) (C (arg_a e)) (C (arg_b e))) → Ahead e M x
    ahead_limit input x k l = tt
    ahead_limit nil x k l = tt
    ahead_limit unit x k l = tt
    ahead_limit (one f a) x k l = omega arith
    ahead_limit (two g a b) x k l = let u = k.0 in let v = k.1 in (omega arith, omega arith)
    ahead_limit (last a b) x k l = tt
    ahead_limit (delay a b) x k l = omega arith
    ahead_limit (signal c a b) x k l = let u = k.0 in let v = k.1 in (omega arith, omega arith)
    ahead_limit (window f n a) x k l = omega arith

    module _ (row : (p : ℕ) → p < horizon → S s p ≡ at (cell_at M s).eqn rd S s p) (equation : (cell_at M s).eqn ≡ input → ⊥) where
      abbrev pub e : Eqn
      e = (cell_at M s).eqn

      abbrev pub far : ℕ
      far = reach e (C s) (C (arg_a e)) (C (arg_b e))

      abbrev next : ℕ
      next = first e (C s) (C (arg_a e)) (C (arg_b e))

      abbrev has_at : ℕ → Option ℤ
      has_at t = gives e (C s) (C (arg_a e)) (C (arg_b e)) t

      pub reach_ge : y ≤ far
      unfolding reach
      reach_ge = least_ge (stops e (C s) (C (arg_a e)) (C (arg_b e))) y (limit e (C s) (C (arg_a e)) (C (arg_b e)) - y)

      reach_le : far ≤ max y (limit e (C s) (C (arg_a e)) (C (arg_b e)))
      unfolding reach
      reach_le = let k = least_le (stops e (C s) (C (arg_a e)) (C (arg_b e))) y (limit e (C s) (C (arg_a e)) (C (arg_b e)) - y) in omega arith

      pub reach_top : far ≤ horizon
      reach_top = let a = reach_le in let b = limit_le e in let c = inv.top s in omega arith

      pub reach_ahead : (x : ℕ) → x ≤ far → Ahead e M x
      reach_ahead x l = let a = reach_le in ahead_limit e x (inv.ahead s) (omega arith)

      pub in_reach : (t : ℕ) → y ≤ t → t < far → (t < limit e (C s) (C (arg_a e)) (C (arg_b e))) × T (not (stops e (C s) (C (arg_a e)) (C (arg_b e)) t))
      unfolding reach
      in_reach t l m =
          let k = least_le (stops e (C s) (C (arg_a e)) (C (arg_b e))) y (limit e (C s) (C (arg_a e)) (C (arg_b e)) - y) in
          (omega arith, least_before (stops e (C s) (C (arg_a e)) (C (arg_b e))) y (limit e (C s) (C (arg_a e)) (C (arg_b e)) - y) t l m)

      -- below the reach an equation gives what the solution has
      gives_is : (t : ℕ) → y ≤ t → t < far → ((p : ℕ) → y ≤ p → p < t → S s p ≡ None) → has_at t ≡ S s t
      gives_is t l m n =
          let h = in_reach t l m in
          let g = limit_le e in
          let b = h.0 in
          gives_at e t (floor_read s) (inv.kept s) (inv.passed s) row l (omega arith) b h.1 n equation ∙ sym (row t (omega arith))

      first_le : next ≤ far
      unfolding first
      first_le = let k = least_le (λ t. has (has_at t)) y (far - y) in let g = reach_ge in omega arith

      first_ge : y ≤ next
      unfolding first
      first_ge = least_ge (λ t. has (has_at t)) y (far - y)

      before_first : (t : ℕ) → y ≤ t → t < next → S s t ≡ None
      unfolding first
      before_first = strong (λ t. y ≤ t → t < next → S s t ≡ None) (λ t past l m.
          let f = first_le in
          sym (gives_is t l (omega arith) (λ p j i. past p i j (omega arith))) ∙ has_none (has_at t) (least_before (λ t. has (has_at t)) y (far - y) t l m))

      first_has : next < far → T (has (has_at next))
      unfolding first
      first_has l = let g = reach_ge in least_hit (λ t. has (has_at t)) y (far - y) (omega arith)

      -- what a move finds
      pub ahead_finds : Finds (S s) y far (step.ahead s M)
      unfolding step.ahead decide
      ahead_finds = go (look (ltb next far))
        where
          some_of : next < far → (o : Option ℤ) → has_at next ≡ o → Finds (S s) y far (next_of next far o)
          some_of l None q = absurd (rw q at (first_has l))
          some_of l (Some v) q = something first_ge l before_first (sym (gives_is next first_ge l before_first) ∙ q)

          go : Is (ltb next far) → Finds (S s) y far (next_of next far (cond (ltb next far) (has_at next) None))
          go (yes! j x) = rw j (some_of (ltb→lt next far x) (has_at next) refl)
          go (no! j x) = let m = nltb→le next far x in let f = first_le in rw j (nothing reach_ge (λ p a b. before_first p a (omega arith)))
