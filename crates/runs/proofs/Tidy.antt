-- The local step equals tidying all streams: in a run nothing else would change if every stream's kept data were brought
-- up to date from all held events, and everything that nobody waits for were let go.
-- Both sides are the one state that tracks the solution at the new bounds.
use mathlib.Core.Path.{◌≡◌, refl, sym, ◌∙◌, ap}
use mathlib.Core.Bool.{cond}
use Rattle.std.specs.Prelude.{Option, None}
use Prim.Native.Nat.{ℕ, zero, suc, pred, ◌≤◌, ◌<◌, min, max}
use native.Mathlib.Omega.{arith}
use native.Mathlib.Decide.{dec_lt}
use lib.Dec.{eqb, eqb→eq}
use lib.IntN.{ℤ}
use Rattle.meaning.specs.Plan.{Eqn, input, nil, unit, one, two, last, delay, signal, window}
use Rattle.meaning.specs.Arguments.{reads, Each, arg_a, arg_b}
use Rattle.meaning.specs.Events.{Streams, events, or_else}
use Rattle.meaning.specs.Table.{latest}
use Rattle.meaning.proofs.Tests.{Is, yes!, no!, look, eqb_self}
use Rattle.meaning.proofs.Causal.{latest_cong}
use Rattle.machine.specs.State.{Kept, Cell, State, cell_at, with_held, with_kept, with_prev, with_prev_b, with_prior}
use Rattle.machine.specs.Reach.{view, past_latest, held_latest}
use Rattle.machine.specs.Step.{later, drop_below, least_waiting}
use Rattle.machine.proofs.Cells.{ne_eqb, eqb_ne}
use Rattle.machine.proofs.Window.{Seen, seen_or, or_none, latest_flat, latest_seam, past_cong, past_flat, past_below, past_seam}
use Rattle.machine.proofs.Rising.{drop_again}
use Rattle.runs.specs.Inside.{known_in, below}
use Rattle.runs.proofs.Kept.{kept_of, point_of, point_le}
use Rattle.runs.proofs.Tracks.{cut_no, Ahead, Tracks}
use Rattle.runs.proofs.Decide.{shows_now, floor_read}

-- ---- tidying

-- what a stream keeps, from all held events below its bound and what it kept before
abbrev pub refreshed : Eqn → (o a b : Cell) → Kept
refreshed input o a b = o.kept
refreshed nil o a b = o.kept
refreshed unit o a b = o.kept
refreshed (one f _) o a b = o.kept
refreshed (two g _ _) o a b = o.kept
refreshed (last _ _) o a b = with_prev (held_latest a o.bound o.kept.prev) o.kept
refreshed (delay _ _) o a b =
    record {
      prev = o.kept.prev;
      prev_b = o.kept.prev_b;
      since = later o b;
      value = cond (eqb (later o b) 0) None
          (or_else (view a (pred (later o b))) (cond (eqb (later o b) o.kept.since) o.kept.value (cond (eqb (later o b) o.bound) o.kept.prior None)));
      prior = cond (eqb o.bound 0) None (or_else (view a (pred o.bound)) o.kept.prior);
    }
refreshed (signal c _ _) o a b = with_prev (held_latest a o.bound o.kept.prev) (with_prev_b (held_latest b o.bound o.kept.prev_b) o.kept)
refreshed (window f k _) o a b = o.kept

-- every stream brought up to date, and released
abbrev pub tidied : State → ℕ → Cell
tidied M i =
    let o = cell_at M i in
    with_held (drop_below (least_waiting i M) o.held) (with_kept (refreshed o.eqn o (cell_at M (arg_a o.eqn)) (cell_at M (arg_b o.eqn))) o)

-- of a stream whose bound goes up: what lay just below the old bound no longer does
abbrev pub stale : Cell → Cell
stale c = with_kept (with_prior None c.kept) c

-- ---- a stream whose bound stays

-- a delay is at most one ahead of its second argument
abbrev pub Near : Eqn → (B : ℕ → ℕ) → ℕ → Type 0
Near input B y = Unit
Near nil B y = Unit
Near unit B y = Unit
Near (one f a) B y = Unit
Near (two g a b) B y = Unit
Near (last a b) B y = Unit
Near (delay a b) B y = y ≤ suc (B b)
Near (signal c a b) B y = Unit
Near (window f k a) B y = Unit

module _ (K L : Streams) (B lo : ℕ → ℕ) (C : ℕ → Cell) (r y : ℕ) (old : (i p : ℕ) → p < B i → K i p ≡ L i p) (over : (i p : ℕ) → B i ≤ p → K i p ≡ None)
    (low : (i : ℕ) → lo i ≤ B i) (shows : (i : ℕ) → Seen (L i) (lo i) (view (C i))) (at : (C r).bound ≡ y) (own : B r ≡ y) where
  latest_old : (i : ℕ) → latest (K i) y ≡ latest (L i) (min y (B i))
  latest_old i =
      latest_flat (K i) (min y (B i)) y (omega arith) (λ p a b. over i p (omega arith))
      ∙ latest_cong (K i) (L i) (min y (B i)) (λ p l. old i p (omega arith))

  latest_is : (i : ℕ) {v : Option ℤ} → lo i ≤ y → v ≡ latest (K i) y → held_latest (C i) (C r).bound v ≡ latest (L i) y
  latest_is i l k =
      let w = low i in
      rw (k, at, latest_old i, latest_seam (L i) (view (C i)) (lo i) (shows i) (min y (B i)) y (omega arith) (omega arith))

  past_old : (i : ℕ) → past_latest (K i) y ≡ past_latest (L i) (min y (B i))
  past_old i =
      past_flat (K i) (min y (B i)) y (omega arith) (λ p a b. over i p (omega arith))
      ∙ past_cong (K i) (L i) (min y (B i)) (λ p l. old i p (omega arith))

  seen_old : (i p : ℕ) → or_else (view (C i) p) (K i p) ≡ L i p
  seen_old i p = go (dec_lt p (B i))
    where
      go : Dec (p < B i) → or_else (view (C i) p) (K i p) ≡ L i p
      go (yes l) = rw (old i p l) (seen_or (L i) (view (C i)) (lo i) (shows i) p)
      go (no l) = let k = low i in rw (over i p (omega arith), (shows i).from p (omega arith)) (or_none (L i p))

  seen_below : (i z : ℕ) → cond (eqb z 0) None (or_else (view (C i) (pred z)) (below (K i) z)) ≡ below (L i) z
  seen_below i zero = refl
  seen_below i (suc p) = rw (ne_eqb (suc p) 0 (λ e. omega arith)) (seen_old i p)

  module _ (a b : ℕ) (la : lo a ≤ y) (lb : lo b ≤ y) (near : y ≤ suc (B b)) (k : (C r).kept ≡ kept_of (delay a b) K r y) where
    since_is : (C r).kept.since ≡ max (past_latest (L b) (min y (B b))) (past_latest (L r) y)
    since_is =
        let e : min y (B r) ≡ y = omega arith in
        rw (k, past_old b, past_old r, e)

    later_is : later (C r) (C b) ≡ point_of (L b) (L r) y
    later_is =
        let e = since_is in
        let l = low b in let m = low r in
        let p = past_seam (L b) (view (C b)) (lo b) (shows b) (min y (B b)) y (omega arith) (omega arith) in
        let q = past_seam (L r) (view (C r)) (lo r) (shows r) y y (omega arith) (omega arith) in
        rw at (omega arith)

    -- a set point that was not known lies just below the bound
    new_point : (point_of (L b) (L r) y ≡ (C r).kept.since → ⊥) → point_of (L b) (L r) y ≡ y
    new_point n = go (dec_lt (point_of (L b) (L r) y) y)
      where
        go : Dec (point_of (L b) (L r) y < y) → point_of (L b) (L r) y ≡ y
        go (no d) = let l = point_le (L b) (L r) y in omega arith
        go (yes d) = let e = past_below (L b) (min y (B b)) y (omega arith) (omega arith) in absurd (n (cc (since_is, ap (λ x. max x (past_latest (L r) y)) e)))

    value_is : cond (eqb (later (C r) (C b)) 0) None (or_else (view (C a) (pred (later (C r) (C b)))) (cond (eqb (later (C r) (C b)) (C r).kept.since) (C r).kept.value (cond (eqb (later (C r) (C b)) (C r).bound) (C r).kept.prior None)))
        ≡ below (L a) (point_of (L b) (L r) y)
    value_is = rw (later_is, at) (go (look (eqb z (C r).kept.since)))
      where
        z : ℕ
        z = point_of (L b) (L r) y

        v : (C r).kept.value ≡ below (K a) (C r).kept.since
        v = ap (λ c. c.value) k ∙ ap (λ c. below (K a) c.since) (sym k)

        p : (C r).kept.prior ≡ below (K a) y
        p = ap (λ c. c.prior) k

        go : Is (eqb z (C r).kept.since) → cond (eqb z 0) None (or_else (view (C a) (pred z)) (cond (eqb z (C r).kept.since) (C r).kept.value (cond (eqb z y) (C r).kept.prior None))) ≡ below (L a) z
        go (yes! j x) = let e = eqb→eq z (C r).kept.since x in rw (j, v, ← e) (seen_below a z)
        go (no! j x) =
            let e = new_point (eqb_ne z (C r).kept.since x) in
            rw (j, p, e, eqb_self y) (seen_below a y)

    refreshed_delay : refreshed (delay a b) (C r) (C a) (C b) ≡ kept_of (delay a b) L r y
    refreshed_delay = rw (value_is, later_is, at, ap (λ c. c.prior) k, ap (λ c. c.prev) k, ap (λ c. c.prev_b) k, seen_below a y)

  pub refreshed_is : (e : Eqn) → Each (λ i. lo i ≤ y) (reads e) → Near e B y → (C r).kept ≡ kept_of e K r y → refreshed e (C r) (C (arg_a e)) (C (arg_b e)) ≡ kept_of e L r y
  refreshed_is input l n k = k
  refreshed_is nil l n k = k
  refreshed_is unit l n k = k
  refreshed_is (one f a) l n k = k
  refreshed_is (two g a b) l n k = k
  refreshed_is (last a b) l n k = rw (latest_is a l.0 (ap (λ c. c.prev) k), k)
  refreshed_is (delay a b) l n k = refreshed_delay a b l.0 l.1.0 n k
  refreshed_is (signal c a b) l n k = rw (latest_is a l.0 (ap (λ c. c.prev) k), latest_is b l.1.0 (ap (λ c. c.prev_b) k), k)
  refreshed_is (window f w a) l n k = k

pub near_of : (e : Eqn) (M : State) (y : ℕ) → Ahead e M y → Near e (λ i. (cell_at M i).bound) y
near_of input M y h = tt
near_of nil M y h = tt
near_of unit M y h = tt
near_of (one f a) M y h = tt
near_of (two g a b) M y h = tt
near_of (last a b) M y h = tt
near_of (delay a b) M y h = h
near_of (signal c a b) M y h = tt
near_of (window f k a) M y h = tt

-- a state that tracks a solution is tidy: tidying changes nothing
pub tracks_tidy : (S : Streams) (M : State) → Tracks S M → (i : ℕ) → tidied M i ≡ cell_at M i
tracks_tidy S M inv i =
    let o = cell_at M i in
    let k : refreshed o.eqn o (cell_at M (arg_a o.eqn)) (cell_at M (arg_b o.eqn)) ≡ o.kept =
    refreshed_is (known_in S M) (known_in S M) (λ j. (cell_at M j).bound) (λ j. min (least_waiting j M) (cell_at M j).bound) (λ j. cell_at M j) i o.bound (λ j p l. refl) (λ j p l. cut_no (S j) (cell_at M j).bound p l)
    (λ j. omega arith) (shows_now S M inv) refl refl o.eqn (floor_read S M inv i) (near_of o.eqn M o.bound (inv.ahead i)) (inv.kept i)
    ∙ sym (inv.kept i) in
    let h : drop_below (least_waiting i M) o.held ≡ o.held = ap (drop_below (least_waiting i M)) (inv.held i) ∙ drop_again (least_waiting i M) (least_waiting i M) (events (S i) o.bound) (omega arith) ∙ sym (inv.held i) in
    ap (λ x. with_held x (with_kept (refreshed o.eqn o (cell_at M (arg_a o.eqn)) (cell_at M (arg_b o.eqn))) o)) h ∙ ap (λ x. with_kept x o) k
