-- What a last, a delay or a signal form keeps, as a function of the known events; how it follows when a bound goes up or an
-- event comes in. K i is what is known of stream i: its events below its bound. Of an equation with bound y the kept data
-- depends on K below y alone.
use mathlib.Core.Path.{◌≡◌, refl, sym, ◌∙◌, ap}
use mathlib.Core.Bool.{Bool, true, false, cond, ◌&&◌}
use Rattle.std.specs.Prelude.{Option, None, Some}
use Prim.Native.Nat.{ℕ, zero, suc, pred, ◌+◌, ◌≤◌, ◌<◌, max}
use native.Mathlib.Omega.{arith}
use native.Mathlib.Numerals.{add-one}
use native.Mathlib.Decide.{dec_lt}
use lib.Dec.{leb, eqb, eqb→eq, eqb_refl}
use borrow.Author.Tests.{leb-false}
use lib.IntN.{ℤ}
use Rattle.meaning.specs.Plan.{Eqn, input, nil, unit, one, two, last, delay, signal, window}
use Rattle.meaning.specs.Arguments.{reads, Each, arg_a, arg_b}
use Rattle.meaning.specs.Events.{Stream, Streams, or_else}
use Rattle.meaning.specs.Table.{latest}
use Rattle.meaning.proofs.Tests.{Is, yes!, no!, look, true_is}
use Rattle.meaning.proofs.Causal.{latest_cong}
use Rattle.machine.specs.State.{Kept, Cell, no_kept}
use Rattle.machine.specs.Reach.{view, past_latest, value_at, held_latest}
use Rattle.machine.specs.Step.{absorb, later, kept_told}
use Rattle.machine.proofs.Cells.{ne_eqb, eqb_ne}
use Rattle.runs.specs.Inside.{below}
use Rattle.machine.proofs.Window.{Seen, seen_or, or_none, latest_suc, latest_flat, latest_seam, past_le, past_cong, past_here, past_below, past_seam}

-- one past the latest set point below y, of a delay d with second argument b
abbrev pub point_of : (b d : Stream) → ℕ → ℕ
point_of b d y = max (past_latest b y) (past_latest d y)

abbrev pub of_last : Option ℤ → Kept
of_last v = record { prev = v; prev_b = None; since = 0; value = None; prior = None }

abbrev pub of_delay : ℕ → (value prior : Option ℤ) → Kept
of_delay z v p = record { prev = None; prev_b = None; since = z; value = v; prior = p }

abbrev pub of_signal : (a b : Option ℤ) → Kept
of_signal a b = record { prev = a; prev_b = b; since = 0; value = None; prior = None }

-- what stream s with this equation and the bound y keeps
abbrev pub kept_of : Eqn → Streams → (s y : ℕ) → Kept
kept_of input K s y = no_kept
kept_of nil K s y = no_kept
kept_of unit K s y = no_kept
kept_of (one f a) K s y = no_kept
kept_of (two g a b) K s y = no_kept
kept_of (last a b) K s y = of_last (latest (K a) y)
kept_of (delay a b) K s y = of_delay (point_of (K b) (K s) y) (below (K a) (point_of (K b) (K s) y)) (below (K a) y)
kept_of (signal c a b) K s y = of_signal (latest (K a) y) (latest (K b) y)
kept_of (window f k a) K s y = no_kept

below_cong : (f g : Stream) (z y : ℕ) → z ≤ y → ((p : ℕ) → p < y → f p ≡ g p) → below f z ≡ below g z
below_cong f g zero y l h = refl
below_cong f g (suc p) y l h = h p l

pub point_le : (b d : Stream) (y : ℕ) → point_of b d y ≤ y
point_le b d y = let x = past_le b y in let z = past_le d y in omega arith

pub kept_cong : (e : Eqn) (K L : Streams) (s y : ℕ) → ((i p : ℕ) → p < y → K i p ≡ L i p) → kept_of e K s y ≡ kept_of e L s y
kept_cong input K L s y h = refl
kept_cong nil K L s y h = refl
kept_cong unit K L s y h = refl
kept_cong (one f a) K L s y h = refl
kept_cong (two g a b) K L s y h = refl
kept_cong (last a b) K L s y h = rw (latest_cong (K a) (L a) y (h a))
kept_cong (delay a b) K L s y h =
    rw (
      past_cong (K b) (L b) y (h b),
      past_cong (K s) (L s) y (h s),
      below_cong (K a) (L a) (point_of (L b) (L s) y) y (point_le (L b) (L s) y) (h a),
      below_cong (K a) (L a) y y (omega arith) (h a),
    )
kept_cong (signal c a b) K L s y h = rw (latest_cong (K a) (L a) y (h a), latest_cong (K b) (L b) y (h b))
kept_cong (window f k a) K L s y h = refl

-- ---- an event (t, v) comes into stream s: L is what is known then

-- of an equation whose bound y is above t: a delay is at most one ahead of its second argument, a signal form ahead of none
abbrev pub Edge : Eqn → (s t y : ℕ) → Type 0
Edge input s t y = Unit
Edge nil s t y = Unit
Edge unit s t y = Unit
Edge (one f a) s t y = Unit
Edge (two g a b) s t y = Unit
Edge (last a b) s t y = Unit
Edge (delay a b) s t y = b ≡ s → y ≡ suc t
Edge (signal c a b) s t y = (a ≡ s → ⊥) × (b ≡ s → ⊥)
Edge (window f k a) s t y = Unit

module _ (K L : Streams) (s t : ℕ) (v : ℤ) (other : (i p : ℕ) → (i ≡ s → p ≡ t → ⊥) → K i p ≡ L i p) (here : L s t ≡ Some v) (above : (p : ℕ) → t < p → L s p ≡ None) where
  told_value_lem : (a z : ℕ) → cond (eqb a s && eqb z (t + 1)) (Some v) (below (K a) z) ≡ below (L a) z
  told_value_lem a zero = rw (ne_eqb 0 (t + 1) (λ e. omega arith)) (no (eqb a s))
    where
      no : (b : Bool) → cond (b && false) (Some v) None ≡ None
      no true = refl
      no false = refl
  told_value_lem a (suc p) = go (look (eqb a s)) (look (eqb (suc p) (t + 1)))
    where
      go : Is (eqb a s) → Is (eqb (suc p) (t + 1)) → cond (eqb a s && eqb (suc p) (t + 1)) (Some v) (K a p) ≡ L a p
      go (yes! q x) (yes! j y) =
          let e = eqb→eq a s x in
          let f = eqb→eq (suc p) (t + 1) y in
          let g : p ≡ t = omega arith in
          rw (q, j, e, g) (sym here)
      go (yes! q x) (no! j y) = rw (q, j) (other a p (λ e f. eqb_ne (suc p) (t + 1) y (omega arith)))
      go (no! q x) d = rw q (other a p (λ e f. eqb_ne a s x e))

  -- of another stream nothing new is known
  latest_other : (a y : ℕ) → (a ≡ s → ⊥) → latest (K a) y ≡ latest (L a) y
  latest_other a y n = latest_cong (K a) (L a) y (λ p m. other a p (λ e f. n e))

  told_prev : (a y : ℕ) → t < y → cond (eqb a s) (Some v) (latest (K a) y) ≡ latest (L a) y
  told_prev a y l = go (look (eqb a s))
    where
      go : Is (eqb a s) → cond (eqb a s) (Some v) (latest (K a) y) ≡ latest (L a) y
      go (yes! q x) = let e = eqb→eq a s x in rw (q, e, latest_flat (L s) (suc t) y l (λ p m n. above p m), latest_suc (L s) t, here)
      go (no! q x) = rw q (latest_other a y (eqb_ne a s x))

  pub kept_told_lem : (e : Eqn) (r y : ℕ) → t < y → ((p : ℕ) → K r p ≡ L r p) → Edge e s t y → kept_told e s y t v (kept_of e K r y) ≡ kept_of e L r y
  kept_told_lem input r y l own g = refl
  kept_told_lem nil r y l own g = refl
  kept_told_lem unit r y l own g = refl
  kept_told_lem (one f a) r y l own g = refl
  kept_told_lem (two h a b) r y l own g = refl
  kept_told_lem (last a b) r y l own g = rw (told_prev a y l)
  kept_told_lem (delay a b) r y l own g = rw (told_value_lem a z, told_value_lem a y) (go (look (eqb b s)) (look (leb z t)))
    where
      z : ℕ
      z = point_of (K b) (K r) y

      go : Is (eqb b s)
          → Is (leb z t)
          → cond (eqb b s && leb z t) (of_delay (t + 1) (cond (eqb y (t + 1)) (below (L a) y) None) (below (L a) y)) (of_delay z (below (L a) z) (below (L a) y))
          ≡ kept_of (delay a b) L r y
      go (yes! q x) w =
          let e = eqb→eq b s x in
          let f = g e in
          rw (q, true_is (eqb y (t + 1)) (rw (f, add-one t) (eqb_refl (suc t))), new e f) (either w f)
        where
          new : b ≡ s → y ≡ suc t → point_of (L b) (L r) y ≡ y
          new e f = let h = past_le (L r) (suc t) in let j = past_here (L s) t (rw here tt) in rw (e, f) (omega arith)

          -- a set point just below the bound was known already, or is now
          either : Is (leb z t) → y ≡ suc t → cond (leb z t) (of_delay (t + 1) (below (L a) y) (below (L a) y)) (of_delay z (below (L a) z) (below (L a) y)) ≡ of_delay y (below (L a) y) (below (L a) y)
          either (yes! p x) f = let m : t + 1 ≡ y = omega arith in rw (p, m)
          either (no! p x) f = let m : z ≡ y = let h = point_le (K b) (K r) y in let k = leb-false z t p in omega arith in rw (p, m)
      go (no! q x) w = rw (q, past_cong (K b) (L b) y (λ p m. other b p (λ e f. eqb_ne b s x e)), past_cong (K r) (L r) y (λ p m. own p))
  kept_told_lem (signal c a b) r y l own g = rw (latest_other a y g.0, latest_other b y g.1)
  kept_told_lem (window f k a) r y l own g = refl

-- ---- the bound of stream s goes from y to x: L is what is known then, C the cells, and each shows L from some stamp on

-- a's event one below z, where z is one past the latest set point: seen, or kept if that set point lies below y
pub value_seam : (f v g : Stream) (lo y z z₀ : ℕ) → Seen f lo v → lo ≤ y → ((p : ℕ) → p < y → g p ≡ f p) → z₀ ≤ y → ((z ≡ z₀ → ⊥) → y < z)
    → 0 < z → or_else (v (pred z)) (cond (eqb z z₀) (below g z₀) None) ≡ f (pred z)
value_seam f v g lo y z z₀ w l same m new k = go (look (eqb z z₀))
  where
    kept : (n : ℕ) → 0 < n → n ≤ y → or_else (v (pred n)) (below g n) ≡ f (pred n)
    kept zero a b = absurd (omega arith)
    kept (suc p) a b = rw (same p b) (seen_or f v lo w p)

    go : Is (eqb z z₀) → or_else (v (pred z)) (cond (eqb z z₀) (below g z₀) None) ≡ f (pred z)
    go (yes! q x) = let e = eqb→eq z z₀ x in rw (q, e) (kept z₀ (omega arith) m)
    go (no! q x) = let n = new (eqb_ne z z₀ x) in rw (q, w.from (pred z) (omega arith)) (or_none (f (pred z)))

-- a set point that was not counted below y lies from y on
pub point_new : (b d : Stream) (y x : ℕ) → y ≤ x → (point_of b d x ≡ point_of b d y → ⊥) → y < point_of b d x
point_new b d y x l n = go (dec_lt y (point_of b d x))
  where
    go : Dec (y < point_of b d x) → y < point_of b d x
    go (yes k) = k
    go (no k) =
        let e = past_below b y x l (omega arith) in
        let f = past_below d y x l (omega arith) in
        absurd (n (omega arith))

below_pred : (f : Stream) (z : ℕ) → 0 < z → below f z ≡ f (pred z)
below_pred f zero l = absurd (omega arith)
below_pred f (suc p) l = refl

module _ (K L : Streams) (s y x : ℕ) (grows : y < x) (same : (i p : ℕ) → p < y → K i p ≡ L i p)
    (C : ℕ → Cell) (lo : ℕ → ℕ) (shows : (i : ℕ) → Seen (L i) (lo i) (view (C i))) (own : lo s ≤ y) (at : (C s).bound ≡ x) where
  absorbed_latest : (a : ℕ) {v : Option ℤ} → lo a ≤ y → v ≡ latest (K a) y → held_latest (C a) (C s).bound v ≡ latest (L a) x
  absorbed_latest a l k = rw (k, at, latest_cong (K a) (L a) y (same a), latest_seam (L a) (view (C a)) (lo a) (shows a) y x l (omega arith))

  module _ (a b : ℕ) (la : lo a ≤ y) (lb : lo b ≤ y) (k : (C s).kept ≡ kept_of (delay a b) K s y) where
    since_is : (C s).kept.since ≡ point_of (L b) (L s) y
    since_is = rw (k, past_cong (K b) (L b) y (same b), past_cong (K s) (L s) y (same s))

    later_is : later (C s) (C b) ≡ point_of (L b) (L s) x
    later_is =
        let e = since_is in
        let p = past_seam (L b) (view (C b)) (lo b) (shows b) y x lb (omega arith) in
        let q = past_seam (L s) (view (C s)) (lo s) (shows s) y x own (omega arith) in
        rw at (omega arith)

    value_is : cond (eqb (later (C s) (C b)) 0) None (value_at (C s) (C a) (later (C s) (C b))) ≡ below (L a) (point_of (L b) (L s) x)
    value_is = rw later_is (go (dec_lt 0 z))
      where
        z : ℕ
        z = point_of (L b) (L s) x

        go : Dec (0 < z) → cond (eqb z 0) None (value_at (C s) (C a) z) ≡ below (L a) z
        go (no d) = let e : z ≡ 0 = omega arith in rw e
        go (yes d) =
            let j : (C s).kept.value ≡ below (K a) (C s).kept.since = ap (λ c. c.value) k ∙ ap (λ c. below (K a) c.since) (sym k) in
            let m = point_le (L b) (L s) y in
            let e = since_is in
            rw (ne_eqb z 0 (λ q. omega arith), j, below_pred (L a) z d)
            (value_seam (L a) (view (C a)) (K a) (lo a) y z (C s).kept.since (shows a) la (same a) (omega arith) (λ n. point_new (L b) (L s) y x (omega arith) (λ q. n (q ∙ sym e))) d)

    absorbed_delay : absorb (delay a b) (C s) (C a) (C b) ≡ kept_of (delay a b) L s x
    absorbed_delay = rw (value_is, later_is, at, (shows a).from (pred x) (omega arith), below_pred (L a) x (omega arith), ap (λ c. c.prev) k, ap (λ c. c.prev_b) k)

  pub kept_absorbed : (e : Eqn) → Each (λ i. lo i ≤ y) (reads e) → (C s).kept ≡ kept_of e K s y → absorb e (C s) (C (arg_a e)) (C (arg_b e)) ≡ kept_of e L s x
  kept_absorbed input l k = k
  kept_absorbed nil l k = k
  kept_absorbed unit l k = k
  kept_absorbed (one f a) l k = k
  kept_absorbed (two g a b) l k = k
  kept_absorbed (last a b) l k = rw (absorbed_latest a l.0 (ap (λ c. c.prev) k), k)
  kept_absorbed (delay a b) l k = absorbed_delay a b l.0 l.1.0 k
  kept_absorbed (signal c a b) l k = rw (absorbed_latest a l.0 (ap (λ c. c.prev) k), absorbed_latest b l.1.0 (ap (λ c. c.prev_b) k), k)
  kept_absorbed (window f n a) l k = k
