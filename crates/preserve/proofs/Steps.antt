-- Each part of a step keeps a sound state sound: a cell written, the readers told, events let go, a mark of collection.
use Prim.Native.Nat.{ℕ, zero, suc, pred, ◌+◌, ◌-◌, ◌<◌, ◌≤◌}
use mathlib.Core.Path.{◌≡◌, refl, sym, ap, ◌∙◌, subst}
use mathlib.Core.Bool.{Bool, true, false, cond, ◌&&◌}
use Rattle.std.specs.Prelude.{Option, None, Some}
use mathlib.Core.List.{List, [], ◌∷◌, ◌++◌, map, append-nil}
use native.Mathlib.Omega.{arith}
use native.Mathlib.Decide.{dec_lt}
use lib.Dec.{leb, ltb, eqb}
use lib.IntN.{ℤ}
use lib.ListN.{length, get_or, length-set, length-map, length-append, length-drop, set}
use lib.Seq.{ext_get_or, set-set}
use borrow.Author.Tests.{ltb-true, eqb-true, eq-eqb}
use Rattle.meaning.specs.Plan.{Eqn, input, nil, unit, one, two, last, delay, signal, window}
use Rattle.meaning.specs.Arguments.{reads, arg_a, arg_b}
use Rattle.meaning.specs.Events.{Event, ev, events, horizon}
use Rattle.meaning.specs.Cycle.{Acyclic}
use Rattle.meaning.specs.Table.{latest_of, values, width}
use Rattle.meaning.specs.Missing.{Reason, can_lack}
use Rattle.machine.specs.State.{Kept, Passed, Cell, State, absent, cell_at, room, plan_of, count_of, with_bound, with_held, with_next, with_kept, with_since, with_value}
use Rattle.machine.specs.Reach.{view, value_at, from}
use Rattle.machine.specs.Step.{pass, passes, advance, later, absorb, absorbed, write, value_told, prior_told, since_told, kept_told, told, tell, least_waiting, drop_below, release, releases, raise}
use Rattle.machine.proofs.Cells.{set_cases, told_at}
use Rattle.machine.proofs.Window.{past_le}
use Rattle.machine.proofs.Rising.{drop_shorter}
use Rattle.machine.proofs.Release.{among, release_at, release_size, releases_at, releases_size}
use Rattle.encoding.specs.Sound.{IsValue, Rising, IsNext, DelayKept, IsKept, IsPassed, IsCount, SoundCell, Own, Sound}
use Rattle.preserve.proofs.Rising.{rising_top, rising_snoc, rising_drop}
use Rattle.preserve.proofs.Own.{dropped_own, and_true, own_told, absorb_own}
use Rattle.preserve.proofs.Counts.{pass_counts}
use Rattle.preserve.proofs.Values.{or_value, cond_value, slid_values, held_latest_lem, Holds, holds}

-- ---- a state with the same equations, every cell sound

plan_same : (M N : State) → length N ≡ length M → ((i : ℕ) → (cell_at N i).eqn ≡ (cell_at M i).eqn) → plan_of N ≡ plan_of M
plan_same M N l h =
    ext_get_or nil (plan_of N) (plan_of M) (length-map N (λ c. c.eqn) ∙ l ∙ sym (length-map M (λ c. c.eqn)))
    (λ i k. at N i ∙ h i ∙ sym (at M i))
  where
    at : (K : State) (i : ℕ) → get_or (plan_of K) i nil ≡ (cell_at K i).eqn
    at [] i = refl
    at (c ∷ K) zero = refl
    at (c ∷ K) (suc i) = at K i

pub sound_again : {cap : ℕ} (M N : State) → Sound cap M → length N ≡ length M → ((i : ℕ) → (cell_at N i).eqn ≡ (cell_at M i).eqn) → ((i : ℕ) → i < length M → SoundCell (length M) (cell_at N i)) → ((i : ℕ) → i < length M → Own (cell_at N i)) → Sound cap N
sound_again M N ok l q h w = record {
  size = ok.size;
  few = rw l ok.few;
  each = λ i k. rw l (h i (rw l at k));
  own = λ i k. w i (rw l at k);
  windows = rw (plan_same M N l q) ok.windows;
  acyclic = subst Acyclic (sym (plan_same M N l q)) ok.acyclic;
}

-- one cell written
pub set_sound : {cap : ℕ} (M : State) (s : ℕ) (c : Cell) → Sound cap M → s < length M → c.eqn ≡ (cell_at M s).eqn → SoundCell (length M) c → Own c → Sound cap (set M s c)
set_sound M s c ok l q h w =
    sound_again M (set M s c) ok (length-set M s c)
    (set_cases (λ i d. d.eqn ≡ (cell_at M i).eqn) M s c l (λ i n. refl) q)
    (set_cases (λ i d. i < length M → SoundCell (length M) d) M s c l (λ i n k. ok.each i k) (λ k. h))
    (set_cases (λ i d. i < length M → Own d) M s c l (λ i n k. ok.own i k) (λ k. w))

-- ---- let go

held_sound : (n : ℕ) (c : Cell) (es : List Event) → SoundCell n c → length es ≤ room → Rising 0 c.bound es → SoundCell n (with_held es c)
held_sound n c es ok l r = record { arguments = ok.arguments; value = ok.value; width = ok.width; out = ok.out; bound = ok.bound; few = l; held = r; next = ok.next; kept = ok.kept; passed = ok.passed; counts = ok.counts }

dropped_sound : (n w : ℕ) (c : Cell) (b : Bool) → SoundCell n c → SoundCell n (with_held (cond b (drop_below w c.held) c.held) c)
dropped_sound n w c true ok = let d = drop_shorter w c.held in let f = ok.few in held_sound n c (drop_below w c.held) ok (omega arith) (rising_drop w 0 c.bound c.held ok.held)
dropped_sound n w c false ok = held_sound n c c.held ok ok.few ok.held

pub release_sound : {cap : ℕ} (s : ℕ) (M : State) → Sound cap M → Sound cap (release s M)
release_sound s M ok =
    sound_again M (release s M) ok (release_size s M) (λ i. ap (λ c. c.eqn) (release_at s M i))
    (λ i k. rw (release_at s M i) (dropped_sound (length M) (least_waiting i M) (cell_at M i) (eqb i s) (ok.each i k)))
    (λ i k. rw (release_at s M i) (dropped_own (least_waiting i M) (cell_at M i) (eqb i s) (ok.own i k)))

pub releases_sound : {cap : ℕ} (ss : List ℕ) (M : State) → Sound cap M → Sound cap (releases ss M)
releases_sound ss M ok =
    sound_again M (releases ss M) ok (releases_size ss M) (λ i. ap (λ c. c.eqn) (releases_at ss M i))
    (λ i k. rw (releases_at ss M i) (dropped_sound (length M) (least_waiting i M) (cell_at M i) (among i ss) (ok.each i k)))
    (λ i k. rw (releases_at ss M i) (dropped_own (least_waiting i M) (cell_at M i) (among i ss) (ok.own i k)))

-- ---- told

cond_none : (p : Bool) (v : ℤ) (o : Option ℤ) → (p ≡ true → ⊥) → o ≡ None → cond p (Some v) o ≡ None
cond_none true v o h e = absurd (h refl)
cond_none false v o h e = e

module _ (y t : ℕ) (v : ℤ) (l : t < y) (hv : IsValue v) where
  value_kept_lem : (p : Bool) (k : Kept) → DelayKept y k → DelayKept y (value_told p t v k)
  value_kept_lem p k ok =
      record {
        prev = ok.prev;
        prev_b = ok.prev_b;
        since = ok.since;
        value = cond_value (p && eqb k.since (t + 1)) (Some v) k.value hv ok.value;
        prior = ok.prior;
        unset = λ z. cond_none (p && eqb k.since (t + 1)) v k.value (λ q. let r = eqb-true k.since (t + 1) (and_true p (eqb k.since (t + 1)) q).1 in omega arith) (ok.unset z);
        fresh = ok.fresh;
      }

  prior_kept : (p : Bool) (k : Kept) → DelayKept y k → DelayKept y (prior_told p y t v k)
  prior_kept p k ok =
      record {
        prev = ok.prev;
        prev_b = ok.prev_b;
        since = ok.since;
        value = ok.value;
        prior = cond_value (p && eqb y (t + 1)) (Some v) k.prior hv ok.prior;
        unset = ok.unset;
        fresh = λ z. absurd (omega (arith, l));
      }

  since_kept : (p : Bool) (k : Kept) → DelayKept y k → DelayKept y (since_told p y t k)
  since_kept p k ok = go (p && leb k.since t)
    where
      go : (b : Bool) → DelayKept y (cond b (with_since (t + 1) (with_value (cond (eqb y (t + 1)) k.prior None) k)) k)
      go true = record { prev = ok.prev; prev_b = ok.prev_b; since = omega (arith, l); value = cond_value (eqb y (t + 1)) k.prior None ok.prior tt; prior = ok.prior; unset = λ z. absurd (omega arith); fresh = ok.fresh }
      go false = ok

  kept_told_lem : (e : Eqn) (s : ℕ) (k : Kept) → IsKept e y k → IsKept e y (kept_told e s y t v k)
  kept_told_lem input s k ok = ok
  kept_told_lem nil s k ok = ok
  kept_told_lem unit s k ok = ok
  kept_told_lem (one f a) s k ok = ok
  kept_told_lem (two g a b) s k ok = ok
  kept_told_lem (last a b) s k ok = record { prev = cond_value (eqb a s) (Some v) k.prev hv ok.prev; fresh = λ z. absurd (omega (arith, l)); prev_b = ok.prev_b; since = ok.since; value = ok.value; prior = ok.prior }
  kept_told_lem (delay a b) s k ok = since_kept (eqb b s) (prior_told (eqb a s) y t v (value_told (eqb a s) t v k)) (prior_kept (eqb a s) (value_told (eqb a s) t v k) (value_kept_lem (eqb a s) k ok))
  kept_told_lem (signal c a b) s k ok = ok
  kept_told_lem (window f n a) s k ok = ok

with_kept_lem : (n : ℕ) (c : Cell) (k : Kept) → SoundCell n c → IsKept c.eqn c.bound k → SoundCell n (with_kept k c)
with_kept_lem n c k ok h = record { arguments = ok.arguments; value = ok.value; width = ok.width; out = ok.out; bound = ok.bound; few = ok.few; held = ok.held; next = ok.next; kept = h; passed = ok.passed; counts = ok.counts }

told_sound : (n s t : ℕ) (v : ℤ) (c : Cell) → IsValue v → SoundCell n c → SoundCell n (told s t v c)
unfolding told
told_sound n s t v c hv ok = go (ltb t c.bound) refl
  where
    go : (b : Bool) → ltb t c.bound ≡ b → SoundCell n (with_kept (cond b (kept_told c.eqn s c.bound t v c.kept) c.kept) c)
    go true e = with_kept_lem n c (kept_told c.eqn s c.bound t v c.kept) ok (kept_told_lem c.bound t v (ltb-true t c.bound e) hv c.eqn s c.kept ok.kept)
    go false e = with_kept_lem n c c.kept ok ok.kept

abbrev pub Values : List Event → Type 0
Values [] = Unit {0}
Values (e ∷ es) = IsValue e.value × Values es

pub tell_sound : {cap : ℕ} (s : ℕ) (new : List Event) (M : State) → Values new → Sound cap M → Sound cap (tell s new M)
unfolding tell
tell_sound s [] M h ok = ok
tell_sound s (e ∷ es) M h ok =
    sound_again M (map (told s e.stamp e.value) M) ok (length-map M (told s e.stamp e.value))
    (λ i. ap (λ c. c.eqn) (told_at s e.stamp e.value M i) ∙ (unfold told in refl))
    (λ i k. rw (told_at s e.stamp e.value M i) (told_sound (length M) s e.stamp e.value (cell_at M i) h.0 (ok.each i k)))
    (λ i k. rw (told_at s e.stamp e.value M i) (own_told s e.stamp e.value (cell_at M i) (ok.own i k)))

-- ---- written

next_up : (o : Bool) (n x y : ℕ) → x ≤ y → IsNext o n x → IsNext o n y
next_up true n x y h k = omega arith
next_up false n x y h k = k

kept_up : (e : Eqn) (x y : ℕ) (k : Kept) → x ≤ y → (y ≡ 0 → ⊥) → IsKept e x k → IsKept e y k
kept_up input x y k h z ok = ok
kept_up nil x y k h z ok = ok
kept_up unit x y k h z ok = ok
kept_up (one f a) x y k h z ok = ok
kept_up (two g a b) x y k h z ok = ok
kept_up (last a b) x y k h z ok = record { prev = ok.prev; fresh = λ q. absurd (z q); prev_b = ok.prev_b; since = ok.since; value = ok.value; prior = ok.prior }
kept_up (delay a b) x y k h z ok = let s = ok.since in record { prev = ok.prev; prev_b = ok.prev_b; since = omega arith; value = ok.value; prior = ok.prior; unset = ok.unset; fresh = λ q. absurd (z q) }
kept_up (signal c a b) x y k h z ok = record { prev = ok.prev; prev_b = ok.prev_b; fresh = λ q. absurd (z q); fresh_b = λ q. absurd (z q); since = ok.since; value = ok.value; prior = ok.prior }
kept_up (window f n a) x y k h z ok = ok

-- what comes in with a bound that goes up to y: nothing, or one event just below it
pub data Comes (y : ℕ) (c : Cell) : List Event → Type 0 where
  silence : Comes y c []
  one_event : (t : ℕ) (v : ℤ) → c.bound ≤ t → y ≡ suc t → IsValue v → length c.held < room → Comes y c (ev t v ∷ [])

pub comes_values : {y : ℕ} {c : Cell} {new : List Event} → Comes y c new → Values new
comes_values silence = tt
comes_values (one_event t v l e h k) = (h, tt)

pub advance_sound : (n y : ℕ) (c : Cell) (new : List Event) (w : Passed) → SoundCell n c → c.bound < y → y ≤ horizon → Comes y c new → IsPassed c.eqn y w → ((q : Reason) → IsCount (can_lack c.eqn) y (count_of q w)) → SoundCell n (advance y new w c)
advance_sound n y c new w ok l h cm ps cs =
    record {
      arguments = ok.arguments;
      value = ok.value;
      width = ok.width;
      out = ok.out;
      bound = h;
      few = room_left cm;
      held = rises cm;
      next = next_up c.out c.next c.bound y (omega arith) ok.next;
      kept = kept_up c.eqn c.bound y c.kept (omega arith) (λ z. omega (arith, l)) ok.kept;
      passed = ps;
      counts = cs;
    }
  where
    room_left : {new : List Event} → Comes y c new → length (c.held ++ new) ≤ room
    room_left silence = rw append-nil ok.few
    room_left (one_event t v a e k r) = rw (length-append c.held (ev t v ∷ [])) (omega arith)

    rises : {new : List Event} → Comes y c new → Rising 0 y (c.held ++ new)
    rises silence = rw append-nil (rising_top 0 c.bound y c.held (omega (arith, l)) ok.held)
    rises (one_event t v a e k r) = rw e (rising_snoc 0 c.bound t v c.held a k ok.held)

latest_few : (k : ℕ) (xs : List ℤ) → length (latest_of k xs) ≤ k
unfolding latest_of
latest_few k xs = rw (length-drop (length xs - k) xs) (omega arith)

-- what a window keeps follows the bound
pass_sound : (e : Eqn) (y : ℕ) (o a b : Cell) → o.bound < y → IsPassed e o.bound o.passed → Holds a → IsPassed e y (pass e y o a b)
pass_sound input y o a b l ok ha = ok
pass_sound nil y o a b l ok ha = ok
pass_sound unit y o a b l ok ha = ok
pass_sound (one f _) y o a b l ok ha = ok
pass_sound (two g _ _) y o a b l ok ha = ok
pass_sound (last _ _) y o a b l ok ha = ok
pass_sound (delay _ _) y o a b l ok ha = ok
pass_sound (signal c _ _) y o a b l ok ha = ok
pass_sound (window f k _) y o a b l ok ha =
    record {
      few = latest_few (width k) (o.passed.window ++ values (events (from o.bound (view a)) y));
      values = slid_values (width k) o.bound y o.passed.window (view a) ok.values ha;
      fresh = λ z. absurd (omega arith);
    }

absorb_kept : (e : Eqn) (o a b : Cell) → 0 < o.bound → IsKept e o.bound o.kept → Holds a → Holds b → IsKept e o.bound (absorb e o a b)
absorb_kept input o a b z ok ha hb = ok
absorb_kept nil o a b z ok ha hb = ok
absorb_kept unit o a b z ok ha hb = ok
absorb_kept (one f _) o a b z ok ha hb = ok
absorb_kept (two g _ _) o a b z ok ha hb = ok
absorb_kept (last _ _) o a b z ok ha hb =
    record { prev = held_latest_lem a o.bound o.kept.prev ha ok.prev; fresh = λ q. absurd (omega arith); prev_b = ok.prev_b; since = ok.since; value = ok.value; prior = ok.prior }
absorb_kept (delay _ _) o a b z ok ha hb =
    let s = ok.since in
    let p = past_le (view b) o.bound in
    let q = past_le (view o) o.bound in
    record {
      prev = ok.prev;
      prev_b = ok.prev_b;
      since = omega arith;
      value = cond_value (eqb (later o b) 0) None (value_at o a (later o b)) tt
          (or_value (view a (pred (later o b))) (cond (eqb (later o b) o.kept.since) o.kept.value None) (ha (pred (later o b))) (cond_value (eqb (later o b) o.kept.since) o.kept.value None ok.value tt));
      prior = ha (pred o.bound);
      unset = λ u. rw (eq-eqb (later o b) 0 u);
      fresh = λ q. absurd (omega arith);
    }
absorb_kept (signal c _ _) o a b z ok ha hb =
    record {
      prev = held_latest_lem a o.bound o.kept.prev ha ok.prev;
      prev_b = held_latest_lem b o.bound o.kept.prev_b hb ok.prev_b;
      fresh = λ q. absurd (omega arith);
      fresh_b = λ q. absurd (omega arith);
      since = ok.since;
      value = ok.value;
      prior = ok.prior;
    }
absorb_kept (window f k _) o a b z ok ha hb = ok

absent_holds : Holds absent
absent_holds t = tt

pub cell_holds : {cap : ℕ} (M : State) → Sound cap M → (i : ℕ) → Holds (cell_at M i)
cell_holds M ok i = go (dec_lt i (length M))
  where
    go : Dec (i < length M) → Holds (cell_at M i)
    go (yes h) = holds (length M) (cell_at M i) (ok.each i h)
    go (no h) = rw (Rattle.machine.proofs.Cells.beyond M i (omega arith)) absent_holds

pub passes_sound : {cap : ℕ} (s y : ℕ) (M : State) → Sound cap M → s < length M → (cell_at M s).bound < y → IsPassed (cell_at M s).eqn y (passes s y M)
passes_sound s y M ok l h = let o = cell_at M s in pass_sound o.eqn y o (cell_at M (arg_a o.eqn)) (cell_at M (arg_b o.eqn)) h (ok.each s l).passed (cell_holds M ok (arg_a o.eqn))

pub passes_counts : {cap : ℕ} (s y : ℕ) (M : State) → Sound cap M → s < length M → (cell_at M s).bound < y → (q : Reason) → IsCount (can_lack (cell_at M s).eqn) y (count_of q (passes s y M))
passes_counts s y M ok l h q = let o = cell_at M s in pass_counts y o (cell_at M (arg_a o.eqn)) (cell_at M (arg_b o.eqn)) h q o.eqn ((ok.each s l).counts q)

pub write_sound : {cap : ℕ} (s y : ℕ) (new : List Event) (M : State) → Sound cap M → s < length M → (cell_at M s).bound < y → y ≤ horizon → Comes y (cell_at M s) new → Sound cap (write s y new M)
unfolding write absorbed
write_sound s y new M ok l h top cm =
    let c = advance y new (passes s y M) (cell_at M s) in
    let N = set M s c in
    let fine = advance_sound (length M) y (cell_at M s) new (passes s y M) (ok.each s l) h top cm (passes_sound s y M ok l h) (passes_counts s y M ok l h) in
    let q : cell_at N s ≡ c = lib.Seq.get_or-set_same M s c absent l in
    let e = c.eqn in
    let k = absorb e c (cell_at N (arg_a e)) (cell_at N (arg_b e)) in
    let all = set_cases (λ i. Holds) M s c l (λ i n. cell_holds M ok i) (holds (length M) c fine) in
    let sound = set_sound M s (with_kept k c) ok l refl
    (with_kept_lem (length M) c k fine (absorb_kept e c (cell_at N (arg_a e)) (cell_at N (arg_b e)) (omega arith) fine.kept (all (arg_a e)) (all (arg_b e))))
    (absorb_own e c (cell_at N (arg_a e)) (cell_at N (arg_b e)) fine.held) in
    rw (q, set-set M s c (with_kept k c)) sound

-- the whole step
pub raise_sound : {cap : ℕ} (s y : ℕ) (new : List Event) (M : State) → Sound cap M → s < length M → (cell_at M s).bound < y → y ≤ horizon → Comes y (cell_at M s) new → Sound cap (raise s y new M)
unfolding raise
raise_sound s y new M ok l h top cm =
    releases_sound (s ∷ reads (cell_at M s).eqn) (tell s new (write s y new M))
    (tell_sound s new (write s y new M) (comes_values cm) (write_sound s y new M ok l h top cm))

-- progress writes the bound of an input
pub bound_sound : {cap : ℕ} (s y : ℕ) (M : State) → Sound cap M → s < length M → (cell_at M s).eqn ≡ input → (cell_at M s).bound ≤ y → y ≤ horizon → Sound cap (set M s (with_bound y (cell_at M s)))
bound_sound s y M ok l e h top =
    let c = cell_at M s in
    let k = ok.each s l in
    set_sound M s (with_bound y c) ok l refl
    (record { arguments = k.arguments; value = k.value; width = k.width; out = k.out; bound = top; few = k.few; held = rising_top 0 c.bound y c.held h k.held; next = next_up c.out c.next c.bound y h k.next; kept = rw e (rw e at k.kept); passed = rw e (rw e at k.passed); counts = λ q. rw e (rw e at (k.counts q)) })
    (λ d. absurd (rw e at d))

-- a mark of collection
pub next_sound : {cap : ℕ} (s n : ℕ) (M : State) → Sound cap M → s < length M → (cell_at M s).out ≡ true → n ≤ (cell_at M s).bound → Sound cap (set M s (with_next n (cell_at M s)))
next_sound s n M ok l e h =
    let c = cell_at M s in
    let k = ok.each s l in
    set_sound M s (with_next n c) ok l refl
    (record { arguments = k.arguments; value = k.value; width = k.width; out = k.out; bound = k.bound; few = k.few; held = k.held; next = rw e h; kept = k.kept; passed = k.passed; counts = k.counts })
    (ok.own s l)
