-- What `./order` makes of readings is in order: after each stamp every input is known to it or one past it, so none is more
-- than one stamp behind another.
use Prim.Native.Nat.{ℕ, zero, suc, ◌+◌, ◌≤◌, ◌<◌}
use mathlib.Core.Path.{◌≡◌, refl, sym, subst}
use mathlib.Core.Bool.{Bool, true, false, not, cond, ◌&&◌}
use Rattle.std.specs.Prelude.{Option, None, Some}
use mathlib.Core.List.{List, [], ◌∷◌, ◌++◌}
use native.Mathlib.Omega.{arith}
use native.Mathlib.Decide.{ℕ_discrete}
use lib.Dec.{T, ltb, ltb→lt}
use lib.IntN.{ℤ}
use lib.ListN.{length}
use borrow.Author.Tests.{ltb-false, eq-eqb, ne_eqb}
use Rattle.meaning.specs.Events.{Streams, has, horizon}
use Rattle.machine.specs.State.{Declared}
use Rattle.meaning.proofs.Tests.{Is, yes!, no!, look}
use Rattle.runs.specs.Demand3.{IsInput}
use Rattle.trace.specs.declared.Record.{Record}
use Rattle.trace.specs.declared.Record.TheVariants.{Reading, Progress}
use Rattle.ordered.specs.Ordered.{raised, Ordered, InOrder}
use Rattle.ordered.specs.Order.{known_after, is_in, given, led, readings_at, lacks, progress_at, stamp_at, trace_to, order_of}

-- ## One list after another

ordered_append : (ds : List Declared) (to : ℕ → ℕ) (rs qs : List Record) → Ordered ds to rs → Ordered ds (known_after to rs) qs → Ordered ds to (rs ++ qs)
ordered_append ds to [] qs h k = k
ordered_append ds to (Reading s t v ∷ rs) qs h k = (h.0, h.1, h.2, ordered_append ds (raised to s (suc t)) rs qs h.3 k)
ordered_append ds to (Progress s y ∷ rs) qs h k = (h.0, h.1, h.2, ordered_append ds (raised to s y) rs qs h.3 k)

pub known_append : (to : ℕ → ℕ) (rs qs : List Record) → known_after to (rs ++ qs) ≡ known_after (known_after to rs) qs
known_append to [] qs = refl
known_append to (Reading s t v ∷ rs) qs = known_append (raised to s (suc t)) rs qs
known_append to (Progress s y ∷ rs) qs = known_append (raised to s y) rs qs

-- ## One input

raised_there : (to : ℕ → ℕ) (s y j : ℕ) → s ≡ j → raised to s y j ≡ y
raised_there to s y j e = rw (eq-eqb s j e)

raised_other : (to : ℕ → ℕ) (s y j : ℕ) → (s ≡ j → ⊥) → raised to s y j ≡ to j
raised_other to s y j n = rw (ne_eqb s j n)

-- what holds of the new bound and of the old one
raised_each : (P : ℕ → Type 0) (to : ℕ → ℕ) (s y j : ℕ) → (s ≡ j → P y) → P (to j) → P (raised to s y j)
raised_each P to s y j f p = go (ℕ_discrete s j)
  where
    go : Dec (s ≡ j) → P (raised to s y j)
    go (yes e) = subst P (sym (raised_there to s y j e)) (f e)
    go (no d) = subst P (sym (raised_other to s y j d)) p

module _ (ds : List Declared) (rd : Streams) where
  -- ## Progress to a stamp

  lacks_input : (a b c : Bool) → T (a && (not b && c)) → T a
  lacks_input true b c h = tt
  lacks_input false b c h = h

  lacks_reading : (a b c : Bool) → T (a && (not b && c)) → b ≡ false
  lacks_reading true true c h = absurd h
  lacks_reading true false c h = refl
  lacks_reading false b c h = absurd h

  lacks_bound : (a b c : Bool) → T (a && (not b && c)) → T c
  lacks_bound true true c h = absurd h
  lacks_bound true false c h = h
  lacks_bound false b c h = absurd h

  lacks_not : (a b c : Bool) → T a → b ≡ false → (a && (not b && c)) ≡ false → c ≡ false
  lacks_not true true c h e z = let q : ◌≡◌ {A = ℕ} 0 1 = cc in absurd (omega arith)
  lacks_not true false c h e z = z
  lacks_not false b c h e z = absurd h

  progress_ordered : (to : ℕ → ℕ) (t s n : ℕ) → t ≤ horizon → s + n ≤ length ds → Ordered ds to (progress_at ds rd to t s n)
  progress_ordered to t s zero h l = tt
  progress_ordered to t s (suc n) h l =
      go (lacks ds rd to t s) (lacks_input (is_in ds s) (has (rd s t)) (ltb (to s) t)) (λ x. ltb→lt (to s) t (lacks_bound (is_in ds s) (has (rd s t)) (ltb (to s) t) x))
      (progress_ordered (raised to s t) t (suc s) n h (omega arith)) (progress_ordered to t (suc s) n h (omega arith))
    where
      go : (b : Bool) → (T b → T (is_in ds s)) → (T b → to s < t) → Ordered ds (raised to s t) (progress_at ds rd (raised to s t) t (suc s) n) → Ordered ds to (progress_at ds rd to t (suc s) n)
          → Ordered ds to (cond b (Progress s t ∷ progress_at ds rd (raised to s t) t (suc s) n) (progress_at ds rd to t (suc s) n))
      go true f g x y = let u = g tt in ((omega arith, f tt), omega arith, h, x)
      go false f g x y = y

  -- a stream is told of it, or known as before
  progress_each : (P : ℕ → Type 0) (to : ℕ → ℕ) (t s n j : ℕ) → (has (rd j t) ≡ false → to j < t → P t) → P (to j) → P (known_after to (progress_at ds rd to t s n) j)
  progress_each P to t s zero j f p = p
  progress_each P to t s (suc n) j f p =
      go (lacks ds rd to t s) (lacks_reading (is_in ds s) (has (rd s t)) (ltb (to s) t)) (λ x. ltb→lt (to s) t (lacks_bound (is_in ds s) (has (rd s t)) (ltb (to s) t) x))
      (progress_each P (raised to s t) t (suc s) n j) (progress_each P to t (suc s) n j f p)
    where
      go : (b : Bool) → (T b → has (rd s t) ≡ false) → (T b → to s < t) → ((has (rd j t) ≡ false → raised to s t j < t → P t) → P (raised to s t j) → P (known_after (raised to s t) (progress_at ds rd (raised to s t) t (suc s) n) j))
          → P (known_after to (progress_at ds rd to t (suc s) n) j) → P (known_after to (cond b (Progress s t ∷ progress_at ds rd (raised to s t) t (suc s) n) (progress_at ds rd to t (suc s) n)) j)
      go true u w x y =
          x (λ e. raised_each (λ k. k < t → P t) to s t j (λ q k. absurd (omega arith)) (f e))
          (raised_each P to s t j (λ q. f (rw q at (u tt)) (rw q at (w tt))) p)
      go false u w x y = y

  -- one that is silent there is then known to it
  pub progress_told : (to : ℕ → ℕ) (t s n j : ℕ) → s ≤ j → j < s + n → T (is_in ds j) → has (rd j t) ≡ false → t ≤ known_after to (progress_at ds rd to t s n) j
  progress_told to t s zero j l m i e = absurd (omega arith)
  progress_told to t s (suc n) j l m i e =
      go (lacks ds rd to t s) (λ q z. ltb-false (to s) t (lacks_not (is_in ds s) (has (rd s t)) (ltb (to s) t) (rw q i) (rw q e) z)) (ℕ_discrete s j)
      (λ d. progress_told (raised to s t) t (suc s) n j d (omega arith) i e) (λ d. progress_told to t (suc s) n j d (omega arith) i e)
    where
      go : (b : Bool) → (s ≡ j → b ≡ false → t ≤ to s) → Dec (s ≡ j) → (suc s ≤ j → t ≤ known_after (raised to s t) (progress_at ds rd (raised to s t) t (suc s) n) j) → (suc s ≤ j → t ≤ known_after to (progress_at ds rd to t (suc s) n) j)
          → t ≤ known_after to (cond b (Progress s t ∷ progress_at ds rd (raised to s t) t (suc s) n) (progress_at ds rd to t (suc s) n)) j
      go true f (yes q) x y = progress_each (λ k. t ≤ k) (raised to s t) t (suc s) n j (λ u w. omega arith) (let z = raised_there to s t j q in omega arith)
      go false f (yes q) x y = progress_each (λ k. t ≤ k) to t (suc s) n j (λ u w. omega arith) (let z = f q refl in rw q at z)
      go true f (no d) x y = x (omega arith)
      go false f (no d) x y = y (omega arith)

  -- ## The readings of a stamp

  -- all inputs are known to m, those that have one no further than one past it, nor past the stamp
  readings_ordered : (to : ℕ → ℕ) (m t s n : ℕ) → s + n ≤ length ds → ((j : ℕ) → IsInput ds j → m ≤ to j) → ((j : ℕ) → s ≤ j → IsInput ds j → T (has (rd j t)) → (to j ≤ suc m) × (to j ≤ t)) → Ordered ds to (readings_at ds rd t s n)
  readings_ordered to m t s zero l low high = tt
  readings_ordered to m t s (suc n) l low high =
      go (is_in ds s) (λ i. (omega arith, i)) (rd s t) (λ i h. high s (omega arith) (omega arith, i) h)
      (readings_ordered (raised to s (suc t)) m t (suc s) n (omega arith)) (readings_ordered to m t (suc s) n (omega arith) low (λ j k. high j (omega arith)))
    where
      go : (b : Bool) → (T b → IsInput ds s) → (o : Option ℤ) → (T b → T (has o) → (to s ≤ suc m) × (to s ≤ t))
          → (((j : ℕ) → IsInput ds j → m ≤ raised to s (suc t) j) → ((j : ℕ) → suc s ≤ j → IsInput ds j → T (has (rd j t)) → (raised to s (suc t) j ≤ suc m) × (raised to s (suc t) j ≤ t)) → Ordered ds (raised to s (suc t)) (readings_at ds rd t (suc s) n))
          → Ordered ds to (readings_at ds rd t (suc s) n) → Ordered ds to (cond b (given s t o) [] ++ readings_at ds rd t (suc s) n)
      go false i o h x y = y
      go true i None h x y = y
      go true i (Some v) h x y =
          let u = h tt tt in let a = u.0 in let b = u.1 in
          (i tt, b, (λ j k. omega (arith, low j k)), x (λ j k. raised_each (λ z. m ≤ z) to s (suc t) j (λ q. omega (arith, low s (i tt))) (low j k)) (λ j k p q. let z = high j (omega arith) p q in let e = raised_other to s (suc t) j (λ r. omega arith) in rw e z))

  -- a stream that has one is known past it, the others as before
  readings_each : (P : ℕ → Type 0) (to : ℕ → ℕ) (t s n j : ℕ) → P (suc t) → P (to j) → P (known_after to (readings_at ds rd t s n) j)
  readings_each P to t s zero j f p = p
  readings_each P to t s (suc n) j f p =
      go (is_in ds s) (rd s t) (readings_each P (raised to s (suc t)) t (suc s) n j f (raised_each P to s (suc t) j (λ q. f) p)) (readings_each P to t (suc s) n j f p)
    where
      go : (b : Bool) (o : Option ℤ) → P (known_after (raised to s (suc t)) (readings_at ds rd t (suc s) n) j) → P (known_after to (readings_at ds rd t (suc s) n) j) → P (known_after to (cond b (given s t o) [] ++ readings_at ds rd t (suc s) n) j)
      go false o x y = y
      go true None x y = y
      go true (Some v) x y = x

  readings_told : (to : ℕ → ℕ) (t s n j : ℕ) → s ≤ j → j < s + n → T (is_in ds j) → T (has (rd j t)) → t ≤ known_after to (readings_at ds rd t s n) j
  readings_told to t s zero j l m i e = absurd (omega arith)
  readings_told to t s (suc n) j l m i e =
      go (is_in ds s) (λ q. rw q i) (rd s t) (λ q. rw q e) (ℕ_discrete s j)
      (λ d. readings_told (raised to s (suc t)) t (suc s) n j d (omega arith) i e) (λ d. readings_told to t (suc s) n j d (omega arith) i e)
    where
      go : (b : Bool) → (s ≡ j → T b) → (o : Option ℤ) → (s ≡ j → T (has o)) → Dec (s ≡ j) → (suc s ≤ j → t ≤ known_after (raised to s (suc t)) (readings_at ds rd t (suc s) n) j) → (suc s ≤ j → t ≤ known_after to (readings_at ds rd t (suc s) n) j)
          → t ≤ known_after to (cond b (given s t o) [] ++ readings_at ds rd t (suc s) n) j
      go true f (Some v) g (yes q) x y = readings_each (λ k. t ≤ k) (raised to s (suc t)) t (suc s) n j (omega arith) (let z = raised_there to s (suc t) j q in omega arith)
      go true f None g (yes q) x y = absurd (g q)
      go false f o g (yes q) x y = absurd (f q)
      go true f (Some v) g (no d) x y = x (omega arith)
      go true f None g (no d) x y = y (omega arith)
      go false f o g (no d) x y = y (omega arith)

  -- ## A stamp

  -- before stamp t: no input is more than one stamp ahead of another, and none is known past t
  record Even (to : ℕ → ℕ) (t : ℕ) : Type 0 where
    least : ℕ
    low : (j : ℕ) → IsInput ds j → least ≤ to j
    high : (j : ℕ) → IsInput ds j → to j ≤ suc least
    past : (j : ℕ) → IsInput ds j → to j ≤ t

  -- after the progress
  module _ (to : ℕ → ℕ) (t : ℕ) (x : Even to t) where
    abbrev mid : ℕ → ℕ
    mid = known_after to (progress_at ds rd to t 0 (length ds))

    mid_low : (j : ℕ) → IsInput ds j → x.least ≤ mid j
    mid_low j i = let a = x.low j i in progress_each (λ k. x.least ≤ k) to t 0 (length ds) j (λ e l. omega arith) a

    mid_past : (j : ℕ) → IsInput ds j → mid j ≤ t
    mid_past j i = progress_each (λ k. k ≤ t) to t 0 (length ds) j (λ e l. omega arith) (x.past j i)

    mid_high : (j : ℕ) → IsInput ds j → T (has (rd j t)) → mid j ≤ suc x.least
    mid_high j i h = progress_each (λ k. k ≤ suc x.least) to t 0 (length ds) j (λ e l. absurd (rw e at h)) (x.high j i)

    both_ordered : t ≤ horizon → Ordered ds to (progress_at ds rd to t 0 (length ds) ++ readings_at ds rd t 0 (length ds))
    both_ordered h =
        ordered_append ds to (progress_at ds rd to t 0 (length ds)) (readings_at ds rd t 0 (length ds)) (progress_ordered to t 0 (length ds) h (omega arith))
        (readings_ordered mid x.least t 0 (length ds) (omega arith) mid_low (λ j k i e. (mid_high j i e, mid_past j i)))

    both_even : Even (known_after to (progress_at ds rd to t 0 (length ds) ++ readings_at ds rd t 0 (length ds))) (suc t)
    both_even = rw (known_append to (progress_at ds rd to t 0 (length ds)) (readings_at ds rd t 0 (length ds))) (record { least = t; low = above; high = below; past = below })
      where
        below : (j : ℕ) → IsInput ds j → known_after mid (readings_at ds rd t 0 (length ds)) j ≤ suc t
        below j i = readings_each (λ k. k ≤ suc t) mid t 0 (length ds) j (omega arith) (omega (arith, mid_past j i))

        above : (j : ℕ) → IsInput ds j → t ≤ known_after mid (readings_at ds rd t 0 (length ds)) j
        above j i = go (look (has (rd j t)))
          where
            go : Is (has (rd j t)) → t ≤ known_after mid (readings_at ds rd t 0 (length ds)) j
            go (yes! e h) = let l = i.0 in readings_told mid t 0 (length ds) j (omega arith) (omega arith) i.1 h
            go (no! e h) =
                let l = i.0 in
                readings_each (λ k. t ≤ k) mid t 0 (length ds) j (omega arith) (progress_told to t 0 (length ds) j (omega arith) (omega arith) i.1 e)

    stamp_even : t ≤ horizon → Ordered ds to (stamp_at ds rd to t) × Even (known_after to (stamp_at ds rd to t)) (suc t)
    stamp_even h = go (readings_at ds rd t 0 (length ds)) (both_ordered h) both_even
      where
        go : (rs : List Record) → Ordered ds to (progress_at ds rd to t 0 (length ds) ++ rs) → Even (known_after to (progress_at ds rd to t 0 (length ds) ++ rs)) (suc t)
            → Ordered ds to (led (progress_at ds rd to t 0 (length ds)) rs) × Even (known_after to (led (progress_at ds rd to t 0 (length ds)) rs)) (suc t)
        go [] o e = (tt, record { least = x.least; low = x.low; high = x.high; past = λ j i. omega (arith, x.past j i) })
        go (r ∷ rs) o e = (o, e)

  -- ## The whole trace

  trace_even : (n : ℕ) → n ≤ horizon → InOrder ds (trace_to ds rd n) × Even (known_after (λ i. 0) (trace_to ds rd n)) n
  unfolding trace_to
  trace_even zero h = (tt, record { least = 0; low = λ j i. omega arith; high = λ j i. omega arith; past = λ j i. omega arith })
  trace_even (suc t) h =
      let x = trace_even t (omega arith) in
      let to = known_after (λ i. 0) (trace_to ds rd t) in
      let y = stamp_even to t x.1 (omega arith) in
      (ordered_append ds (λ i. 0) (trace_to ds rd t) (stamp_at ds rd to t) x.0 y.0, rw (known_append (λ i. 0) (trace_to ds rd t) (stamp_at ds rd to t)) y.1)

-- whatever the plan and the readings
pub order_ordered : (ds : List Declared) (rd : Streams) (n y : ℕ) → n ≤ horizon → y ≤ horizon → InOrder ds (order_of ds rd n y)
order_ordered ds rd n y h k =
    let to = known_after (λ i. 0) (trace_to ds rd n) in
    ordered_append ds (λ i. 0) (trace_to ds rd n) (progress_at ds (λ s t. None) to y 0 (length ds)) (trace_even ds rd n h).0 (progress_ordered ds (λ s t. None) to y 0 (length ds) k (omega arith))
