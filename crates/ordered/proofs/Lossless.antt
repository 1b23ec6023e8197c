-- The trace that `./order` makes brings each input just its readings, and all of it is taken.
use Prim.Native.Nat.{ℕ, zero, suc, ◌+◌, ◌≤◌, ◌<◌}
use mathlib.Core.Path.{◌≡◌, refl, sym, ap, ap₂, ◌∙◌}
use mathlib.Core.Bool.{Bool, true, false, cond}
use Rattle.std.specs.Prelude.{Option, None, Some}
use mathlib.Core.List.{List, [], ◌∷◌, ◌++◌, map, append-nil, append_assoc}
use native.Mathlib.Omega.{arith}
use native.Mathlib.Decide.{ℕ_discrete}
use lib.Dec.{T}
use lib.IntN.{ℤ}
use lib.ListN.{length}
use borrow.Author.Tests.{eq-eqb, ne_eqb}
use Rattle.meaning.specs.Events.{Event, here, Streams, events, horizon}
use Rattle.machine.specs.State.{Declared}
use Rattle.runs.specs.Seen.{reading_of}
use Rattle.runs.specs.Demand3.{IsInput}
use Rattle.operators.specs.Limits.{capacity}
use Rattle.plan.specs.Rules.{declared}
use Rattle.engine.specs.Load.{load_reply}
use Rattle.trace.specs.declared.Record.{Record}
use Rattle.trace.specs.declared.Record.TheVariants.{Reading, Progress}
use Rattle.replaying.specs.Replay.{call_of}
use Rattle.replaying.specs.Whole.{Lines, Printed}
use Rattle.ordered.specs.Ordered.{raised, readings_of, bound_from}
use Rattle.ordered.specs.Order.{known_after, is_in, given, led, readings_at, lacks, progress_at, stamp_at, trace_to, order_of, Lossless}
use Rattle.ordered.proofs.Taken.{ordered_printed}
use Rattle.ordered.proofs.Order.{known_append, progress_told, order_ordered}

-- what some records bring to input i
abbrev brought : ℕ → List Record → List Event
brought i rs = readings_of i (map call_of rs)

brought_append : (i : ℕ) (rs qs : List Record) → brought i (rs ++ qs) ≡ brought i rs ++ brought i qs
brought_append i [] qs = refl
brought_append i (r ∷ rs) qs = ap (λ (l : List Event). reading_of i (call_of r) ++ l) (brought_append i rs qs) ∙ sym (append_assoc (reading_of i (call_of r)) (brought i rs) (brought i qs))

-- how far they take it
bound_known : (to : ℕ → ℕ) (i : ℕ) (rs : List Record) → bound_from (to i) i (map call_of rs) ≡ known_after to rs i
bound_known to i [] = refl
bound_known to i (Reading s t v ∷ rs) = bound_known (raised to s (suc t)) i rs
bound_known to i (Progress s y ∷ rs) = bound_known (raised to s y) i rs

module _ (ds : List Declared) (rd : Streams) (i : ℕ) where
  progress_none : (to : ℕ → ℕ) (t s n : ℕ) → brought i (progress_at ds rd to t s n) ≡ []
  progress_none to t s zero = refl
  progress_none to t s (suc n) = go (lacks ds rd to t s) (progress_none (raised to s t) t (suc s) n) (progress_none to t (suc s) n)
    where
      go : (b : Bool) → brought i (progress_at ds rd (raised to s t) t (suc s) n) ≡ [] → brought i (progress_at ds rd to t (suc s) n) ≡ []
          → brought i (cond b (Progress s t ∷ progress_at ds rd (raised to s t) t (suc s) n) (progress_at ds rd to t (suc s) n)) ≡ []
      go true x y = x
      go false x y = y

  -- a reading of another input
  given_other : (s t : ℕ) (b : Bool) (o : Option ℤ) → (s ≡ i → ⊥) → brought i (cond b (given s t o) []) ≡ []
  given_other s t false o n = refl
  given_other s t true None n = refl
  given_other s t true (Some v) n = rw (ne_eqb s i n)

  given_same : (s t : ℕ) (b : Bool) (o : Option ℤ) → T b → s ≡ i → brought i (cond b (given s t o) []) ≡ here t o
  given_same s t false o h e = absurd h
  given_same s t true None h e = refl
  given_same s t true (Some v) h e = rw (eq-eqb s i e)

  readings_past : (t s n : ℕ) → i < s → brought i (readings_at ds rd t s n) ≡ []
  readings_past t s zero l = refl
  readings_past t s (suc n) l =
      brought_append i (cond (is_in ds s) (given s t (rd s t)) []) (readings_at ds rd t (suc s) n)
      ∙ ap₂ ◌++◌ (given_other s t (is_in ds s) (rd s t) (λ e. omega arith)) (readings_past t (suc s) n (omega arith))

  readings_here : (t s n : ℕ) → s ≤ i → i < s + n → T (is_in ds i) → brought i (readings_at ds rd t s n) ≡ here t (rd i t)
  readings_here t s zero l m h = absurd (omega arith)
  readings_here t s (suc n) l m h =
      brought_append i (cond (is_in ds s) (given s t (rd s t)) []) (readings_at ds rd t (suc s) n) ∙ go (ℕ_discrete s i) (λ k. readings_here t (suc s) n k (omega arith) h)
    where
      go : Dec (s ≡ i) → (suc s ≤ i → brought i (readings_at ds rd t (suc s) n) ≡ here t (rd i t)) → brought i (cond (is_in ds s) (given s t (rd s t)) []) ++ brought i (readings_at ds rd t (suc s) n) ≡ here t (rd i t)
      go (yes e) x =
          ap₂ ◌++◌ (given_same s t (is_in ds s) (rd s t) (rw e h) e) (readings_past t (suc s) n (omega arith)) ∙ append-nil (here t (rd s t)) ∙ ap (λ (k : ℕ). here t (rd k t)) e
      go (no d) x = ap₂ ◌++◌ (given_other s t (is_in ds s) (rd s t) d) (x (omega arith))

  stamp_brings : (to : ℕ → ℕ) (t : ℕ) → IsInput ds i → brought i (stamp_at ds rd to t) ≡ here t (rd i t)
  stamp_brings to t h = let l = h.0 in go (readings_at ds rd t 0 (length ds)) ∙ readings_here t 0 (length ds) (omega arith) (omega arith) h.1
    where
      go : (rs : List Record) → brought i (led (progress_at ds rd to t 0 (length ds)) rs) ≡ brought i rs
      go [] = refl
      go (r ∷ rs) = brought_append i (progress_at ds rd to t 0 (length ds)) (r ∷ rs) ∙ ap (λ (l : List Event). l ++ brought i (r ∷ rs)) (progress_none to t 0 (length ds))

  trace_brings : (n : ℕ) → IsInput ds i → brought i (trace_to ds rd n) ≡ events (rd i) n
  unfolding trace_to
  trace_brings zero h = refl
  trace_brings (suc t) h =
      let to = known_after (λ i. 0) (trace_to ds rd t) in
      brought_append i (trace_to ds rd t) (stamp_at ds rd to t) ∙ ap₂ ◌++◌ (trace_brings t h) (stamp_brings to t h)

order_brings : (ds : List Declared) (rd : Streams) (n y i : ℕ) → IsInput ds i → brought i (order_of ds rd n y) ≡ events (rd i) n
order_brings ds rd n y i h =
    let to = known_after (λ i. 0) (trace_to ds rd n) in
    brought_append i (trace_to ds rd n) (progress_at ds (λ s t. None) to y 0 (length ds)) ∙ ap₂ ◌++◌ (trace_brings ds rd i n h) (progress_none ds (λ s t. None) i to y 0 (length ds)) ∙ append-nil (events (rd i) n)

order_bounds : (ds : List Declared) (rd : Streams) (n y i : ℕ) → IsInput ds i → y ≤ bound_from 0 i (map call_of (order_of ds rd n y))
order_bounds ds rd n y i h =
    let to = known_after (λ i. 0) (trace_to ds rd n) in
    let l = h.0 in
    let e = bound_known (λ i. 0) i (order_of ds rd n y) in
    let k = ap (λ (f : ℕ → ℕ). f i) (known_append (λ i. 0) (trace_to ds rd n) (progress_at ds (λ s t. None) to y 0 (length ds))) in
    omega (arith, e, k, progress_told ds (λ s t. None) to y 0 (length ds) i (omega arith) (omega arith) h.1 refl)

-- Of every plan that load takes, every buffer and whatever readings: the trace that `./order` makes of those below stamp n, with
-- progress to y at its end, is replayed without a loss.
pub order_lossless : {plan trace s w t : List ℕ} → (load_reply plan s).number ≡ 0 → (rd : Streams) (n y : ℕ) → n ≤ horizon → y ≤ horizon → Lines trace (order_of (declared (capacity (length s)) plan) rd n y) [] → Printed plan trace s w t
    → Lossless (declared (capacity (length s)) plan) rd n y w
order_lossless {plan} {s = s} e rd n y h k l p =
    let ds = declared (capacity (length s)) plan in
    let x = ordered_printed e (order_of ds rd n y) l (order_ordered ds rd n y h k) p in
    record {
      taken = x;
      readings = λ i j. x.readings i ∙ order_brings ds rd n y i j;
      bounds = λ i j. let b = order_bounds ds rd n y i j in let c = x.bounds i in omega arith;
    }
