-- From some stamp on nothing happens: no input has an event there, and no delay is left to fire.
use mathlib.Core.Path.{◌≡◌, refl, sym, ◌∙◌}
use mathlib.Core.Bool.{Bool, true, false, not, cond, ◌&&◌, ◌||◌}
use Rattle.std.specs.Prelude.{Option, None, Some}
use mathlib.Core.List.{append-nil}
use Prim.Native.Nat.{ℕ, zero, suc, ◌+◌, ◌-◌, ◌<◌, ◌≤◌}
use native.Mathlib.Omega.{arith}
use native.Mathlib.Decide.{dec_lt}
use lib.Dec.{T, T_not, not_T, ltb, ltb→lt, eqb→eq}
use lib.IntN.{ℤ, pos, negsuc}
use borrow.Author.Tests.{lt-ltb, le-ltb}
use Rattle.meaning.specs.Plan.{Eqn, input, nil, unit, one, two, calc, keep, merge, last, delay, signal, window, Plan, eqn_at}
use Rattle.meaning.specs.Arguments.{undelayed}
use Rattle.meaning.specs.Events.{Stream, Streams, has, events}
use Rattle.meaning.specs.Table.{one_at, two_at, unit_at, last_at, any_below, is, fires, delay_at, signal_at, window_at_lem, at, Solves}
use Rattle.meaning.specs.Cycle.{Acyclic}
use Rattle.meaning.proofs.Tests.{false_is, T_and, T-and-l, T-and-r}
use Rattle.meaning.proofs.Each.{each_all}
use Rattle.meaning.proofs.Causal.{at_cong}
use Rattle.meaning.proofs.Solution.{solution_unique}
use Rattle.meaning.proofs.Firing.{any_hit, any_put, Fires, fires_from}

-- a value at p leads to the stamp u or beyond
abbrev pub leads_to : (u p : ℕ) → Option ℤ → Bool
leads_to u p None = false
leads_to u p (Some (pos v)) = not (ltb (p + v) u)
leads_to u p (Some (negsuc v)) = false

-- a set point below u whose value leads to u or beyond, and no event of b above it and below u
unfoldable pub pending : (a b d : Stream) → ℕ → Bool
unfolding any_below
pending a b d u =
    any_below u (λ p. (has (b p) || has (d p)) && leads_to u p (a p) && not (any_below u (λ q. ltb p q && has (b q))))

-- stream s with this equation is no delay that is still to fire at u
unfoldable pub settled : Eqn → Streams → (s u : ℕ) → Bool
unfolding pending
settled input S s u = true
settled nil S s u = true
settled unit S s u = true
settled (one f a) S s u = true
settled (two g a b) S s u = true
settled (last a b) S s u = true
settled (delay a b) S s u = not (pending (S a) (S b) (S s) u)
settled (signal c a b) S s u = true
settled (window f k a) S s u = true

-- nothing comes in from u on, and nothing is left to fire
pub record Quiet (plan : Plan) (rd S : Streams) (u : ℕ) : Type 0 where
  pub later : 0 < u
  pub inputs : (s t : ℕ) → u ≤ t → rd s t ≡ None
  pub delays : (s : ℕ) → T (settled (eqn_at plan s) S s u)

-- ---- the streams cut off at u

abbrev cut : ℕ → Stream → Stream
cut u a t = cond (ltb t u) (a t) None

cut_before : (u : ℕ) (a : Stream) (t : ℕ) → t < u → cut u a t ≡ a t
cut_before u a t l = rw (lt-ltb t u l)

cut_after : (u : ℕ) (a : Stream) (t : ℕ) → u ≤ t → cut u a t ≡ None
cut_after u a t l = rw (le-ltb t u l)

-- a value at p that is due at t leads to u or beyond
due_leads : (u p t : ℕ) → u ≤ t → p < t → (o : Option ℤ) → T (is (t - p) o) → T (leads_to u p o)
due_leads u p t l k None h = absurd h
due_leads u p t l k (Some (pos m)) h =
    let e = eqb→eq m (t - p) h in
    rw (le-ltb (p + m) u (omega (arith, e))) tt
due_leads u p t l k (Some (negsuc m)) h = absurd h

-- From a set point at u or later nothing fires, since there is none. From one below u it would be pending at u.
module _ (u : ℕ) (a b d : Stream) (quiet : T (not (pending a b d u))) (t : ℕ) (l : u ≤ t) where
  no_firing : (p : ℕ) → Fires (cut u a) (cut u b) (cut u d) t p → ⊥
  unfolding pending
  no_firing p f = go (dec_lt p u)
    where
      above : ℕ → Bool
      above q = ltb p q && has (b q)

      go : Dec (p < u) → ⊥
      go (no n) = rw (cut_after u b p (omega arith), cut_after u d p (omega arith)) at f.set
      go (yes y) =
          let set : T (has (b p) || has (d p)) = rw (cut_before u b p y, cut_before u d p y) at f.set in
          let due : T (leads_to u p (a p)) = due_leads u p t l f.before (a p) (rw (cut_before u a p y) at f.value) in
          let alone : T (not (any_below u above)) = not_T (any_below u above) (λ z. let r = any_hit u above z in let q = r.0 in
          T_not (has (b q)) (rw (cut_before u b q r.1) at (f.quiet q (ltb→lt p q (T-and-l (ltb p q) (has (b q)) r.2)) (omega (arith, r.1)))) (T-and-r (ltb p q) (has (b q)) r.2)) in
          T_not (pending a b d u) quiet (any_put u _ p y (T_and ((has (b p) || has (d p)) && leads_to u p (a p)) _ (T_and (has (b p) || has (d p)) _ set due) alone))

  never_fires : fires (cut u a) (cut u b) (cut u d) t ≡ false
  never_fires =
      false_is (fires (cut u a) (cut u b) (cut u d) t)
      (not_T (fires (cut u a) (cut u b) (cut u d) t) (λ h. let r = fires_from (cut u a) (cut u b) (cut u d) t h in no_firing r.0 r.1))

-- ---- the law

-- What the streams have below u, and nothing from u on, solves the plan too: below u the table reads nothing else, and
-- from u on it reads no event at the stamp itself and no delay fires. The plan has one solution, so it is that one.
module _ (plan : Plan) (rd S : Streams) (u h : ℕ) (ok : Acyclic plan) (sol : Solves plan rd S h) (quiet : Quiet plan rd S u) where
  abbrev ended : Streams
  ended s = cut u (S s)

  none_at : (s t : ℕ) → u ≤ t → (e : Eqn) → T (settled e S s u) → at e rd ended s t ≡ None
  unfolding at settled
  none_at s t l input q = quiet.inputs s t l
  none_at s t l nil q = refl
  none_at s t l unit q = unfold unit_at in past t (omega (arith, quiet.later))
    where
      past : (t : ℕ) → 0 < t → unit_at t ≡ None
      past zero k = absurd (omega arith)
      past (suc t) k = refl
  none_at s t l (one f a) q = rw (cut_after u (S a) t l, one_at)
  none_at s t l (two (calc g) a b) q = rw (cut_after u (S a) t l, two_at)
  none_at s t l (two keep a b) q = rw (cut_after u (S a) t l, two_at)
  none_at s t l (two merge a b) q = rw (cut_after u (S a) t l, cut_after u (S b) t l, two_at)
  none_at s t l (last a b) q = rw (cut_after u (S b) t l, last_at)
  none_at s t l (delay a b) q = rw (never_fires u (S a) (S b) (S s) q t l, delay_at)
  none_at s t l (signal c a b) q = rw (cut_after u (S a) t l, cut_after u (S b) t l, signal_at)
  none_at s t l (window f k a) q = rw (cut_after u (S a) t l, window_at_lem)

  ended_solves : Solves plan rd ended h
  ended_solves = record { each = λ s t l. go s t l (dec_lt t u) }
    where
      go : (s t : ℕ) → t < h → Dec (t < u) → ended s t ≡ at (eqn_at plan s) rd ended s t
      go s t l (yes k) =
          cut_before u (S s) t k ∙ sol.each s t l
          ∙ at_cong (eqn_at plan s) rd rd S ended s t (λ i. refl) (each_all (λ a. sym (cut_before u (S a) t k)) (undelayed (eqn_at plan s))) (λ a p m. sym (cut_before u (S a) p (omega arith)))
      go s t l (no k) = cut_after u (S s) t (omega arith) ∙ sym (none_at s t (omega arith) (eqn_at plan s) (quiet.delays s))

  pub silent : (s t : ℕ) → u ≤ t → t < h → S s t ≡ None
  silent s t l k = solution_unique plan rd S ended ok h sol ended_solves s t k ∙ cut_after u (S s) t l

-- a stream that is silent from u on has the same events below every later stamp
pub events_silent : (f : Stream) (u h : ℕ) → u ≤ h → ((t : ℕ) → u ≤ t → t < h → f t ≡ None) → events f h ≡ events f u
events_silent f u zero l q = let e : u ≡ 0 = omega arith in rw e
events_silent f u (suc h) l q = go (dec_lt h u) (λ k. events_silent f u h k (λ t m n. q t m (omega arith)))
  where
    go : Dec (h < u) → (u ≤ h → events f h ≡ events f u) → events f (suc h) ≡ events f u
    go (yes k) rest = let e : u ≡ suc h = omega arith in rw e
    go (no k) rest = rw (q h (omega arith) (omega arith)) (append-nil (events f h) ∙ rest (omega arith))
