-- Progress of an input and collection of an output keep the invariant.
use mathlib.Core.Path.{◌≡◌, refl, sym, ◌∙◌, ap}
use mathlib.Core.Bool.{cond}
use Rattle.std.specs.Prelude.{None}
use mathlib.Core.List.{List}
use Prim.Native.Nat.{ℕ, ◌≤◌, ◌<◌}
use native.Mathlib.Omega.{arith}
use lib.Dec.{T, eqb}
use lib.ListN.{length, set}
use lib.Seq.{get_or-set_other}
use Rattle.meaning.specs.Plan.{Eqn, is_input}
use Rattle.meaning.specs.Events.{Event, Streams, events, horizon}
use Rattle.meaning.proofs.Inputs.{input_is}
use Rattle.meaning.proofs.Tests.{Is, yes!, no!, look}
use Rattle.machine.specs.State.{Cell, State, absent, cell_at, with_bound, with_next, with_held}
use Rattle.machine.specs.Step.{reads_it, drop_below, least_waiting, release}
use Rattle.machine.proofs.Cells.{set_cases, eqb_ne}
use Rattle.machine.proofs.Rising.{events_flat, drop_again}
use Rattle.machine.proofs.Release.{waiting_grows, looser_waiting, release_at, release_looser}
use Rattle.runs.specs.Inside.{cut, known_in}
use Rattle.runs.proofs.Kept.{kept_of, kept_cong}
use Rattle.runs.proofs.Passed.{passed_of, input_passed}
use Rattle.runs.proofs.Tracks.{cut_quiet, Ahead, ahead_grows, Tracks}

-- an input reads nothing
reads_none : (i : ℕ) (e : Eqn) → T (is_input e) → T (reads_it i e) → ⊥
reads_none i e h k = rw (input_is e h) at k

module _ (S : Streams) (M : State) (inv : Tracks S M) (s y : ℕ) (is_in : T (is_input (cell_at M s).eqn)) (there : s < length M) (grows : (cell_at M s).bound ≤ y)
    (top : y ≤ horizon) (quiet : (p : ℕ) → (cell_at M s).bound ≤ p → p < y → S s p ≡ None) where
  abbrev N : State
  N = set M s (with_bound y (cell_at M s))

  N-cases : (P : ℕ → Cell → Type 0) → ((i : ℕ) → (i ≡ s → ⊥) → P i (cell_at M i)) → P s (with_bound y (cell_at M s)) → (i : ℕ) → P i (cell_at N i)
  N-cases P = set_cases P M s (with_bound y (cell_at M s)) there

  N-eqn : (i : ℕ) → (cell_at N i).eqn ≡ (cell_at M i).eqn
  N-eqn = N-cases (λ i c. c.eqn ≡ (cell_at M i).eqn) (λ i n. refl) refl

  N-out : (i : ℕ) → (cell_at N i).out ≡ (cell_at M i).out
  N-out = N-cases (λ i c. c.out ≡ (cell_at M i).out) (λ i n. refl) refl

  N-next : (i : ℕ) → (cell_at N i).next ≡ (cell_at M i).next
  N-next = N-cases (λ i c. c.next ≡ (cell_at M i).next) (λ i n. refl) refl

  N-held : (i : ℕ) → (cell_at N i).held ≡ (cell_at M i).held
  N-held = N-cases (λ i c. c.held ≡ (cell_at M i).held) (λ i n. refl) refl

  N-up : (i : ℕ) → (cell_at M i).bound ≤ (cell_at N i).bound
  N-up = N-cases (λ i c. (cell_at M i).bound ≤ c.bound) (λ i n. omega arith) grows

  -- the bounds of readers are as before
  N-readers : (i r : ℕ) → T (reads_it i (cell_at M r).eqn) → (cell_at N r).bound ≡ (cell_at M r).bound
  N-readers i = N-cases (λ r c. T (reads_it i (cell_at M r).eqn) → c.bound ≡ (cell_at M r).bound) (λ r n h. refl) (λ h. absurd (reads_none i (cell_at M s).eqn is_in h))

  N-waiting : (i : ℕ) → least_waiting i N ≡ least_waiting i M
  N-waiting i =
      let a = waiting_grows i M N (record { eqns = N-eqn; outs = N-out i; bounds = λ r h. N-up r; marks = let x = N-next i in omega arith }) in
      let b = waiting_grows i N M (record { eqns = λ r. sym (N-eqn r); outs = sym (N-out i); bounds = λ r h. let x = N-readers i r (rw (N-eqn r) at h) in omega arith; marks = let x = N-next i in omega arith }) in
      omega arith

  N-events : (i : ℕ) → events (S i) (cell_at N i).bound ≡ events (S i) (cell_at M i).bound
  N-events = N-cases (λ i c. events (S i) c.bound ≡ events (S i) (cell_at M i).bound) (λ i n. refl) (events_flat (S s) (cell_at M s).bound y grows quiet)

  N-known : (i p : ℕ) → known_in S M i p ≡ known_in S N i p
  N-known i p = N-cases (λ i c. cut (S i) (cell_at M i).bound p ≡ cut (S i) c.bound p) (λ i n. refl) (cut_quiet (S s) (cell_at M s).bound y p grows quiet) i

  own_kept : (cell_at M s).kept ≡ kept_of (cell_at M s).eqn (known_in S N) s y
  own_kept = let e = input_is (cell_at M s).eqn is_in in rw e (rw e at (inv.kept s))

  pub progress_tracks : Tracks S N
  progress_tracks = record {
    held = λ i. N-held i ∙ inv.held i ∙ sym (rw (N-waiting i, N-events i));
    kept = N-cases (λ i c. c.kept ≡ kept_of c.eqn (known_in S N) i c.bound)
        (λ i n. inv.kept i ∙ kept_cong (cell_at M i).eqn (known_in S M) (known_in S N) i (cell_at M i).bound (λ j p l. N-known j p)) own_kept;
    passed = N-cases (λ i c. c.passed ≡ passed_of c.eqn S i c.bound) (λ i n. inv.passed i)
        (inv.passed s ∙ input_passed (cell_at M s).eqn (input_is (cell_at M s).eqn is_in) S s (cell_at M s).bound y);
    ahead = N-cases (λ i c. Ahead c.eqn N c.bound) (λ i n. ahead_grows (cell_at M i).eqn M N (cell_at M i).bound N-up (inv.ahead i)) (rw (input_is (cell_at M s).eqn is_in) tt);
    top = N-cases (λ i c. c.bound ≤ horizon) (λ i n. inv.top i) top;
    taken = λ i. let a = N-next i in let b = N-up i in let c = inv.taken i in omega arith;
  }

  pub progress_events : (i : ℕ) → events (S i) (cell_at N i).bound ≡ events (S i) (cell_at M i).bound
  progress_events = N-events

module _ (M : State) (s n : ℕ) (there : s < length M) (grows : (cell_at M s).next ≤ n) where
  abbrev N₁ : State
  N₁ = set M s (with_next n (cell_at M s))

  N₁-cases : (P : ℕ → Cell → Type 0) → ((i : ℕ) → (i ≡ s → ⊥) → P i (cell_at M i)) → P s (with_next n (cell_at M s)) → (i : ℕ) → P i (cell_at N₁ i)
  N₁-cases P = set_cases P M s (with_next n (cell_at M s)) there

  N₁-is : (i : ℕ) → cell_at N₁ i ≡ with_next (cell_at N₁ i).next (cell_at M i)
  N₁-is = N₁-cases (λ i c. c ≡ with_next c.next (cell_at M i)) (λ i n. refl) refl

  abbrev N₂ : State
  N₂ = release s N₁

  abbrev pub left : ℕ → List Event
  left i = cond (eqb i s) (drop_below (least_waiting i N₁) (cell_at M i).held) (cell_at M i).held

  -- only the mark and the held events of s change
  pub collected_cell : (i : ℕ) → cell_at N₂ i ≡ with_held (left i) (with_next (cell_at N₁ i).next (cell_at M i))
  collected_cell i = release_at s N₁ i ∙ rw (N₁-is i)

  pub collected_next : (P : ℕ → ℕ → Type 0) → ((i : ℕ) → (i ≡ s → ⊥) → P i (cell_at M i).next) → P s n → (i : ℕ) → P i (cell_at N₂ i).next
  collected_next P other this i = rw (ap (λ c. c.next) (collected_cell i)) (N₁-cases (λ i c. P i c.next) other this i)

  module _ (S : Streams) (inv : Tracks S M) (low : n ≤ (cell_at M s).bound) where
    grown : (i : ℕ) → least_waiting i M ≤ least_waiting i N₁
    grown i =
        waiting_grows i M N₁ (record {
          eqns = λ r. ap (λ c. c.eqn) (N₁-is r);
          outs = ap (λ c. c.out) (N₁-is i);
          bounds = λ r h. let e = ap (λ c. c.bound) (N₁-is r) in omega arith;
          marks = N₁-cases (λ i c. (cell_at M i).next ≤ c.next) (λ i n. omega arith) grows i;
        })

    same : (i : ℕ) → (i ≡ s → ⊥) → least_waiting i N₁ ≤ least_waiting i M
    same i d =
        waiting_grows i N₁ M (record {
          eqns = λ r. sym (ap (λ c. c.eqn) (N₁-is r));
          outs = sym (ap (λ c. c.out) (N₁-is i));
          bounds = λ r h. let e = ap (λ c. c.bound) (N₁-is r) in omega arith;
          marks = let e = ap (λ c. c.next) (get_or-set_other M s i (with_next n (cell_at M s)) absent d) in omega arith;
        })

    left_is : (i : ℕ) → left i ≡ drop_below (least_waiting i N₂) (events (S i) (cell_at M i).bound)
    left_is i = rw (looser_waiting i N₁ N₂ (release_looser s N₁), inv.held i) (go (look (eqb i s)))
      where
        old : List Event
        old = events (S i) (cell_at M i).bound

        go : Is (eqb i s) → cond (eqb i s) (drop_below (least_waiting i N₁) (drop_below (least_waiting i M) old)) (drop_below (least_waiting i M) old) ≡ drop_below (least_waiting i N₁) old
        go (yes! j x) = rw j (drop_again (least_waiting i M) (least_waiting i N₁) old (grown i))
        go (no! j x) =
            let a = grown i in let b = same i (eqb_ne i s x) in
            let e : least_waiting i N₁ ≡ least_waiting i M = omega arith in
            rw (j, e)

    bound_is : (i : ℕ) → (cell_at N₂ i).bound ≡ (cell_at M i).bound
    bound_is i = ap (λ c. c.bound) (collected_cell i)

    eqn_is : (i : ℕ) → (cell_at N₂ i).eqn ≡ (cell_at M i).eqn
    eqn_is i = ap (λ c. c.eqn) (collected_cell i)

    pub collect_tracks : Tracks S N₂
    collect_tracks = record {
      held = λ i. ap (λ c. c.held) (collected_cell i) ∙ left_is i ∙ ap (λ b. drop_below (least_waiting i N₂) (events (S i) b)) (sym (bound_is i));
      kept = λ i. ap (λ c. c.kept) (collected_cell i) ∙ inv.kept i ∙ rw (eqn_is i, bound_is i) (kept_cong (cell_at M i).eqn (known_in S M) (known_in S N₂) i (cell_at M i).bound (λ j p l. ap (λ k. cut (S j) k p) (sym (bound_is j))));
      passed = λ i. ap (λ c. c.passed) (collected_cell i) ∙ inv.passed i ∙ rw (eqn_is i, bound_is i);
      ahead = λ i. rw (eqn_is i, bound_is i) (ahead_grows (cell_at M i).eqn M N₂ (cell_at M i).bound (λ j. let e = bound_is j in omega arith) (inv.ahead i));
      top = λ i. rw (bound_is i) (inv.top i);
      taken = λ i. rw (bound_is i) (collected_next (λ i m. m ≤ (cell_at M i).bound) (λ i d. inv.taken i) low i);
    }
