-- One step keeps the invariant: a stream's bound goes up, with at most one new event.
-- Write: the stream's own kept data follows from what its arguments and itself hold, and its window and its counts from what
-- it kept and its arguments hold. Tell: of what is known only the new event's stamp changed, and each reader ahead of it takes
-- just that. Release: a stream's least waiting reader changes only for the stream and its arguments, and dropping twice is
-- dropping once.
use mathlib.Core.Path.{◌≡◌, refl, sym, ◌∙◌, ap}
use mathlib.Core.Bool.{not, cond}
use Rattle.std.specs.Prelude.{None, Some}
use mathlib.Core.List.{List, [], ◌∷◌, ◌++◌, append-nil, map}
use Prim.Native.Nat.{ℕ, suc, ◌≤◌, ◌<◌, min}
use native.Mathlib.Nat.{lt-suc_self}
use native.Mathlib.Omega.{arith}
use lib.Dec.{T, ltb, eqb, eqb→eq, ltb→lt, nltb→le, T_not}
use lib.ListN.{set, length-set}
use lib.Seq.{get_or-set_same, get_or-set_other}
use lib.IntN.{ℤ}
use Rattle.meaning.specs.Plan.{Eqn, input, nil, unit, one, two, last, delay, signal, window}
use Rattle.meaning.specs.Arguments.{reads, arg_a, arg_b}
use Rattle.meaning.specs.Events.{Event, ev, Streams, events, horizon}
use Rattle.meaning.proofs.Tests.{Is, yes!, no!, look, not_or_l, not_or_r}
use Rattle.meaning.proofs.Each.{each_map}
use Rattle.machine.specs.State.{Cell, State, absent, cell_at, with_held, with_kept}
use Rattle.machine.specs.Reach.{view}
use Rattle.machine.specs.Step.{passes, advance, absorb, absorbed, write, told, tell, reads_it, kept_told, drop_below, least_waiting, releases, raise}
use Rattle.machine.proofs.Cells.{set_cases, told_at, eqb_ne}
use Rattle.machine.proofs.Window.{Seen}
use Rattle.machine.proofs.Rising.{drop_more}
use Rattle.machine.proofs.Release.{each_read, among, read_among, waiting_le_reader, waiting_grows, releases_at, releases_looser, looser_waiting}
use Rattle.runs.specs.Inside.{cut, known_in}
use Rattle.runs.proofs.Kept.{kept_of, kept_cong, kept_told_lem, kept_absorbed, Edge}
use Rattle.runs.proofs.Passed.{passed_of}
use Rattle.runs.proofs.Tracks.{cut_yes, cut_no, cut_quiet, cut_event, Ahead, ahead_grows, Tracks, New, quiet, event, Rise, new_none, new_events, held_shows}
use Rattle.runs.proofs.Follow.{passes_is}

-- ---- of the streams that read s, a delay ahead of the new event is just ahead; a signal form never is ahead

-- an argument that is known beyond the event's stamp is not the stream that it comes into
beyond : (M : State) (c s t y : ℕ) → y ≤ (cell_at M c).bound → (cell_at M s).bound ≤ t → t < y → c ≡ s → ⊥
beyond M c s t y a l m q = let k : y ≤ (cell_at M s).bound = rw q at a in omega arith

ahead_edge : (e : Eqn) (M : State) (s t y : ℕ) → Ahead e M y → (cell_at M s).bound ≤ t → t < y → Edge e s t y
ahead_edge input M s t y a l m = tt
ahead_edge nil M s t y a l m = tt
ahead_edge unit M s t y a l m = tt
ahead_edge (one f c) M s t y a l m = tt
ahead_edge (two g c d) M s t y a l m = tt
ahead_edge (last c d) M s t y a l m = tt
ahead_edge (delay c d) M s t y a l m = λ q. let k : y ≤ suc (cell_at M s).bound = rw q at a in omega arith
ahead_edge (signal g c d) M s t y a l m = (beyond M c s t y a.0 l m, beyond M d s t y a.1 l m)
ahead_edge (window f k c) M s t y a l m = tt

module _ (S : Streams) (M : State) (inv : Tracks S M) (s y : ℕ) (new : List Event) (rise : Rise S M s y new) where
  -- ---- the bound goes up
  abbrev pub M₁ : State
  M₁ = set M s (advance y new (passes s y M) (cell_at M s))

  abbrev pub C : ℕ → Cell
  C i = cell_at M₁ i

  pub C-self : C s ≡ advance y new (passes s y M) (cell_at M s)
  C-self = get_or-set_same M s (advance y new (passes s y M) (cell_at M s)) absent rise.there

  pub C-other : (i : ℕ) → (i ≡ s → ⊥) → C i ≡ cell_at M i
  C-other i n = get_or-set_other M s i (advance y new (passes s y M) (cell_at M s)) absent n

  C-cases : (P : ℕ → Cell → Type 0) → ((i : ℕ) → (i ≡ s → ⊥) → P i (cell_at M i)) → P s (advance y new (passes s y M) (cell_at M s)) → (i : ℕ) → P i (C i)
  C-cases P = set_cases P M s (advance y new (passes s y M) (cell_at M s)) rise.there

  C-eqn : (i : ℕ) → (C i).eqn ≡ (cell_at M i).eqn
  C-eqn = C-cases (λ i c. c.eqn ≡ (cell_at M i).eqn) (λ i n. refl) refl

  C-out : (i : ℕ) → (C i).out ≡ (cell_at M i).out
  C-out = C-cases (λ i c. c.out ≡ (cell_at M i).out) (λ i n. refl) refl

  C-next : (i : ℕ) → (C i).next ≡ (cell_at M i).next
  C-next = C-cases (λ i c. c.next ≡ (cell_at M i).next) (λ i n. refl) refl

  pub C-up : (i : ℕ) → (cell_at M i).bound ≤ (C i).bound
  C-up = C-cases (λ i c. (cell_at M i).bound ≤ c.bound) (λ i n. omega arith) (omega arith)

  near : (i : ℕ) → Ahead (C i).eqn M (C i).bound
  near = C-cases (λ i c. Ahead c.eqn M c.bound) (λ i n. inv.ahead i) rise.near

  C-passed : (i : ℕ) → (C i).passed ≡ passed_of (C i).eqn S i (C i).bound
  C-passed = C-cases (λ i c. c.passed ≡ passed_of c.eqn S i c.bound) (λ i n. inv.passed i) (passes_is S M inv s y (omega arith) rise.near)

  pub C-new : (i : ℕ) → (es : List Event) × New (S i) (cell_at M i).bound (C i).bound es × ((C i).held ≡ (cell_at M i).held ++ es)
  C-new =
      C-cases (λ i c. (es : List Event) × New (S i) (cell_at M i).bound c.bound es × (c.held ≡ (cell_at M i).held ++ es))
      (λ i n. ([], new_none (S i) (cell_at M i).bound, sym (append-nil (cell_at M i).held))) (new, rise.comes, refl)

  pub shows : (i : ℕ) → Seen (known_in S M₁ i) (min (least_waiting i M) (cell_at M i).bound) (view (C i))
  shows i =
      let n = C-new i in
      rw (n.2, inv.held i) (held_shows (S i) (least_waiting i M) (cell_at M i).bound (C i).bound n.0 n.1)

  -- ---- write
  same_below : (i p : ℕ) → p < (cell_at M s).bound → known_in S M i p ≡ known_in S M₁ i p
  same_below i p l = C-cases (λ i c. cut (S i) (cell_at M i).bound p ≡ cut (S i) c.bound p) (λ i n. refl) (rw (cut_yes (S s) (cell_at M s).bound p l, cut_yes (S s) y p (omega arith))) i

  pub own_kept : absorb (C s).eqn (C s) (C (arg_a (C s).eqn)) (C (arg_b (C s).eqn)) ≡ kept_of (C s).eqn (known_in S M₁) s y
  own_kept =
      kept_absorbed (known_in S M) (known_in S M₁) s (cell_at M s).bound y rise.grows same_below C (λ i. min (least_waiting i M) (cell_at M i).bound) shows (omega arith) (ap (λ c. c.bound) C-self) (C s).eqn
      (each_map (λ a h. let x = waiting_le_reader a M s (rw (C-eqn s) at h) in omega arith) (reads (C s).eqn) (each_read (C s).eqn))
      (ap (λ c. c.kept) C-self ∙ inv.kept s ∙ ap (λ e. kept_of e (known_in S M) s (cell_at M s).bound) (sym (C-eqn s)))

  abbrev M₂ : State
  M₂ = write s y new M

  self₂ : cell_at M₂ s ≡ with_kept (kept_of (C s).eqn (known_in S M₁) s (C s).bound) (C s)
  unfolding write absorbed
  self₂ =
      get_or-set_same M₁ s (with_kept (absorb (C s).eqn (C s) (C (arg_a (C s).eqn)) (C (arg_b (C s).eqn))) (C s)) absent (rw (length-set M s (advance y new (passes s y M) (cell_at M s))) rise.there)
      ∙ ap (λ k. with_kept k (C s)) (own_kept ∙ ap (λ x. kept_of (C s).eqn (known_in S M₁) s x) (sym (ap (λ c. c.bound) C-self)))

  other₂ : (i : ℕ) → (i ≡ s → ⊥) → cell_at M₂ i ≡ with_kept (kept_of (C i).eqn (known_in S M) i (C i).bound) (C i)
  unfolding write absorbed
  other₂ i n =
      get_or-set_other M₁ s i (with_kept (absorb (C s).eqn (C s) (C (arg_a (C s).eqn)) (C (arg_b (C s).eqn))) (C s)) absent n
      ∙ rw (C-other i n) (ap (λ k. with_kept k (cell_at M i)) (inv.kept i))

  -- ---- tell
  told_quiet : ((p : ℕ) → (cell_at M s).bound ≤ p → p < y → S s p ≡ None) → (i : ℕ) → cell_at M₂ i ≡ with_kept (kept_of (C i).eqn (known_in S M₁) i (C i).bound) (C i)
  told_quiet q i = go (look (eqb i s))
    where
      same : (i p : ℕ) → known_in S M i p ≡ known_in S M₁ i p
      same i p = C-cases (λ i c. cut (S i) (cell_at M i).bound p ≡ cut (S i) c.bound p) (λ i n. refl) (cut_quiet (S s) (cell_at M s).bound y p (omega arith) q) i

      go : Is (eqb i s) → cell_at M₂ i ≡ with_kept (kept_of (C i).eqn (known_in S M₁) i (C i).bound) (C i)
      go (yes! e x) = let d = eqb→eq i s x in rw d self₂
      go (no! e x) =
          other₂ i (eqb_ne i s x) ∙ ap (λ k. with_kept k (C i)) (kept_cong (C i).eqn (known_in S M) (known_in S M₁) i (C i).bound (λ j p l. same j p))

  module _ (t : ℕ) (v : ℤ) (l : (cell_at M s).bound ≤ t) (q : (p : ℕ) → (cell_at M s).bound ≤ p → p < t → S s p ≡ None) (e : S s t ≡ Some v) (at : y ≡ suc t) where
    self_bound : (C s).bound ≡ suc t
    self_bound = ap (λ c. c.bound) C-self ∙ at

    changed : (i p : ℕ) → (i ≡ s → p ≡ t → ⊥) → known_in S M i p ≡ known_in S M₁ i p
    changed i p =
        C-cases (λ i c. (i ≡ s → p ≡ t → ⊥) → cut (S i) (cell_at M i).bound p ≡ cut (S i) c.bound p) (λ i n d. refl)
        (λ d. rw at (cut_event (S s) (cell_at M s).bound t p l q (d refl))) i

    here : known_in S M₁ s t ≡ Some v
    here = rw self_bound (cut_yes (S s) (suc t) t (lt-suc_self t) ∙ e)

    above : (p : ℕ) → t < p → known_in S M₁ s p ≡ None
    above p k = rw self_bound (cut_no (S s) (suc t) p k)

    told_cell : (K : Streams) (i : ℕ) → ((i p : ℕ) → (i ≡ s → p ≡ t → ⊥) → K i p ≡ known_in S M₁ i p) → ((p : ℕ) → K i p ≡ known_in S M₁ i p)
        → told s t v (with_kept (kept_of (C i).eqn K i (C i).bound) (C i)) ≡ with_kept (kept_of (C i).eqn (known_in S M₁) i (C i).bound) (C i)
    unfolding told
    told_cell K i other own = ap (λ k. with_kept k (C i)) (go (look (ltb t (C i).bound)))
      where
        go : Is (ltb t (C i).bound) → cond (ltb t (C i).bound) (kept_told (C i).eqn s (C i).bound t v (kept_of (C i).eqn K i (C i).bound)) (kept_of (C i).eqn K i (C i).bound) ≡ kept_of (C i).eqn (known_in S M₁) i (C i).bound
        go (yes! j x) =
            let m = ltb→lt t (C i).bound x in
            rw j (kept_told_lem K (known_in S M₁) s t v other here above (C i).eqn i (C i).bound m own (ahead_edge (C i).eqn M s t (C i).bound (near i) l m))
        go (no! j x) =
            let m = nltb→le t (C i).bound x in
            rw j (kept_cong (C i).eqn K (known_in S M₁) i (C i).bound (λ a p n. other a p (λ f g. omega arith)))

    told_event : (i : ℕ) → cell_at (map (told s t v) M₂) i ≡ with_kept (kept_of (C i).eqn (known_in S M₁) i (C i).bound) (C i)
    told_event i = told_at s t v M₂ i ∙ go (look (eqb i s))
      where
        go : Is (eqb i s) → told s t v (cell_at M₂ i) ≡ with_kept (kept_of (C i).eqn (known_in S M₁) i (C i).bound) (C i)
        go (yes! j x) =
            let d = eqb→eq i s x in
            rw (d, self₂) (told_cell (known_in S M₁) s (λ a p n. refl) (λ p. refl))
        go (no! j x) =
            let n = eqb_ne i s x in
            rw (other₂ i n) (told_cell (known_in S M) i changed (λ p. changed i p (λ f g. n f)))

  abbrev M₃ : State
  M₃ = tell s new M₂

  tell_none : (N : State) → tell s [] N ≡ N
  unfolding tell
  tell_none N = refl

  tell_one : (t : ℕ) (v : ℤ) (N : State) → tell s (ev t v ∷ []) N ≡ map (told s t v) N
  unfolding tell
  tell_one t v N = refl

  cells₃_of : {x : ℕ} {es : List Event} → New (S s) (cell_at M s).bound x es → y ≡ x → new ≡ es → (i : ℕ) → cell_at M₃ i ≡ with_kept (kept_of (C i).eqn (known_in S M₁) i (C i).bound) (C i)
  cells₃_of (quiet l n) a b i =
      ap (λ es. cell_at (tell s es M₂) i) b ∙ ap (λ N. cell_at N i) (tell_none M₂) ∙ told_quiet (λ p j k. n p j (omega arith)) i
  cells₃_of (event {t} {v} l n e) a b i =
      ap (λ es. cell_at (tell s es M₂) i) b ∙ ap (λ N. cell_at N i) (tell_one t v M₂) ∙ told_event t v l n e a i

  cells₃ : (i : ℕ) → cell_at M₃ i ≡ with_kept (kept_of (C i).eqn (known_in S M₁) i (C i).bound) (C i)
  cells₃ = cells₃_of rise.comes refl refl

  -- ---- release
  abbrev freed : List ℕ
  freed = s ∷ reads (cell_at M s).eqn

  abbrev M₄ : State
  M₄ = releases freed M₃

  abbrev left : ℕ → List Event
  left i = cond (among i freed) (drop_below (least_waiting i M₃) (C i).held) (C i).held

  cells₄ : (i : ℕ) → cell_at M₄ i ≡ with_held (left i) (with_kept (kept_of (C i).eqn (known_in S M₁) i (C i).bound) (C i))
  cells₄ i = releases_at freed M₃ i ∙ rw (cells₃ i)

  bound₄ : (i : ℕ) → (cell_at M₄ i).bound ≡ (C i).bound
  bound₄ i = ap (λ c. c.bound) (cells₄ i)

  eqn₄ : (i : ℕ) → (cell_at M₄ i).eqn ≡ (C i).eqn
  eqn₄ i = ap (λ c. c.eqn) (cells₄ i)

  bound₃ : (i : ℕ) → (cell_at M₃ i).bound ≡ (C i).bound
  bound₃ i = ap (λ c. c.bound) (cells₃ i)

  eqn₃ : (i : ℕ) → (cell_at M₃ i).eqn ≡ (cell_at M i).eqn
  eqn₃ i = ap (λ c. c.eqn) (cells₃ i) ∙ C-eqn i

  out₃ : (i : ℕ) → (cell_at M₃ i).out ≡ (cell_at M i).out
  out₃ i = ap (λ c. c.out) (cells₃ i) ∙ C-out i

  next₃ : (i : ℕ) → (cell_at M₃ i).next ≡ (cell_at M i).next
  next₃ i = ap (λ c. c.next) (cells₃ i) ∙ C-next i

  waiting₄ : (i : ℕ) → least_waiting i M₄ ≡ least_waiting i M₃
  waiting₄ i = looser_waiting i M₃ M₄ (releases_looser freed M₃)

  waiting_up : (i : ℕ) → least_waiting i M ≤ least_waiting i M₃
  waiting_up i =
      waiting_grows i M M₃ (record { eqns = eqn₃; outs = out₃ i; bounds = λ r h. let x = C-up r in let z = bound₃ r in omega arith; marks = let x = next₃ i in omega arith })

  -- a stream that s does not read waits as before
  waiting_down : (i : ℕ) → T (not (among i freed)) → least_waiting i M₃ ≤ least_waiting i M
  waiting_down i n =
      waiting_grows i M₃ M (record {
        eqns = λ r. sym (eqn₃ r);
        outs = sym (out₃ i);
        bounds = λ r h. let x = bound₃ r in let z = C-other r (λ q. other r q h) in let u = ap (λ c. c.bound) z in omega arith;
        marks = let x = next₃ i in omega arith;
      })
    where
      other : (r : ℕ) → r ≡ s → T (reads_it i (cell_at M₃ r).eqn) → ⊥
      other r q h =
          let k : T (reads_it i (cell_at M s).eqn) = rw (eqn₃ r, q) at h in
          T_not (among i (reads (cell_at M s).eqn)) (not_or_r (eqb i s) (among i (reads (cell_at M s).eqn)) n) (read_among i (cell_at M s).eqn k)

  held₄ : (i : ℕ) → left i ≡ drop_below (least_waiting i M₃) (events (S i) (C i).bound)
  held₄ i = go (look (among i freed))
    where
      all : drop_below (least_waiting i M₃) (C i).held ≡ drop_below (least_waiting i M₃) (events (S i) (C i).bound)
      all =
          let n = C-new i in
          rw (n.2, inv.held i, new_events n.1) (drop_more (least_waiting i M) (least_waiting i M₃) (events (S i) (cell_at M i).bound) n.0 (waiting_up i))

      go : Is (among i freed) → cond (among i freed) (drop_below (least_waiting i M₃) (C i).held) (C i).held ≡ drop_below (least_waiting i M₃) (events (S i) (C i).bound)
      go (yes! j x) = rw j all
      go (no! j x) =
          let c = C-other i (eqb_ne i s (not_or_l (eqb i s) (among i (reads (cell_at M s).eqn)) x)) in
          let a = waiting_up i in let b = waiting_down i x in
          let w : least_waiting i M₃ ≡ least_waiting i M = omega arith in
          rw (j, c, w) (inv.held i)

  raise_is : raise s y new M ≡ M₄
  unfolding raise
  raise_is = refl

  tracks₄ : Tracks S M₄
  tracks₄ = record {
    held = λ i. ap (λ c. c.held) (cells₄ i) ∙ rw (waiting₄ i, bound₄ i) (held₄ i);
    kept = λ i. ap (λ c. c.kept) (cells₄ i) ∙ rw (eqn₄ i, bound₄ i) (kept_cong (C i).eqn (known_in S M₁) (known_in S M₄) i (C i).bound (λ j p l. ap (λ k. cut (S j) k p) (sym (bound₄ j))));
    passed = λ i. ap (λ c. c.passed) (cells₄ i) ∙ rw (eqn₄ i, bound₄ i) (C-passed i);
    ahead = λ i. rw (eqn₄ i, bound₄ i) (ahead_grows (C i).eqn M M₄ (C i).bound (λ j. let x = C-up j in let z = bound₄ j in omega arith) (near i));
    top = λ i. rw (bound₄ i) (C-cases (λ i c. c.bound ≤ horizon) (λ i n. inv.top i) rise.top i);
    taken = λ i. let e = ap (λ c. c.next) (cells₄ i) in let f = bound₄ i in let x = C-next i in let z = C-up i in let u = inv.taken i in omega arith;
  }

  pub raise_tracks : Tracks S (raise s y new M)
  raise_tracks = rw raise_is tracks₄

  -- every cell after the step
  pub raise_cell : (i : ℕ) → cell_at (raise s y new M) i ≡ with_held (drop_below (least_waiting i (raise s y new M)) (events (S i) (C i).bound)) (with_kept (kept_of (C i).eqn (known_in S M₁) i (C i).bound) (C i))
  raise_cell i = rw raise_is (cells₄ i ∙ ap (λ h. with_held h (with_kept (kept_of (C i).eqn (known_in S M₁) i (C i).bound) (C i))) (held₄ i ∙ ap (λ w. drop_below w (events (S i) (C i).bound)) (sym (waiting₄ i))))
