-- The local step equals tidying all streams, in every state of a run.
use mathlib.Core.Path.{◌≡◌, refl, sym, ◌∙◌, ap}
use mathlib.Core.Bool.{Bool, true, false, cond}
use Rattle.std.specs.Prelude.{Option, None}
use mathlib.Core.List.{List}
use Prim.Native.Nat.{ℕ, ◌≤◌, ◌<◌, min}
use native.Mathlib.Omega.{arith}
use lib.Dec.{eqb, eqb→eq}
use lib.ListN.{set, length-set}
use lib.Seq.{get_or-set_same, get_or-set_other}
use lib.IntN.{ℤ}
use Rattle.meaning.specs.Plan.{Eqn, input, nil, unit, one, two, last, delay, signal, window}
use Rattle.meaning.specs.Arguments.{arg_a, arg_b}
use Rattle.meaning.specs.Events.{Event, Streams, events}
use Rattle.meaning.proofs.Tests.{Is, yes!, no!, look}
use Rattle.machine.specs.State.{Cell, State, absent, cell_at, with_held, with_kept}
use Rattle.machine.specs.Step.{passes, advance, absorb, later, drop_below, least_waiting, raise}
use Rattle.machine.proofs.Cells.{ne_eqb, eqb_ne}
use Rattle.machine.proofs.Window.{or_none}
use Rattle.machine.proofs.Rising.{drop_more}
use Rattle.machine.proofs.Release.{Frame, frame_waiting, waiting_grows}
use Rattle.machine.proofs.Frame.{raise_frame, raise_eqn, raise_out, raise_next, raise_bound}
use Rattle.runs.specs.Inside.{known_in}
use Rattle.runs.proofs.Kept.{kept_of}
use Rattle.runs.proofs.Tracks.{cut_yes, cut_no, Tracks, new_events, Rise}
use Rattle.runs.proofs.Decide.{floor_read}
use Rattle.runs.proofs.Raise as raised
use Rattle.runs.proofs.Tidy.{refreshed, refreshed_is, tidied, stale, near_of}

-- of the arguments only held events are looked at
refreshed_same : (e : Eqn) (o a b c d : Cell) → a.held ≡ c.held → b.held ≡ d.held → refreshed e o a b ≡ refreshed e o c d
refreshed_same input o a b c d p q = refl
refreshed_same nil o a b c d p q = refl
refreshed_same unit o a b c d p q = refl
refreshed_same (one f x) o a b c d p q = refl
refreshed_same (two g x y) o a b c d p q = refl
refreshed_same (last x y) o a b c d p q = rw p
refreshed_same (delay x y) o a b c d p q = rw (p, q)
refreshed_same (signal g x y) o a b c d p q = rw (p, q)
refreshed_same (window f k x) o a b c d p q = refl

-- a stream whose bound went up is brought up to date as the step does it
refreshed_stale : (e : Eqn) (K : Streams) (s y : ℕ) (o a b : Cell) → o.kept ≡ kept_of e K s y → 0 < o.bound → refreshed e (stale o) a b ≡ absorb e o a b
refreshed_stale input K s y o a b k l = rw k
refreshed_stale nil K s y o a b k l = rw k
refreshed_stale unit K s y o a b k l = rw k
refreshed_stale (one f x) K s y o a b k l = rw k
refreshed_stale (two g x z) K s y o a b k l = rw k
refreshed_stale (last x z) K s y o a b k l = rw k
refreshed_stale (delay x z) K s y o a b k l = rw (ne_eqb o.bound 0 (λ e. omega arith), or_none, gone (eqb (later o b) o.bound))
  where
    gone : (c : Bool) → ◌≡◌ {A = Option ℤ} (cond c None None) None
    gone true = refl
    gone false = refl
refreshed_stale (signal g x z) K s y o a b k l = rw k
refreshed_stale (window f n x) K s y o a b k l = rw k

module _ (S : Streams) (M : State) (inv : Tracks S M) (s y : ℕ) (new : List Event) (rise : Rise S M s y new) where
  abbrev C : ℕ → Cell
  C i = raised.C S M inv s y new rise i

  abbrev M₁ : State
  M₁ = raised.M₁ S M inv s y new rise

  -- the bound goes up, and nothing else is done yet
  abbrev N : State
  N = set M s (stale (advance y new (passes s y M) (cell_at M s)))

  N-self : cell_at N s ≡ stale (C s)
  N-self = get_or-set_same M s (stale (advance y new (passes s y M) (cell_at M s))) absent rise.there ∙ ap stale (sym (raised.C-self S M inv s y new rise))

  N-other : (i : ℕ) → (i ≡ s → ⊥) → cell_at N i ≡ C i
  N-other i n = get_or-set_other M s i (stale (advance y new (passes s y M) (cell_at M s))) absent n ∙ sym (raised.C-other S M inv s y new rise i n)

  N-is : (i : ℕ) → cell_at N i ≡ with_kept (cell_at N i).kept (C i)
  N-is i = go (look (eqb i s))
    where
      go : Is (eqb i s) → cell_at N i ≡ with_kept (cell_at N i).kept (C i)
      go (yes! j x) = let e = eqb→eq i s x in rw (e, N-self)
      go (no! j x) = rw (N-other i (eqb_ne i s x))

  N-held : (i : ℕ) → (cell_at N i).held ≡ (C i).held
  N-held i = ap (λ c. c.held) (N-is i)

  N-frame : Frame M₁ N
  N-frame = record {
    size = length-set M s (stale (advance y new (passes s y M) (cell_at M s))) ∙ sym (length-set M s (advance y new (passes s y M) (cell_at M s)));
    eqns = λ i. ap (λ c. c.eqn) (N-is i);
    outs = λ i. ap (λ c. c.out) (N-is i);
    bounds = λ i. ap (λ c. c.bound) (N-is i);
    nexts = λ i. ap (λ c. c.next) (N-is i);
  }

  same_waiting : (i : ℕ) → least_waiting i N ≡ least_waiting i (raise s y new M)
  same_waiting i = frame_waiting i M₁ N N-frame ∙ sym (frame_waiting i M₁ (raise s y new M) (raise_frame s y new M rise.there))

  waiting_up : (i : ℕ) → least_waiting i M ≤ least_waiting i (raise s y new M)
  waiting_up i =
      waiting_grows i M (raise s y new M) (record {
        eqns = raise_eqn s y new M rise.there;
        outs = raise_out s y new M rise.there i;
        bounds = λ r h. raise_bound s y new M rise.there (λ i b. (cell_at M i).bound ≤ b) (λ i n. omega arith) (omega arith) r;
        marks = let e = raise_next s y new M rise.there i in omega arith;
      })

  held_is : (i : ℕ) → drop_below (least_waiting i N) (cell_at N i).held ≡ drop_below (least_waiting i (raise s y new M)) (events (S i) (C i).bound)
  held_is i =
      let n = raised.C-new S M inv s y new rise i in
      rw (N-held i, same_waiting i, n.2, inv.held i, new_events n.1) (drop_more (least_waiting i M) (least_waiting i (raise s y new M)) (events (S i) (cell_at M i).bound) n.0 (waiting_up i))

  C-self : C s ≡ advance y new (passes s y M) (cell_at M s)
  C-self = raised.C-self S M inv s y new rise

  C-other : (i : ℕ) → (i ≡ s → ⊥) → C i ≡ cell_at M i
  C-other = raised.C-other S M inv s y new rise

  own_fresh : refreshed (C s).eqn (stale (C s)) (cell_at N (arg_a (C s).eqn)) (cell_at N (arg_b (C s).eqn)) ≡ kept_of (C s).eqn (known_in S M₁) s (C s).bound
  own_fresh =
      let e = (C s).eqn in
      let b = ap (λ c. c.bound) C-self in
      refreshed_same e (stale (C s)) (cell_at N (arg_a e)) (cell_at N (arg_b e)) (C (arg_a e)) (C (arg_b e)) (N-held (arg_a e)) (N-held (arg_b e))
      ∙ refreshed_stale e (known_in S M) s (cell_at M s).bound (C s) (C (arg_a e)) (C (arg_b e)) (rw C-self (inv.kept s)) (omega arith)
      ∙ raised.own_kept S M inv s y new rise ∙ ap (λ x. kept_of e (known_in S M₁) s x) (sym b)

  same_below : (i p : ℕ) → p < (cell_at M i).bound → known_in S M i p ≡ known_in S M₁ i p
  same_below i p l =
      let u = raised.C-up S M inv s y new rise i in
      rw (cut_yes (S i) (cell_at M i).bound p l, cut_yes (S i) (C i).bound p (omega arith))

  other_fresh : (i : ℕ) → (i ≡ s → ⊥) → refreshed (C i).eqn (C i) (cell_at N (arg_a (C i).eqn)) (cell_at N (arg_b (C i).eqn)) ≡ kept_of (C i).eqn (known_in S M₁) i (C i).bound
  other_fresh i n =
      let e = (C i).eqn in
      let c = C-other i n in
      let b : (C i).bound ≡ (cell_at M i).bound = ap (λ c. c.bound) c in
      refreshed_same e (C i) (cell_at N (arg_a e)) (cell_at N (arg_b e)) (C (arg_a e)) (C (arg_b e)) (N-held (arg_a e)) (N-held (arg_b e))
      ∙ refreshed_is (known_in S M) (known_in S M₁) (λ j. (cell_at M j).bound) (λ j. min (least_waiting j M) (cell_at M j).bound) (λ j. C j) i (cell_at M i).bound same_below (λ j p l. cut_no (S j) (cell_at M j).bound p l)
      (λ j. omega arith) (raised.shows S M inv s y new rise) b refl e
      (rw c (floor_read S M inv i)) (rw c (near_of (cell_at M i).eqn M (cell_at M i).bound (inv.ahead i))) (rw c (inv.kept i))
      ∙ ap (λ x. kept_of e (known_in S M₁) i x) (sym b)

  fresh : (i : ℕ) → refreshed (cell_at N i).eqn (cell_at N i) (cell_at N (arg_a (cell_at N i).eqn)) (cell_at N (arg_b (cell_at N i).eqn)) ≡ kept_of (C i).eqn (known_in S M₁) i (C i).bound
  fresh i = go (look (eqb i s))
    where
      go : Is (eqb i s) → refreshed (cell_at N i).eqn (cell_at N i) (cell_at N (arg_a (cell_at N i).eqn)) (cell_at N (arg_b (cell_at N i).eqn)) ≡ kept_of (C i).eqn (known_in S M₁) i (C i).bound
      go (yes! j x) = let e = eqb→eq i s x in rw (e, N-self) own_fresh
      go (no! j x) = rw (N-other i (eqb_ne i s x)) (other_fresh i (eqb_ne i s x))

  -- every cell after the step is the tidied one
  pub step_tidies : (i : ℕ) → cell_at (raise s y new M) i ≡ tidied N i
  step_tidies i =
      let k = kept_of (C i).eqn (known_in S M₁) i (C i).bound in
      raised.raise_cell S M inv s y new rise i
      ∙ ap (λ h. with_held h (with_kept k (C i))) (sym (held_is i))
      ∙ ap (λ c. with_held (drop_below (least_waiting i N) (cell_at N i).held) (with_kept k c)) (sym bare)
      ∙ ap (λ x. with_held (drop_below (least_waiting i N) (cell_at N i).held) (with_kept x (cell_at N i))) (sym (fresh i))
    where
      bare : with_kept (C i).kept (cell_at N i) ≡ C i
      bare = rw (N-is i)
