-- When a bound goes up, what is kept of the passed stamps follows: the arguments' events from the old bound on are held, and
-- below the new one all are known. So a window takes in what comes to it, and at each passed stamp an equation hears what the
-- solution says there.
use mathlib.Core.Path.{◌≡◌, refl, sym, ◌∙◌, ap}
use mathlib.Core.List.{List}
use Prim.Native.Nat.{ℕ, suc, ◌≤◌, ◌<◌}
use native.Mathlib.Omega.{arith}
use lib.IntN.{ℤ}
use Rattle.meaning.specs.Plan.{Eqn, input, nil, unit, one, two, last, delay, signal, window}
use Rattle.meaning.specs.Arguments.{reads, Each, arg_a, arg_b}
use Rattle.meaning.specs.Events.{Streams}
use Rattle.meaning.specs.Table.{width}
use Rattle.meaning.specs.Missing.{said_for, says}
use Rattle.meaning.proofs.Missing.{count_seam}
use Rattle.machine.specs.State.{Cell, State, cell_at, count_of, with_window}
use Rattle.machine.specs.Step.{hears, counted, counts, pass, passes}
use Rattle.machine.proofs.Cells.{count_with, passed_ext}
use Rattle.runs.specs.Inside.{known_in}
use Rattle.runs.proofs.Kept.{kept_of}
use Rattle.runs.proofs.Passed.{window_of, passed_of, passed_count, passed_still}
use Rattle.runs.proofs.Tracks.{Ahead, Tracks}
use Rattle.runs.proofs.Decide.{floor, floor_read, arg_at, latest_is, slid_is}

module _ (S : Streams) (M : State) (inv : Tracks S M) (s x : ℕ) (up : (cell_at M s).bound ≤ x) where
  abbrev C : ℕ → Cell
  C i = cell_at M i

  abbrev y : ℕ
  y = (C s).bound

  -- who hears at each passed stamp what the solution says there counts right
  pass_as : (e : Eqn) (a b : Cell) {v : List ℤ} → (C s).passed ≡ passed_of e S s y → v ≡ window_of e S x → ((t : ℕ) → y ≤ t → t < x → hears e (C s) a b t ≡ says e S S s t)
      → with_window v (counts e x (C s) a b) ≡ passed_of e S s x
  pass_as e a b {v} w d h =
      passed_ext (with_window v (counts e x (C s) a b)) (passed_of e S s x) d (λ q.
      count_with q (λ q. counted (count_of q (C s).passed) (λ t. said_for q (hears e (C s) a b t)) y x) (with_window v (C s).passed)
      ∙ rw (w, passed_count q e S s y) (count_seam q e S S s (hears e (C s) a b) y x up (λ t i j. ap (said_for q) (h t i j)))
      ∙ sym (passed_count q e S s x))

  -- one case for each operator
  pass_is : (e : Eqn) → Each (λ i. floor S M inv i ≤ y) (reads e) → (C s).kept ≡ kept_of e (known_in S M) s y → (C s).passed ≡ passed_of e S s y → Ahead e M x
      → pass e x (C s) (C (arg_a e)) (C (arg_b e)) ≡ passed_of e S s x
  unfolding says
  pass_is input l k w n = w ∙ passed_still input refl S s y x refl
  pass_is nil l k w n = w ∙ passed_still nil refl S s y x refl
  pass_is unit l k w n = w ∙ passed_still unit refl S s y x refl
  pass_is (one f a) l k w n = pass_as (one f a) (C a) (C 0) w (ap (λ v. v.window) w) (λ t i j. rw (arg_at S M inv S s a t l.0 i (omega arith)))
  pass_is (two g a b) l k w n =
      let u = n.0 in let v = n.1 in
      pass_as (two g a b) (C a) (C b) w (ap (λ v. v.window) w) (λ t i j. rw (arg_at S M inv S s a t l.0 i (omega arith), arg_at S M inv S s b t l.1.0 i (omega arith)))
  pass_is (last a b) l k w n = w ∙ passed_still (last a b) refl S s y x refl
  pass_is (delay a b) l k w n = w ∙ passed_still (delay a b) refl S s y x refl
  pass_is (signal c a b) l k w n =
      let u = n.0 in let v = n.1 in
      pass_as (signal c a b) (C a) (C b) w (ap (λ v. v.window) w) (λ t i j.
      rw (
        latest_is S M inv S s a (suc t) l.0 (ap (λ c. c.prev) k) (omega arith) (omega arith),
        latest_is S M inv S s b (suc t) l.1.0 (ap (λ c. c.prev_b) k) (omega arith) (omega arith),
        arg_at S M inv S s a t l.0 i (omega arith),
        arg_at S M inv S s b t l.1.0 i (omega arith),
      ))
  pass_is (window f m a) l k w n =
      let v = ap (λ v. v.window) w in
      pass_as (window f m a) (C a) (C 0) w (slid_is S M inv S s (width m) a x l.0 v up n) (λ t i j.
      rw (slid_is S M inv S s (width m) a (suc t) l.0 v (omega arith) (omega arith), arg_at S M inv S s a t l.0 i (omega arith)))

  pub passes_is : Ahead (C s).eqn M x → passes s x M ≡ passed_of (C s).eqn S s x
  passes_is n = pass_is (C s).eqn (floor_read S M inv s) (inv.kept s) (inv.passed s) n
