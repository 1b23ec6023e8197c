-- A move on raw records is the machine's, on every sound state.
use Prim.Native.Nat.{ℕ, suc, ◌+◌, ◌<◌, ◌≤◌, min, max}
use mathlib.Core.Path.{◌≡◌, refl, sym, ap, ap₂, ◌∙◌}
use mathlib.Core.List.{List, [], ◌∷◌, ◌++◌}
use mathlib.Core.Bool.{Bool, true, false, not, cond, ◌&&◌, true≢false}
use native.Mathlib.Omega.{arith}
use native.Mathlib.Numerals.{add-one}
use lib.Dec.{T, leb, eqb}
use lib.IntN.{ℤ}
use lib.ListN.{length, set, length-set}
use lib.Seq.{get_or-set_same, set-get_or, set-set}
use borrow.Author.Tests.{lt-ltb, leb-false}
use mir.Syntax.{w64}
use mir.Val.{of_z}
use Rattle.meaning.specs.Plan.{Eqn, input, nil, unit, one, two, last, delay, signal, window, is_input}
use Rattle.meaning.specs.Arguments.{reads, arg_a, arg_b, AllBelow}
use Rattle.meaning.specs.Events.{Event, ev, horizon}
use Rattle.meaning.specs.Table.{latest_of, values, width}
use Rattle.meaning.specs.Missing.{Reason, Outside, ZeroDivisor, can_lack, count_limit}
use Rattle.machine.specs.State.{Kept, Passed, Cell, State, absent, cell_at, plan_of, room, no_passed, count_of, with_kept, with_window, with_passed}
use Rattle.machine.specs.Reach.{Next, event, silent, decide}
use Rattle.machine.specs.Step.{drop_below, passes, advance, absorb, absorbed, write, tell, release, releases, raise, new_bound, added, ahead, can_move, comes_in, move}
use Rattle.machine.specs.Windows.{take_below}
use Rattle.machine.specs.Counting.{tallied, end_of}
use Rattle.machine.proofs.Counting.{counted_is}
use Rattle.machine.proofs.Cells.{set_cases}
use Rattle.machine.proofs.Frame.{absorbed_frame, tell_frame}
use Rattle.operators.specs.Operators.{value_of}
use Rattle.operators.specs.Limits.{window_limit}
use Rattle.operators.specs.Windows.{is_window_eqn, windows}
use Rattle.layout.specs.Record.{Raw, Raws, num, with_num, row_at, change, change_all, count_f, bound_f}
use Rattle.encoding.specs.Back.{held_of, to_cell}
use Rattle.encoding.specs.View.{of_cell, raws_of}
use Rattle.encoding.specs.Sound.{Rising, IsKept, IsCount, SoundCell, Sound}
use Rattle.encoding.proofs.Widths.{cell_back}
use Rattle.preserve.proofs.Steps.{Comes, silence, comes_values, advance_sound, passes_sound, passes_counts, write_sound, tell_sound, release_sound}
use Rattle.preserve.proofs.Calls.{ahead_fine}
use Rattle.machine.proofs.Moves.{can_up}
use Rattle.streams.specs.Look.{look_of, own_cell}
use Rattle.streams.proofs.Laws.{look_cell}
use Rattle.keeping.specs.Keep.{moved_cell, kept_row}
use Rattle.keeping.proofs.Laws.{absorb_near, kept_cell}
use Rattle.queue.specs.Queue.{pushed}
use Rattle.readers.specs.Step.{told_row, released_row}
use Rattle.sliding.specs.Slide.{width_in, fit_row, missing_row, slid_row}
use Rattle.counting.specs.Tally.{counted_row}
use Rattle.passing.specs.Pass.{arg_in, own_in, other_in, fold_of, slid_raw, summed_for, missed_raw, counted_raw, passed_raw}
use Rattle.making.specs.Make.{bound_raw, kept_raw, absorbed_raw, released_args, released_all, silent_raw, event_raw, step_raw}
use Rattle.moves.specs.Move.{found_raw, ahead_raw, can_raw, moved_raw}
use Rattle.refine.proofs.Queues.{bound_of, silent_is, push_of}
use Rattle.refine.proofs.Whole.{row_of, change_of, tell_of, release_row_of}
use Rattle.refine.proofs.Slides.{Fine, fine, rises, decide_plain, decide_window, pass_plain, pass_window, fit_of, missing_of, slid_of}
use Rattle.refine.proofs.Counts.{with_both, counted_cell, pass_count, tallied_plain, tallied_window, plan_set}

-- ---- a sound cell is looked at as it is

since_below : (e : Eqn) (y : ℕ) (k : Kept) → IsKept e y k → k.since ≤ y
since_below input y k ok = rw ok (omega arith)
since_below nil y k ok = rw ok (omega arith)
since_below unit y k ok = rw ok (omega arith)
since_below (one f a) y k ok = rw ok (omega arith)
since_below (two g a b) y k ok = rw ok (omega arith)
since_below (last a b) y k ok = let s = ok.since in omega arith
since_below (delay a b) y k ok = ok.since
since_below (signal c a b) y k ok = let s = ok.since in omega arith
since_below (window f n a) y k ok = rw ok (omega arith)

-- but for what a window keeps, which lies elsewhere
look_of_lem : (n : ℕ) (c : Cell) → SoundCell n c → look_of (of_cell c) ≡ with_passed no_passed c
look_of_lem n c ok = look_cell c (cell_back n c ok) ok.bound (since_below c.eqn c.bound c.kept ok.kept)

-- ---- the arguments

first_below : (n : ℕ) (e : Eqn) → 0 < n → AllBelow n (reads e) → arg_a e < n
first_below n input h k = h
first_below n nil h k = h
first_below n unit h k = h
first_below n (one f a) h k = k.0
first_below n (two g a b) h k = k.0
first_below n (last a b) h k = k.0
first_below n (delay a b) h k = k.0
first_below n (signal c a b) h k = k.0
first_below n (window f m a) h k = k.0

second_below : (n : ℕ) (e : Eqn) → 0 < n → AllBelow n (reads e) → arg_b e < n
second_below n input h k = h
second_below n nil h k = h
second_below n unit h k = h
second_below n (one f a) h k = h
second_below n (two g a b) h k = k.1.0
second_below n (last a b) h k = k.1.0
second_below n (delay a b) h k = k.1.0
second_below n (signal c a b) h k = k.1.0
second_below n (window f m a) h k = h

count_in_lem : (c : Cell) → num count_f (of_cell c) ≡ length c.held
unfolding of_cell
count_in_lem c = refl

arg_is : (n a : ℕ) → a < n → arg_in n a ≡ a
arg_is n a h = rw (lt-ltb a n h)

-- the state while a stream is written has sound cells, but its new event is not yet counted in `since`
record Cells (M : State) : Type 0 where
  pub each : (i : ℕ) → i < length M → SoundCell (length M) (cell_at M i)

cells : {cap : ℕ} (M : State) → Sound cap M → Cells M
cells M ok = record { each = ok.each }

module _ (size : ℕ) (M : State) (ok : Cells M) where
  row : (j : ℕ) → j < length M → row_at (raws_of size M) j ≡ of_cell (cell_at M j)
  unfolding raws_of
  row j h = row_of M j h

  own_is : (j : ℕ) → j < length M → look_of (row_at (raws_of size M) j) ≡ with_passed no_passed (cell_at M j)
  own_is j h = ap look_of (row j h) ∙ look_of_lem (length M) (cell_at M j) (ok.each j h)

  module _ (i : ℕ) (l : i < length M) where
    below_a : arg_a (cell_at M i).eqn < length M
    below_a = first_below (length M) (cell_at M i).eqn (omega arith) (ok.each i l).arguments

    below_b : arg_b (cell_at M i).eqn < length M
    below_b = second_below (length M) (cell_at M i).eqn (omega arith) (ok.each i l).arguments

    own : own_in i (raws_of size M) ≡ with_passed no_passed (cell_at M i)
    own = own_is i l

    other_is : (a : ℕ) → a < length M → other_in (length M) a (raws_of size M) ≡ with_passed no_passed (cell_at M a)
    other_is a h = ap (λ (j : ℕ). look_of (row_at (raws_of size M) j)) (arg_is (length M) a h) ∙ own_is a h

    first_cell : other_in (length M) (arg_a (cell_at M i).eqn) (raws_of size M) ≡ with_passed no_passed (cell_at M (arg_a (cell_at M i).eqn))
    first_cell = other_is (arg_a (cell_at M i).eqn) below_a

    second_cell : other_in (length M) (arg_b (cell_at M i).eqn) (raws_of size M) ≡ with_passed no_passed (cell_at M (arg_b (cell_at M i).eqn))
    second_cell = other_is (arg_b (cell_at M i).eqn) below_b

    -- own kept data brought up to date, from the equation and the kept data as they were looked at
    absorbed_of : (e : Eqn) (k : Kept) (y : ℕ) → e ≡ (cell_at M i).eqn → k ≡ (cell_at M i).kept → y ≡ (cell_at M i).bound
        → absorbed_raw (length M) i e k y (raws_of size M) ≡ raws_of size (absorbed i M)
    unfolding absorbed_raw absorbed look_of to_cell
    absorbed_of e k y qe qk qy =
        let c = cell_at M i in
        let a = cell_at M (arg_a c.eqn) in
        let b = cell_at M (arg_b c.eqn) in
        let st = raws_of size M in
        let x = absorb c.eqn c a b in
        let held : held_of (row_at st i) ≡ c.held = ap (λ (d : Cell). d.held) own in
        let near : kept_raw (length M) i c.eqn c.kept c.bound st ≡ x =
        (λ z. absorb c.eqn (moved_cell c.bound (held z) c.kept) (first_cell z) (second_cell z))
        ∙ sym (absorb_near c.eqn (moved_cell c.bound c.held c.kept) (with_passed no_passed a) (with_passed no_passed b) 0 0)
        ∙ absorb_near c.eqn c a b 0 0 in
        (λ z. change i (kept_row (qe z) (kept_raw (length M) i (qe z) (qk z) (qy z) st)) st)
        ∙ ap (λ (j : Kept). change i (kept_row c.eqn j) st) near
        ∙ change_of size M i (kept_row c.eqn x) (with_kept x c) l (kept_cell x c) refl refl

-- ---- what a move finds

bound_after_lem : (x : Next) (held : List Event) → bound_raw x (length held) ≡ new_bound x held
bound_after_lem (silent r) held = refl
bound_after_lem (event t v) held = ap (cond (leb room (length held)) t) (add-one t)

module _ {cap : ℕ} (size : ℕ) (M : State) (ok : Sound cap M) (i : ℕ) (l : i < length M) where
  abbrev me : Cell
  me = cell_at M i

  abbrev first_arg : Cell
  first_arg = cell_at M (arg_a (cell_at M i).eqn)

  good : is_window_eqn me.eqn ≡ true → Fine me.eqn me.passed.window
  good q = fine me.eqn me.bound me.passed q (ok.each i l).width (ok.each i l).passed

  arg_held : Rising 0 first_arg.bound first_arg.held
  arg_held = (ok.each (arg_a me.eqn) (below_a size M (cells M ok) i l)).held

  found_of : (b : Bool) → is_window_eqn me.eqn ≡ b → found_raw (length M) i me.eqn (with_passed no_passed me) (raws_of size M) ≡ ahead i M
  unfolding ahead
  found_of true q =
      let e = me.eqn in
      let y = me.bound in
      let st = raws_of size M in
      let a = other_in (length M) (arg_a e) st in
      let f = first_cell size M (cells M ok) i l in
      rw q (ap (λ (c : Cell). fit_row (fold_of e) (width_in (value_of e)) i y (max y c.bound) c.held st) f
      ∙ fit_of size M i l q ok.windows (good q) y (max y first_arg.bound) first_arg.held
      ∙ decide_window first_arg.bound me first_arg (cell_at M (arg_b e)) arg_held e q)
  found_of false q =
      rw q ((λ z. decide me.eqn (with_passed no_passed me) (first_cell size M (cells M ok) i l z) (second_cell size M (cells M ok) i l z))
      ∙ decide_plain me.eqn me first_arg (cell_at M (arg_b me.eqn)) q)

  ahead_of : ahead_raw (length M) i (raws_of size M) ≡ ahead i M
  unfolding ahead_raw
  ahead_of = (λ z. let o = own size M (cells M ok) i l z in found_raw (length M) i o.eqn o (raws_of size M)) ∙ found_of (is_window_eqn me.eqn) refl

  count : num count_f (row_at (raws_of size M) i) ≡ length me.held
  count = ap (num count_f) (row size M (cells M ok) i l) ∙ count_in_lem me

  bound_is : bound_raw (ahead_raw (length M) i (raws_of size M)) (num count_f (row_at (raws_of size M) i)) ≡ new_bound (ahead i M) me.held
  bound_is = ap₂ bound_raw ahead_of count ∙ bound_after_lem (ahead i M) me.held

  -- whether it can move
  can_by_cells : can_raw (length M) i (raws_of size M) ≡ can_move i M
  unfolding can_raw can_move
  can_by_cells =
      let o = own size M (cells M ok) i l in
      ap₂ (λ (p : Bool) (q : Bool). not p && not q) (ap (λ (c : Cell). is_input c.eqn) o) (ap₂ eqb bound_is (ap (λ (c : Cell). c.bound) o))

  other_held : Rising 0 (cell_at M (arg_b (cell_at M i).eqn)).bound (cell_at M (arg_b (cell_at M i).eqn)).held
  other_held = (ok.each (arg_b me.eqn) (below_b size M (cells M ok) i l)).held

  -- ---- what is kept of the passed stamps, as the bound goes on

  abbrev next : ℕ
  next = new_bound (ahead i M) me.held

  -- at how many stamps an event is missing
  missed_of : (q : Reason) (z : ℕ) → missed_raw q (length M) i me.eqn me.kept me.bound z (raws_of size M) ≡ tallied q me.eqn me first_arg (cell_at M (arg_b me.eqn)) z
  missed_of q z = go (is_window_eqn me.eqn) refl
    where
      go : (b : Bool) → is_window_eqn me.eqn ≡ b → missed_raw q (length M) i me.eqn me.kept me.bound z (raws_of size M) ≡ tallied q me.eqn me first_arg (cell_at M (arg_b me.eqn)) z
      go true w =
          rw w (ap (λ (c : Cell). summed_for q (fold_of me.eqn) (missing_row (width_in (value_of me.eqn)) i me.bound z c.held (raws_of size M))) (first_cell size M (cells M ok) i l)
          ∙ ap (summed_for q (fold_of me.eqn)) (missing_of size M i l w ok.windows (good w) me.bound z first_arg.held)
          ∙ tallied_window q me.eqn me first_arg (cell_at M (arg_b me.eqn)) z w)
      go false w =
          rw w ((λ j. tallied q me.eqn (own_cell nil me.bound me.kept) (first_cell size M (cells M ok) i l j) (second_cell size M (cells M ok) i l j) z)
          ∙ tallied_plain q me.eqn me first_arg (cell_at M (arg_b me.eqn)) z w)

  -- with the counts of the machine, its window as it was
  abbrev counted_to : Cell
  counted_to = with_both (passes i next M).outside (passes i next M).divisors me

  count_is : can_lack me.eqn ≡ true → (q : Reason) → min count_limit (count_of q me.passed + missed_raw q (length M) i me.eqn me.kept me.bound (end_of (ahead i M)) (raws_of size M)) ≡ count_of q (passes i next M)
  unfolding ahead
  count_is h q =
      let e = me.eqn in
      let b = cell_at M (arg_b e) in
      ap (λ (m : ℕ). min count_limit (count_of q me.passed + m)) (missed_of q (end_of (ahead i M)))
      ∙ sym (counted_is q e me first_arg b (record { top = first_arg.bound; rising = rises 0 first_arg.bound first_arg.held arg_held }) (record { top = b.bound; rising = rises 0 b.bound b.held other_held }) me.held (count_of q me.passed))
      ∙ sym (pass_count e next me first_arg b h q)

  counted_raw_lem : me.bound < next → counted_raw (length M) i me.eqn me.kept me.bound (end_of (ahead i M)) (raws_of size M) ≡ raws_of size (set M i counted_to)
  unfolding counted_raw
  counted_raw_lem up = go (can_lack me.eqn) refl
    where
      z : ℕ
      z = end_of (ahead i M)

      m : Reason → ℕ
      m q = missed_raw q (length M) i me.eqn me.kept me.bound (end_of (ahead i M)) (raws_of size M)

      stays : can_lack me.eqn ≡ false → (q : Reason) → count_of q (passes i next M) ≡ count_of q me.passed
      stays h q = both (can_lack me.eqn) h (passes_counts i next M ok l up q) ((ok.each i l).counts q)
        where
          both : (b : Bool) → b ≡ false → IsCount b next (count_of q (passes i next M)) → IsCount b me.bound (count_of q me.passed) → count_of q (passes i next M) ≡ count_of q me.passed
          both true e u v = absurd (true≢false e)
          both false e u v = u ∙ sym v

      go : (b : Bool) → can_lack me.eqn ≡ b → cond b (change i (counted_row (m Outside) (m ZeroDivisor)) (raws_of size M)) (raws_of size M) ≡ raws_of size (set M i counted_to)
      go true h =
          change_of size M i (counted_row (m Outside) (m ZeroDivisor)) (with_both (min count_limit (me.passed.outside + m Outside)) (min count_limit (me.passed.divisors + m ZeroDivisor)) me) l (counted_cell me (m Outside) (m ZeroDivisor) (ok.each i l).counts) refl refl
          ∙ ap₂ (λ (u v : ℕ). raws_of size (set M i (with_both u v me))) (count_is h Outside) (count_is h ZeroDivisor)
      go false h = sym (ap₂ (λ (u v : ℕ). raws_of size (set M i (with_both u v me))) (stays h Outside) (stays h ZeroDivisor) ∙ ap (raws_of size) (set-get_or M i absent))

  -- a state whose stream i has other counts holds the same events
  held_same : (j : ℕ) → j < length M → held_of (of_cell (cell_at (set M i counted_to) j)) ≡ (cell_at M j).held
  unfolding look_of to_cell
  held_same = set_cases (λ j c. j < length M → held_of (of_cell c) ≡ (cell_at M j).held) M i counted_to l (λ j n h. plain j h) (λ h. unfold held_of of_cell in plain i h)
    where
      plain : (j : ℕ) → j < length M → held_of (of_cell (cell_at M j)) ≡ (cell_at M j).held
      plain j h = sym (ap (λ (r : Raw). (look_of r).held) (row size M (cells M ok) j h)) ∙ ap (λ (c : Cell). c.held) (own_is size M (cells M ok) j h)

  passed_raw_lem : me.bound < next → passed_raw (length M) i me.eqn me.kept me.bound next (end_of (ahead i M)) (raws_of size M) ≡ raws_of size (set M i (with_passed (passes i next M) me))
  unfolding passed_raw slid_raw
  passed_raw_lem up = ap (slid_raw (length M) i me.eqn me.bound next) (counted_raw_lem up) ∙ go (is_window_eqn me.eqn) refl
    where
      N : State
      N = set M i counted_to

      at : cell_at (set M i counted_to) i ≡ counted_to
      at = get_or-set_same M i counted_to absent l

      held : (other_in (length M) (arg_a me.eqn) (raws_of size (set M i counted_to))).held ≡ first_arg.held
      held =
          unfold raws_of look_of to_cell in
          ap (λ (j : ℕ). held_of (row_at (raws_of size (set M i counted_to)) j)) (arg_is (length M) (arg_a me.eqn) (below_a size M (cells M ok) i l))
          ∙ ap held_of (row_of (set M i counted_to) (arg_a me.eqn) (rw (length-set M i counted_to) (below_a size M (cells M ok) i l)))
          ∙ held_same (arg_a me.eqn) (below_a size M (cells M ok) i l)

      go : (b : Bool) → is_window_eqn me.eqn ≡ b
          → cond b (slid_row (width_in (value_of me.eqn)) i me.bound next (other_in (length M) (arg_a me.eqn) (raws_of size (set M i counted_to))).held (raws_of size (set M i counted_to))) (raws_of size (set M i counted_to))
          ≡ raws_of size (set M i (with_passed (passes i next M) me))
      go true w =
          let q : is_window_eqn (cell_at (set M i counted_to) i).eqn ≡ true = ap (λ (c : Cell). is_window_eqn c.eqn) at ∙ w in
          let f : Fine (cell_at (set M i counted_to) i).eqn (cell_at (set M i counted_to) i).passed.window = rw at (good w) in
          let p : windows (plan_of (set M i counted_to)) ≤ window_limit = rw (plan_set M i counted_to l refl) ok.windows in
          ap (λ (es : List Event). slid_row (width_in (value_of me.eqn)) i me.bound next es (raws_of size (set M i counted_to))) held
          ∙ ap (λ (c : Cell). slid_row (width_in (value_of c.eqn)) i me.bound next first_arg.held (raws_of size (set M i counted_to))) (sym at)
          ∙ slid_of size (set M i counted_to) i (rw (length-set M i counted_to) l) q p f me.bound next first_arg.held
          ∙ ap (λ (c : Cell). raws_of size (set (set M i counted_to) i (with_passed (with_window (latest_of (width (value_of c.eqn)) (c.passed.window ++ values (take_below next (drop_below me.bound first_arg.held)))) c.passed) c))) at
          ∙ ap (raws_of size) (set-set M i counted_to _)
          ∙ ap (λ (v : List ℤ). raws_of size (set M i (with_passed (with_window v (passes i next M)) me))) (sym (pass_window first_arg.bound me first_arg (cell_at M (arg_b me.eqn)) arg_held me.eqn next w))
      go false w = ap (λ (v : List ℤ). raws_of size (set M i (with_passed (with_window v (passes i next M)) me))) (sym (pass_plain me.eqn next me first_arg (cell_at M (arg_b me.eqn)) w))

pub can_of : {cap : ℕ} (size : ℕ) (M : State) → Sound cap M → (i : ℕ) → i < length M → can_raw (length M) i (raws_of size M) ≡ can_move i M
can_of size M ok i l = can_by_cells size M ok i l

-- ---- release of the stream and its arguments

few_at : {cap : ℕ} (M : State) → Sound cap M → (j : ℕ) → j < length M → length (cell_at M j).held ≤ room
few_at M ok j h = (ok.each j h).few

release_is : {cap : ℕ} (size : ℕ) (M : State) → Sound cap M → (j : ℕ) → j < length M → released_row j (raws_of size M) ≡ raws_of size (release j M)
release_is size M ok j h = release_row_of size M j h (few_at M ok j h)

release_length : (i : ℕ) (M : State) → length (release i M) ≡ length M
unfolding release
release_length i M = length-set M i _

args_of : {cap : ℕ} (size : ℕ) (M : State) → Sound cap M → (l : List ℕ) → AllBelow (length M) l → released_args (length M) l (raws_of size M) ≡ raws_of size (releases l M)
unfolding released_args releases
args_of size M ok [] h = refl
args_of size M ok (a ∷ l) h =
    let N = release a M in
    let n : length N ≡ length M = release_length a M in
    ap (λ (j : ℕ). released_args (length M) l (released_row j (raws_of size M))) (arg_is (length M) a h.0)
    ∙ ap (released_args (length M) l) (release_is size M ok a h.0)
    ∙ ap (λ (m : ℕ). released_args m l (raws_of size N)) (sym n)
    ∙ args_of size N (release_sound a M ok) l (rw n h.1)

pub all_of : {cap : ℕ} (size : ℕ) (M : State) → Sound cap M → (i : ℕ) → i < length M → (e : Eqn) → e ≡ (cell_at M i).eqn
    → released_all (length M) i e (raws_of size M) ≡ raws_of size (releases (i ∷ reads e) M)
unfolding released_all releases
all_of size M ok i l e q =
    let n : length (release i M) ≡ length M = release_length i M in
    let h : AllBelow (length M) (reads e) = rw q (ok.each i l).arguments in
    ap (released_args (length M) (reads e)) (release_is size M ok i l)
    ∙ ap (λ (m : ℕ). released_args m (reads e) (raws_of size (release i M))) (sym n)
    ∙ args_of size (release i M) (release_sound i M ok) (reads e) (rw n h)

-- ---- the two kinds of move

module _ {cap : ℕ} (size : ℕ) (M : State) (ok : Sound cap M) (i : ℕ) (l : i < length M) where
  -- the state with the bound at y and the new events, and with its kept data
  module _ (y : ℕ) (new : List Event) (up : (cell_at M i).bound < y) (top : y ≤ horizon) (cm : Comes y (cell_at M i) new) where
    N : State
    N = set M i (advance y new (passes i y M) (cell_at M i))

    cells_N : Cells (set M i (advance y new (passes i y M) (cell_at M i)))
    cells_N = record {
      each = λ j h. rw (length-set M i (advance y new (passes i y M) (cell_at M i))) (at j (rw (length-set M i (advance y new (passes i y M) (cell_at M i))) at h));
    }
      where
        at : (j : ℕ) → j < length M → SoundCell (length M) (cell_at (set M i (advance y new (passes i y M) (cell_at M i))) j)
        at = set_cases (λ j c. j < length M → SoundCell (length M) c) M i (advance y new (passes i y M) (cell_at M i)) l (λ j n. ok.each j) (λ h. advance_sound (length M) y (cell_at M i) new (passes i y M) (ok.each i l) up top cm (passes_sound i y M ok l up) (passes_counts i y M ok l up))

    length_N : length (set M i (advance y new (passes i y M) (cell_at M i))) ≡ length M
    length_N = length-set M i (advance y new (passes i y M) (cell_at M i))

    -- the cell that is written: its equation, its bound and what it keeps
    cell_N : cell_at (set M i (advance y new (passes i y M) (cell_at M i))) i ≡ advance y new (passes i y M) (cell_at M i)
    cell_N = get_or-set_same M i (advance y new (passes i y M) (cell_at M i)) absent l

    written : absorbed_raw (length M) i (cell_at M i).eqn (cell_at M i).kept y (raws_of size (set M i (advance y new (passes i y M) (cell_at M i)))) ≡ raws_of size (write i y new M)
    unfolding write
    written =
        ap (λ (m : ℕ). absorbed_raw m i (cell_at M i).eqn (cell_at M i).kept y (raws_of size (set M i (advance y new (passes i y M) (cell_at M i))))) (sym length_N)
        ∙ absorbed_of size (set M i (advance y new (passes i y M) (cell_at M i))) cells_N i (rw length_N l) (cell_at M i).eqn (cell_at M i).kept y
        (ap (λ (c : Cell). c.eqn) (sym cell_N)) (ap (λ (c : Cell). c.kept) (sym cell_N)) (ap (λ (c : Cell). c.bound) (sym cell_N))

    after : Sound cap (tell i new (write i y new M))
    after = tell_sound i new (write i y new M) (comes_values cm) (write_sound i y new M ok l up top cm)

    lengths : length (tell i new (write i y new M)) ≡ length M
    lengths = tell_length i new (write i y new M) ∙ write_length
      where
        tell_length : (s : ℕ) (es : List Event) (K : State) → length (tell s es K) ≡ length K
        tell_length s [] K = unfold tell in refl
        tell_length s (x ∷ es) K = unfold tell in lib.ListN.length-map K _

        write_length : length (write i y new M) ≡ length M
        write_length = unfold write absorbed in length-set (set M i (advance y new (passes i y M) (cell_at M i))) i _ ∙ length_N

    eqn_kept : (cell_at (tell i new (write i y new M)) i).eqn ≡ (cell_at M i).eqn
    unfolding write
    eqn_kept =
        (tell_frame i new (write i y new M)).eqns i ∙ (absorbed_frame i (set M i (advance y new (passes i y M) (cell_at M i))) (rw length_N l)).eqns i
        ∙ ap (λ (c : Cell). c.eqn) (get_or-set_same M i (advance y new (passes i y M) (cell_at M i)) absent l)

    released : released_all (length M) i (cell_at M i).eqn (raws_of size (tell i new (write i y new M))) ≡ raws_of size (raise i y new M)
    unfolding raise
    released =
        ap (λ (m : ℕ). released_all m i (cell_at M i).eqn (raws_of size (tell i new (write i y new M)))) (sym lengths)
        ∙ all_of size (tell i new (write i y new M)) after i (rw lengths l) (cell_at M i).eqn (sym eqn_kept)

  tell_none : (K : State) → tell i [] K ≡ K
  unfolding tell
  tell_none K = refl

  -- the state whose window has slid
  abbrev slid : ℕ → State
  slid y = set M i (with_passed (passes i y M) (cell_at M i))

  -- its record changed as the machine changes its cell
  change_slid : (y : ℕ) (g : Raw → Raw) (d : Cell) → g (of_cell (with_passed (passes i y M) (cell_at M i))) ≡ of_cell d → d.eqn ≡ (cell_at M i).eqn → d.passed.window ≡ (passes i y M).window
      → change i g (raws_of size (slid y)) ≡ raws_of size (set M i d)
  change_slid y g d e q w =
      let c = with_passed (passes i y M) (cell_at M i) in
      let at : cell_at (slid y) i ≡ c = get_or-set_same M i c absent l in
      change_of size (slid y) i g d (rw (length-set M i c) l) (ap (λ (x : Cell). g (of_cell x)) at ∙ e) (q ∙ ap (λ (x : Cell). x.eqn) (sym at)) (w ∙ ap (λ (x : Cell). x.passed.window) (sym at))
      ∙ ap (raws_of size) (set-set M i c d)

  pub silent_of : (y : ℕ) → (cell_at M i).bound < y → y ≤ horizon → silent_raw (length M) i (cell_at M i).eqn (cell_at M i).kept y (raws_of size (slid y)) ≡ raws_of size (raise i y [] M)
  unfolding silent_raw
  silent_of y up top =
      let c = cell_at M i in
      let d = with_passed (passes i y M) c in
      let p : change i (with_num bound_f y) (raws_of size (slid y)) ≡ raws_of size (set M i (advance y [] (passes i y M) c)) =
      change_slid y (with_num bound_f y) (advance y [] (passes i y M) c) (bound_of y d ∙ ap of_cell (sym (silent_is y d))) refl refl in
      ap (λ (st : Raws). released_all (length M) i c.eqn (absorbed_raw (length M) i c.eqn c.kept y st)) p
      ∙ ap (released_all (length M) i c.eqn) (written y [] up top silence ∙ ap (raws_of size) (sym (tell_none (write i y [] M))))
      ∙ released y [] up top silence

  pub event_of_lem : (t : ℕ) (v : ℤ) → (cell_at M i).bound < suc t → suc t ≤ horizon → Comes (suc t) (cell_at M i) (ev t v ∷ []) → length (cell_at M i).held < room
      → event_raw (length M) i (cell_at M i).eqn (cell_at M i).kept t (of_z w64 v) (raws_of size (slid (suc t))) ≡ raws_of size (raise i (suc t) (ev t v ∷ []) M)
  unfolding event_raw
  event_of_lem t v up top cm space =
      let c = cell_at M i in
      let w = passes i (suc t) M in
      let new : List Event = ev t v ∷ [] in
      let p : change i (pushed t (of_z w64 v)) (raws_of size (slid (suc t))) ≡ raws_of size (set M i (advance (suc t) new w c)) =
      change_slid (suc t) (pushed t (of_z w64 v)) (advance (suc t) new w c) (push_of t v (with_passed w c) space ∙ ap (λ (y : ℕ). of_cell (advance y new w c)) (add-one t)) refl refl in
      ap (λ (st : Raws). released_all (length M) i c.eqn (change_all (told_row i t (of_z w64 v)) (absorbed_raw (length M) i c.eqn c.kept (t + 1) st))) p
      ∙ ap (λ (y : ℕ). released_all (length M) i c.eqn (change_all (told_row i t (of_z w64 v)) (absorbed_raw (length M) i c.eqn c.kept y (raws_of size (set M i (advance (suc t) new w c)))))) (add-one t)
      ∙ ap (λ (st : Raws). released_all (length M) i c.eqn (change_all (told_row i t (of_z w64 v)) st)) (written (suc t) new up top cm)
      ∙ ap (released_all (length M) i c.eqn) (tell_of size (write i (suc t) new M) i t v)
      ∙ released (suc t) new up top cm

  -- a move, where the stream can move
  pub moved_of_lem : T (can_move i M) → moved_raw (length M) i (raws_of size M) ≡ raws_of size (move i M)
  unfolding moved_raw move comes_in
  moved_of_lem can =
      let o = own size M (cells M ok) i l in
      let y = new_bound (ahead i M) (cell_at M i).held in
      (λ z. step_raw (length M) i (o z).eqn (o z).kept (ahead_of size M ok i l z) (count size M ok i l z) (passed_raw (length M) i (o z).eqn (o z).kept (o z).bound (bound_is size M ok i l z) (end_of (ahead_of size M ok i l z)) (raws_of size M)))
      ∙ ap (step_raw (length M) i (cell_at M i).eqn (cell_at M i).kept (ahead i M) (length (cell_at M i).held)) (passed_raw_lem size M ok i l (can_up i M can))
      ∙ go (ahead i M) (can_up i M can) (ahead_fine M ok i l)
    where
      go : (x : Next) → (cell_at M i).bound < new_bound x (cell_at M i).held → (new_bound x (cell_at M i).held ≤ horizon) × Comes (new_bound x (cell_at M i).held) (cell_at M i) (added x (cell_at M i).held)
          → step_raw (length M) i (cell_at M i).eqn (cell_at M i).kept x (length (cell_at M i).held) (raws_of size (slid (new_bound x (cell_at M i).held))) ≡ raws_of size (raise i (new_bound x (cell_at M i).held) (added x (cell_at M i).held) M)
      go (silent r) up f = silent_of r up f.0
      go (event t v) up f = full (leb room (length (cell_at M i).held)) refl up f
        where
          full : (b : Bool) → leb room (length (cell_at M i).held) ≡ b → (cell_at M i).bound < cond b t (suc t) → (cond b t (suc t) ≤ horizon) × Comes (cond b t (suc t)) (cell_at M i) (cond b [] (ev t v ∷ []))
              → cond b (silent_raw (length M) i (cell_at M i).eqn (cell_at M i).kept t (raws_of size (slid (cond b t (suc t))))) (event_raw (length M) i (cell_at M i).eqn (cell_at M i).kept t (of_z w64 v) (raws_of size (slid (cond b t (suc t))))) ≡ raws_of size (raise i (cond b t (suc t)) (cond b [] (ev t v ∷ [])) M)
          full true q u f = silent_of t u f.0
          full false q u f = event_of_lem t v u f.0 f.1 (leb-false room (length (cell_at M i).held) q)
