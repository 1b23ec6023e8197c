-- The numbers and steps of the offers and of collect on raw records are the machine's.
use Prim.Native.Nat.{ℕ, zero, suc, ◌<◌, ◌≤◌}
use mathlib.Core.Path.{◌≡◌, refl, sym, ap, ◌∙◌}
use mathlib.Core.List.{List, [], ◌∷◌, map}
use mathlib.Core.Bool.{Bool, true, false, not, cond}
use native.Mathlib.Omega.{arith}
use native.Mathlib.Numerals.{add-one}
use lib.Dec.{ltb, leb}
use lib.IntN.{ℤ}
use lib.ListN.{length, set, length-set, length-map, length-append, get_or-eq_default}
use lib.Seq.{get_or-set_same, set-set}
use borrow.Author.Tests.{ltb-true, ltb-false}
use mir.Syntax.{w64}
use mir.Val.{of_z}
use Rattle.meaning.specs.Plan.{Eqn, input, is_input}
use Rattle.meaning.specs.Arguments.{reads, arg_a, arg_b}
use Rattle.meaning.specs.Events.{Event, ev, horizon}
use Rattle.machine.specs.State.{Kept, Cell, State, absent, cell_at, room, with_bound, with_kept}
use Rattle.machine.specs.Step.{pass, passes, advance, absorb, absorbed, write, told, tell, release, releases, raise}
use Rattle.machine.specs.Calls.{Outcome, unless, no_input, offer_reading, offer_progress, arrivals, done}
use Rattle.operators.specs.Operators.{group_of, is_in}
use Rattle.operators.proofs.Laws.{in_of}
use Rattle.layout.specs.Record.{Raw, Raws, num, with_num, row_at, change, change_all, op_f, count_f, bound_f}
use Rattle.encoding.specs.View.{of_cell, raws_of}
use Rattle.queue.specs.Queue.{pushed}
use Rattle.readers.specs.Step.{told_row, released_row, offered}
use Rattle.offers.specs.Numbers.{reading_row, reading_raw, progress_row, progress_raw}
use Rattle.refine.proofs.Queues.{bound_of, push_of}
use Rattle.refine.proofs.Whole.{row_of, change_of, tell_of, release_row_of}

-- ---- inputs by their group

pub op_of : (c : Cell) → is_in (group_of (num op_f (of_cell c))) ≡ is_input c.eqn
unfolding of_cell
op_of c = in_of c.eqn

bound_in_lem : (c : Cell) → num bound_f (of_cell c) ≡ c.bound
unfolding of_cell
bound_in_lem c = refl

count_in_lem : (c : Cell) → num count_f (of_cell c) ≡ length c.held
unfolding of_cell
count_in_lem c = refl

-- a stream that is not there
pub absent_at : (M : State) (i : ℕ) → length M ≤ i → cell_at M i ≡ absent
absent_at M i h = get_or-eq_default M absent {n = i} h

-- the refusals one after the other
cond_unless : (b : Bool) (n : ℕ) (M : State) (o : Outcome) → (unless b n M o).number ≡ cond b n o.number
cond_unless true n M o = refl
cond_unless false n M o = refl

not_cond : {A : Type 0} (b : Bool) (x y : A) → cond (not b) x y ≡ cond b y x
not_cond true x y = refl
not_cond false x y = refl

module _ (size : ℕ) (M : State) (i : ℕ) where
  raw_row : i < length M → row_at (raws_of size M) i ≡ of_cell (cell_at M i)
  unfolding raws_of
  raw_row h = row_of M i h

  -- the number of an offer of a reading
  pub reading_number : (t : ℕ) (v : ℤ) → reading_raw (length M) (raws_of size M) i t ≡ (offer_reading i t v M).number
  unfolding reading_raw offer_reading
  reading_number t v = go (ltb i (length M)) refl
    where
      c : Cell
      c = cell_at M i

      o₃ : Outcome
      o₃ = done (arrivals i (ev t v ∷ [])) (raise i (suc t) (ev t v ∷ []) M)

      o₂ : Outcome
      o₂ = unless (leb room (length c.held)) 9 M o₃

      o₁ : Outcome
      o₁ = unless (ltb t c.bound) 8 M o₂

      row : reading_row (of_cell c) t ≡ cond (is_input c.eqn) (cond (ltb t c.bound) 8 (cond (leb room (length c.held)) 9 0)) 7
      row = unfold reading_row in rw (op_of c, bound_in_lem c, count_in_lem c)

      outcome : (unless (no_input i M) 7 M o₁).number ≡ cond (is_input c.eqn) (cond (ltb t c.bound) 8 (cond (leb room (length c.held)) 9 0)) 7
      outcome =
          cond_unless (no_input i M) 7 M o₁ ∙ not_cond (is_input c.eqn) 7 o₁.number
          ∙ ap (λ (x : ℕ). cond (is_input c.eqn) x 7) (cond_unless (ltb t c.bound) 8 M o₂ ∙ ap (cond (ltb t c.bound) 8) (cond_unless (leb room (length c.held)) 9 M o₃))

      go : (b : Bool) → ltb i (length M) ≡ b → cond (ltb i (length M)) (reading_row (row_at (raws_of size M) i) t) 7 ≡ (unless (no_input i M) 7 M o₁).number
      go true e = rw e (ap (λ (r : Raw). reading_row r t) (raw_row (ltb-true i (length M) e)) ∙ row ∙ sym outcome)
      go false e = rw e (sym (outcome ∙ rw (absent_at M i (ltb-false i (length M) e))))

  pub progress_number : (y : ℕ) → progress_raw (length M) (raws_of size M) i y ≡ (offer_progress i y M).number
  unfolding progress_raw offer_progress
  progress_number y = go (ltb i (length M)) refl
    where
      c : Cell
      c = cell_at M i

      o₃ : Outcome
      o₃ = done [] (set M i (with_bound y c))

      o₂ : Outcome
      o₂ = unless (ltb y c.bound) 8 M o₃

      o₁ : Outcome
      o₁ = unless (ltb horizon y) 10 M o₂

      row : progress_row (of_cell c) y ≡ cond (is_input c.eqn) (cond (ltb horizon y) 10 (cond (ltb y c.bound) 8 0)) 7
      row = unfold progress_row in rw (op_of c, bound_in_lem c)

      outcome : (unless (no_input i M) 7 M o₁).number ≡ cond (is_input c.eqn) (cond (ltb horizon y) 10 (cond (ltb y c.bound) 8 0)) 7
      outcome =
          cond_unless (no_input i M) 7 M o₁ ∙ not_cond (is_input c.eqn) 7 o₁.number
          ∙ ap (λ (x : ℕ). cond (is_input c.eqn) x 7) (cond_unless (ltb horizon y) 10 M o₂ ∙ ap (cond (ltb horizon y) 10) (cond_unless (ltb y c.bound) 8 M o₃))

      go : (b : Bool) → ltb i (length M) ≡ b → cond (ltb i (length M)) (progress_row (row_at (raws_of size M) i) y) 7 ≡ (unless (no_input i M) 7 M o₁).number
      go true e = rw e (ap (λ (r : Raw). progress_row r y) (raw_row (ltb-true i (length M) e)) ∙ row ∙ sym outcome)
      go false e = rw e (sym (outcome ∙ rw (absent_at M i (ltb-false i (length M) e))))

  -- progress writes the bound
  pub progress_of : (y : ℕ) → i < length M → change i (with_num bound_f y) (raws_of size M) ≡ raws_of size (set M i (with_bound y (cell_at M i)))
  progress_of y h = change_of size M i (with_num bound_f y) (with_bound y (cell_at M i)) h (bound_of y (cell_at M i)) refl refl

-- ---- an offer's step

-- an input's kept data stay
absorb_input : (q : Eqn) (o a b : Cell) → q ≡ input → absorb q o a b ≡ o.kept
absorb_input q o a b e = rw e

pass_input : (q : Eqn) (y : ℕ) (o a b : Cell) → q ≡ input → pass q y o a b ≡ o.passed
pass_input q y o a b e = rw e

pub write_input : (M : State) (i y : ℕ) (new : List Event) → i < length M → (cell_at M i).eqn ≡ input → write i y new M ≡ set M i (advance y new (cell_at M i).passed (cell_at M i))
unfolding write absorbed
write_input M i y new h e =
    let d = cell_at M i in
    let w : passes i y M ≡ d.passed = pass_input d.eqn y d (cell_at M (arg_a d.eqn)) (cell_at M (arg_b d.eqn)) e in
    let c = advance y new d.passed d in
    let N = set M i c in
    let q : cell_at N i ≡ c = get_or-set_same M i c absent h in
    let a = cell_at N (arg_a c.eqn) in
    let b = cell_at N (arg_b c.eqn) in
    rw (w, q) (ap (λ (k : Kept). set N i (with_kept k c)) (absorb_input c.eqn c a b e) ∙ set-set M i c c)

pub step_of : (size : ℕ) (M : State) (i t : ℕ) (v : ℤ) → i < length M → (cell_at M i).eqn ≡ input → length (cell_at M i).held < room
    → offered i t (of_z w64 v) (raws_of size M) ≡ raws_of size (raise i (suc t) (ev t v ∷ []) M)
unfolding offered raise releases
step_of size M i t v h e k =
    let c = cell_at M i in
    let new : List Event = ev t v ∷ [] in
    let c' = advance (suc t) new c.passed c in
    let M₁ = set M i c' in
    let M₂ = tell i new M₁ in
    let w : write i (suc t) new M ≡ M₁ = write_input M i (suc t) new h e in
    let p : pushed t (of_z w64 v) (of_cell c) ≡ of_cell c' = push_of t v c k ∙ ap (λ (y : ℕ). of_cell (advance y new c.passed c)) (add-one t) in
    let n₁ : length M₁ ≡ length M = length-set M i c' in
    let n₂ : length M₂ ≡ length M = told_length i t v M₁ ∙ n₁ in
    let held : length (cell_at M₂ i).held ≤ room = rw (told_held i t v M₁ i (rw n₁ h), get_or-set_same M i c' absent h, length-append c.held new) (omega arith) in
    ap (λ (r : Raws). released_row i (change_all (told_row i t (of_z w64 v)) r)) (change_of size M i (pushed t (of_z w64 v)) c' h p refl refl)
    ∙ ap (released_row i) (tell_of size M₁ i t v)
    ∙ release_row_of size M₂ i (rw n₂ h) held
    ∙ ap (raws_of size) (sym (ap (λ (q : Eqn). releases (i ∷ reads q) (tell i new (write i (suc t) new M))) e ∙ ap (λ (N : State). release i (tell i new N)) w))
  where
    told_length : (s t : ℕ) (v : ℤ) (N : State) → length (tell s (ev t v ∷ []) N) ≡ length N
    told_length s t v N = unfold tell in length-map N (told s t v)

    map_held : (s t : ℕ) (v : ℤ) (N : State) (j : ℕ) → j < length N → (cell_at (map (told s t v) N) j).held ≡ (cell_at N j).held
    map_held s t v [] j l = absurd (omega arith)
    map_held s t v (d ∷ N) zero l = unfold told in refl
    map_held s t v (d ∷ N) (suc j) l = map_held s t v N j (omega arith)

    told_held : (s t : ℕ) (v : ℤ) (N : State) (j : ℕ) → j < length N → (cell_at (tell s (ev t v ∷ []) N) j).held ≡ (cell_at N j).held
    told_held s t v N j l = unfold tell in map_held s t v N j l
