-- One move of a run, and the run that is left after it.
use Prim.Native.Nat.{ℕ, zero, suc, ◌+◌, ◌-◌, ◌<◌, ◌≤◌}
use mathlib.Core.Path.{◌≡◌, refl, sym, ap, ap₂, ◌∙◌}
use mathlib.Core.Logic.{inl, inr}
use mathlib.Core.List.{List, []}
use mathlib.Core.Bool.{Bool, true, false, cond}
use native.Mathlib.Omega.{arith}
use lib.Dec.{T, ltb}
use lib.ListN.{length}
use borrow.Author.Tests.{lt-ltb, le-ltb}
use Rattle.machine.specs.State.{State, cell_at}
use Rattle.machine.specs.Reach.{least}
use Rattle.machine.specs.Step.{can_move, comes_in, new_bound, ahead, move}
use Rattle.machine.specs.Calls.{Outcome, done, one_more, arrivals, lowest, run}
use Rattle.machine.proofs.Search.{least_is}
use Rattle.machine.proofs.Frame.{raise_size}
use Rattle.machine.proofs.Outcomes.{run_more, run_ends}
use Rattle.machine.proofs.Moves.{lowest_can}
use Rattle.machine.specs.Touched.{Still}
use Rattle.machine.proofs.Touched.{move_still}
use Rattle.meaning.proofs.Tests.{true_is}
use Rattle.le.specs.Bytes.{Bytes}
use Rattle.layout.specs.Record.{Raws, encode, decode}
use Rattle.encoding.specs.View.{raws_of, bytes_of}
use Rattle.encoding.specs.Sound.{Sound}
use Rattle.operators.specs.Limits.{capacity}
use Rattle.preserve.proofs.Calls.{move_sound}
use Rattle.roundtrip.specs.In.{state_in, IsState}
use Rattle.roundtrip.proofs.Whole.{bytes_length}
use Rattle.roundtrip.proofs.In.{bytes_are, bytes_in, sound, streams, raws, stays}
use Rattle.moves.specs.Move.{can_raw, moved_raw}
use Rattle.refine.proofs.Moves.{can_of, moved_of_lem}
use Rattle.calls.specs.Search.{NoneBelow, Moved, Searched}

module _ (s : List ℕ) (b : Bytes s) (n : ℕ) (h : IsState s n) where
  -- whether stream i can move, by the code
  pub can_is : (i : ℕ) → i < n → can_raw n i (decode n s) ≡ can_move i (state_in s)
  can_is i l = ap₂ (λ (m : ℕ) (st : Raws). can_raw m i st) (streams s b n h) (raws s b n h) ∙ can_of (length s) (state_in s) (sound s b n h) i (rw (sym (streams s b n h)) l)

  -- the bytes after a move
  module _ (i : ℕ) (l : i < n) (can : can_move i (state_in s) ≡ true) where
    moves : T (can_move i (state_in s))
    moves = rw can tt

    there : i < length (state_in s)
    there = rw (sym (streams s b n h)) l

    pub next_sound : Sound (capacity (length s)) (move i (state_in s))
    next_sound = move_sound (state_in s) (sound s b n h) i there moves

    pub next_length : n ≡ length (move i (state_in s))
    next_length = (streams s b n h) ∙ sym (move_length i (state_in s) there)
      where
        move_length : (j : ℕ) (N : State) → j < length N → length (move j N) ≡ length N
        move_length j N k = unfold move in raise_size j (new_bound (ahead j N) (cell_at N j).held) (comes_in j N) N k

    pub moved_bytes : encode n (moved_raw n i (decode n s)) ≡ bytes_of (length s) (move i (state_in s))
    unfolding bytes_of
    moved_bytes =
        ap (encode n) (ap₂ (λ (m : ℕ) (st : Raws). moved_raw m i st) (streams s b n h) (raws s b n h) ∙ moved_of_lem (length s) (state_in s) (sound s b n h) i there moves)
        ∙ ap (λ (m : ℕ). encode m (raws_of (length s) (move i (state_in s)))) next_length

  -- ---- the lowest

  pub lowest_is : (i : ℕ) → i < n → NoneBelow i s → can_move i (state_in s) ≡ true → lowest (state_in s) ≡ i
  unfolding lowest
  lowest_is i l before can =
      let k = rw (streams s b n h) at l in
      least_is (λ j. can_move j (state_in s)) 0 (length (state_in s)) i (omega arith) (omega arith) (λ j z m. rw (before j m) tt) (inr (rw can tt))

  pub lowest_none : NoneBelow n s → ltb (lowest (state_in s)) n ≡ false
  unfolding lowest
  lowest_none before =
      let e : least (λ j. can_move j (state_in s)) 0 (length (state_in s)) ≡ length (state_in s) =
      least_is (λ j. can_move j (state_in s)) 0 (length (state_in s)) (length (state_in s)) (omega arith) (omega arith) (λ j z m. rw (before j (rw (streams s b n h) m)) tt) (inl (omega arith)) in
      rw e (le-ltb (length (state_in s)) n (omega (arith, (streams s b n h))))

  -- ---- one turn: x is the buffer now, s' what the code's move left of it

  module _ (x s' : List ℕ) (q : x ≡ s) (r : Bool) (i : ℕ) (l : i < n) (er : r ≡ can_raw n i (decode n x)) (es : s' ≡ cond (can_raw n i (decode n x)) (encode n (moved_raw n i (decode n x))) x) where
    r_is : r ≡ can_move i (state_in s)
    r_is = er ∙ ap (λ (y : List ℕ). can_raw n i (decode n y)) q ∙ can_is i l

    left_is : s' ≡ cond (can_move i (state_in s)) (encode n (moved_raw n i (decode n s))) s
    left_is = es ∙ ap (λ (y : List ℕ). cond (can_raw n i (decode n y)) (encode n (moved_raw n i (decode n y))) y) q ∙ ap (λ (p : Bool). cond p (encode n (moved_raw n i (decode n s))) s) (can_is i l)

    pub turn_stays : r ≡ false → (s' ≡ s) × (can_move i (state_in s) ≡ false)
    turn_stays e =
        let c : can_move i (state_in s) ≡ false = sym r_is ∙ e in
        (left_is ∙ rw c, c)

    module _ (e : r ≡ true) (before : NoneBelow i s) where
      can : can_move i (state_in s) ≡ true
      can = sym r_is ∙ e

      moved_is : s' ≡ bytes_of (length s) (move i (state_in s))
      moved_is = left_is ∙ ap (λ (p : Bool). cond p (encode n (moved_raw n i (decode n s))) s) can ∙ moved_bytes i l can

      pub turn_moved : Moved i s s'
      turn_moved = (lowest_is i l before can, moved_is)

      pub turn_length : length s' ≡ length s
      turn_length = ap length moved_is ∙ bytes_length (length s) (move i (state_in s)) (next_sound i l can)

  -- ---- the run that is left

  -- one move is made, or none can be
  pub run_step : (k m i : ℕ) → k ≡ suc m → i < n → lowest (state_in s) ≡ i → run k (state_in s) ≡ one_more (arrivals i (comes_in i (state_in s))) (run m (move i (state_in s)))
  run_step k m i e l q =
      let z : ltb (lowest (state_in s)) (length (state_in s)) ≡ true = rw (q, sym (streams s b n h)) (lt-ltb i n l) in
      ap (λ (j : ℕ). run j (state_in s)) e ∙ run_more m (state_in s) z ∙ ap (λ (j : ℕ). one_more (arrivals j (comes_in j (state_in s))) (run m (move j (state_in s)))) q

  pub run_stop : (k : ℕ) → NoneBelow n s → run k (state_in s) ≡ done [] (state_in s)
  run_stop zero q = unfold run in refl
  run_stop (suc k) q = run_ends k (state_in s) (ap (ltb (lowest (state_in s))) (sym (streams s b n h)) ∙ lowest_none q)

pub run_zero : (k : ℕ) (M : State) → k ≡ 0 → run k M ≡ done [] M
run_zero zero M e = unfold run in refl
run_zero (suc k) M e = absurd (omega arith)

-- ---- what a search answers

pub none_found : (to i : ℕ) (s s' : List ℕ) → Searched to i s s' → to ≤ i → (s' ≡ s) × NoneBelow to s
none_found to i s s' (inl h) l = let k = h.0 in absurd (omega arith)
none_found to i s s' (inr h) l = h.1

pub one_found : (to i : ℕ) (s s' : List ℕ) → Searched to i s s' → (i ≡ to → ⊥) → (i < to) × Moved i s s'
one_found to i s s' (inl h) l = h
one_found to i s s' (inr h) l = absurd (l h.0)

-- ---- a turn of the loop of a run

-- what the moves made and the run that is left are together
abbrev pub Left : (most made : ℕ) → (s₀ s : List ℕ) → Type 0
Left most made s₀ s = ((run most (state_in s₀)).moves ≡ made + (run (most - made) (state_in s)).moves) × ((run most (state_in s₀)).state ≡ (run (most - made) (state_in s)).state)

module _ (most made n : ℕ) (s₀ s s' : List ℕ) (b : Bytes s) (h : IsState s n) (inv : Left most made s₀ s) where
  -- no equation can move
  pub run_ended : (s' ≡ s) × NoneBelow n s → length s ≡ length s₀ → (made ≡ (run most (state_in s₀)).moves) × (s' ≡ bytes_of (length s₀) (run most (state_in s₀)).state)
  run_ended q z =
      let o = run_stop s b n h (most - made) q.1 in
      let m : (run (most - made) (state_in s)).moves ≡ 0 = ap (λ (x : Outcome). x.moves) o in
      let k = inv.0 in (
        omega arith,
        q.0 ∙ stays s b n h ∙ ap₂ bytes_of z (sym (inv.1 ∙ ap (λ (x : Outcome). x.state) o)),
      )

  -- stream i has moved
  module _ (l : made < most) (i : ℕ) (below : i < n) (m : Moved i s s') where
    in_state : i < length (state_in s)
    in_state = rw (sym (streams s b n h)) below

    could : can_move i (state_in s) ≡ true
    could = true_is (can_move i (state_in s)) (rw m.0 at (lowest_can (state_in s) (rw m.0 in_state)))

    ok : Sound (capacity (length s)) (move i (state_in s))
    ok = next_sound s b n h i below could

    now_in : state_in s' ≡ move i (state_in s)
    now_in = bytes_in (length s) (move i (state_in s)) s' ok m.1

    pub next_is_state : IsState s' n
    next_is_state = bytes_are (length s) (move i (state_in s)) s' n ok (next_length s b n h i below could) m.1

    -- the next search begins where this move can have changed something
    pub next_still : Still i (state_in s')
    next_still = rw now_in (rw m.0 at (move_still (state_in s) (rw m.0 in_state)))

    pub next_left : Left most (made + 1) s₀ s'
    next_left =
        let e : most - made ≡ suc (most - (made + 1)) = omega arith in
        let o = run_step s b n h (most - made) (most - (made + 1)) i e below m.0 in
        let p : (run (most - made) (state_in s)).moves ≡ suc (run (most - (made + 1)) (move i (state_in s))).moves = ap (λ (x : Outcome). x.moves) o in
        let k = inv.0 in
        (rw now_in (omega arith), rw now_in (inv.1 ∙ ap (λ (x : Outcome). x.state) o))

    pub next_length_is : length s' ≡ length s
    next_length_is = ap length m.1 ∙ bytes_length (length s) (move i (state_in s)) ok

-- the moves asked for are made
pub run_done : (most made n : ℕ) (s₀ s : List ℕ) → Bytes s → IsState s n → Left most made s₀ s → most ≤ made → made ≤ most → length s ≡ length s₀ → (made ≡ (run most (state_in s₀)).moves) × (s ≡ bytes_of (length s₀) (run most (state_in s₀)).state)
run_done most made n s₀ s b h inv l g z =
    let o = run_zero (most - made) (state_in s) (omega arith) in
    let m : (run (most - made) (state_in s)).moves ≡ 0 = ap (λ (x : Outcome). x.moves) o in
    let k = inv.0 in
    (omega arith, stays s b n h ∙ ap₂ bytes_of z (sym (inv.1 ∙ ap (λ (x : Outcome). x.state) o)))

pub left_start : (most : ℕ) (s : List ℕ) → Left most 0 s s
left_start most s =
    let e : most - 0 ≡ most = omega arith in
    rw e (omega arith, refl)
