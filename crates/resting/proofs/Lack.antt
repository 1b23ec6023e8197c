-- A move raises a bound and a collection a mark, none falls, and none passes the horizon: what they lack falls with each.
use Prim.Native.Nat.{ℕ, zero, suc, ◌+◌, ◌<◌, ◌≤◌}
use mathlib.Core.Path.{◌≡◌, refl, ap, ◌∙◌}
use mathlib.Core.Bool.{Bool, true, false, not}
use Rattle.std.specs.Prelude.{Option, None, Some}
use native.Mathlib.Omega.{arith}
use native.Mathlib.Decide.{dec_lt, ℕ_discrete}
use lib.Dec.{T, ltb}
use lib.ListN.{length, set, length-set}
use borrow.Author.Tests.{ltb-true}
use Rattle.meaning.specs.Events.{Event, horizon}
use Rattle.machine.specs.State.{State, cell_at, with_next}
use Rattle.machine.specs.Step.{comes_in, raise, move, release}
use Rattle.machine.specs.Calls.{unless, oldest, hand_out, collect, lowest, run}
use Rattle.machine.proofs.Cells.{beyond}
use Rattle.machine.proofs.Frame.{raise_size, raise_next, raise_bound, output_there}
use Rattle.machine.proofs.Moves.{goal, goal_ge, can_up, lowest_can, oldest_ge}
use Rattle.machine.proofs.Outcomes.{run_more, run_ends, unless_cases}
use Rattle.encoding.specs.Sound.{IsNext, Sound}
use Rattle.preserve.proofs.Calls.{move_sound, collect_sound}
use Rattle.runs.proofs.Move.{move_raise}
use Rattle.runs.proofs.Marks.{collected_cell, collected_next}
use Rattle.resting.specs.Left.{sum, share, lack}

-- ## Sums

-- each of the n streams counts
pub sum_ones : (n : ℕ) → sum (λ i. 1) n ≡ n
unfolding sum
sum_ones zero = refl
sum_ones (suc n) = let e = sum_ones n in omega arith

sum_le : (f g : ℕ → ℕ) → ((i : ℕ) → f i ≤ g i) → (n : ℕ) → sum f n ≤ sum g n
unfolding sum
sum_le f g h zero = omega arith
sum_le f g h (suc n) = omega (arith, h n, sum_le f g h n)

sum_lt : (f g : ℕ → ℕ) → ((i : ℕ) → f i ≤ g i) → (s : ℕ) → f s < g s → (n : ℕ) → s < n → sum f n < sum g n
unfolding sum
sum_lt f g h s k zero l = absurd (omega arith)
sum_lt f g h s k (suc n) l = go (ℕ_discrete s n) (λ q. sum_lt f g h s k n q)
  where
    go : Dec (s ≡ n) → (s < n → sum f n < sum g n) → f n + sum f n < g n + sum g n
    go (yes e) rec = let k' : f n < g n = rw e at k in omega (arith, k', sum_le f g h n)
    go (no e) rec =
        let l' : s < n = omega (arith, e) in
        omega (arith, h n, rec l')

-- ## Nothing passes the horizon

next_top : (out : Bool) (next bound : ℕ) → IsNext out next bound → bound ≤ horizon → next ≤ horizon
next_top true next bound h k = omega arith
next_top false next bound h k = omega arith

module _ {cap : ℕ} (M : State) (ok : Sound cap M) where
  top : (i : ℕ) → ((cell_at M i).bound ≤ horizon) × ((cell_at M i).next ≤ horizon)
  top i = go (dec_lt i (length M))
    where
      go : Dec (i < length M) → ((cell_at M i).bound ≤ horizon) × ((cell_at M i).next ≤ horizon)
      go (yes l) = let c = ok.each i l in (c.bound, next_top (cell_at M i).out (cell_at M i).next (cell_at M i).bound c.next c.bound)
      go (no l) = rw (beyond M i (omega arith)) (omega arith, omega arith)

-- one stream gets on, and none falls back
nearer : {cap : ℕ} (M N : State) → Sound cap N → length N ≡ length M → ((i : ℕ) → (cell_at M i).bound ≤ (cell_at N i).bound) → ((i : ℕ) → (cell_at M i).next ≤ (cell_at N i).next) → (s : ℕ) → s < length M
    → (cell_at M s).bound + (cell_at M s).next < (cell_at N s).bound + (cell_at N s).next → lack N < lack M
nearer M N ok e b n s l h =
    rw e (sum_lt (share N) (share M) (λ i. omega (arith, b i, n i)) s
    (let t = top N ok s in omega (arith, b s, n s, t.0, t.1)) (length M) l)

-- ## Moves

module _ {cap : ℕ} (M : State) (ok : Sound cap M) (l : lowest M < length M) where
  s : ℕ
  s = lowest M

  pub next_sound : Sound cap (move (lowest M) M)
  next_sound = move_sound M ok (lowest M) l (lowest_can M l)

  is : move (lowest M) M ≡ raise (lowest M) (goal (lowest M) M) (comes_in (lowest M) M) M
  is = move_raise (lowest M) M

  pub move_lack : lack (move (lowest M) M) < lack M
  move_lack =
      let i = lowest M in let y = goal i M in let new = comes_in i M in
      nearer M (move i M) next_sound (ap length is ∙ raise_size i y new M l)
      (λ j. rw is (raise_bound i y new M l (λ j b. (cell_at M j).bound ≤ b) (λ j n. omega arith) (goal_ge i M) j))
      (λ j. let e = raise_next i y new M l j in rw is (omega arith))
      i l
      (let e = raise_next i y new M l i in
      let u : (cell_at M i).bound < (cell_at (raise i y new M) i).bound = raise_bound i y new M l (λ j b. j ≡ i → (cell_at M j).bound < b) (λ j n e. absurd (n e)) (λ e. can_up i M (lowest_can M l)) i refl in
      rw is (omega arith))

-- each move of a run counts
pub run_lack : {cap : ℕ} (n : ℕ) (M : State) → Sound cap M → lack (run n M).state + (run n M).moves ≤ lack M
run_lack zero M ok = unfold run in omega arith
run_lack {cap} (suc n) M ok = go (ltb (lowest M) (length M)) refl (λ h. run_lack n (move (lowest M) M) h)
  where
    go : (b : Bool) → ltb (lowest M) (length M) ≡ b → (Sound cap (move (lowest M) M) → lack (run n (move (lowest M) M)).state + (run n (move (lowest M) M)).moves ≤ lack (move (lowest M) M))
        → lack (run (suc n) M).state + (run (suc n) M).moves ≤ lack M
    go true e rec =
        let l = ltb-true (lowest M) (length M) e in
        let h = rec (next_sound M ok l) in
        rw (run_more n M e) (omega (arith, h, move_lack M ok l))
    go false e rec = rw (run_ends n M e) (omega arith)

-- ## Collections

release_size : (i : ℕ) (M : State) → length (release i M) ≡ length M
unfolding release
release_size i M = length-set M i _

module _ {cap : ℕ} (i : ℕ) (M : State) (ok : Sound cap M) where
  marked_lack : (e : Event) → oldest (cell_at M i).next (cell_at M i).held ≡ Some e → i < length M → Sound cap (release i (set M i (with_next (suc e.stamp) (cell_at M i))))
      → lack (release i (set M i (with_next (suc e.stamp) (cell_at M i)))) < lack M
  marked_lack e q l fine =
      let g = oldest_ge (cell_at M i).next (cell_at M i).held e q in
      let n = suc e.stamp in
      let up : (cell_at M i).next ≤ n = omega arith in
      let N = release i (set M i (with_next n (cell_at M i))) in
      let more : (cell_at M i).next < (cell_at N i).next = collected_next M i n l up (λ j x. j ≡ i → (cell_at M j).next < x) (λ j d e. absurd (d e)) (λ z. omega arith) i refl in
      let same : (cell_at N i).bound ≡ (cell_at M i).bound = ap (λ c. c.bound) (collected_cell M i n l up i) in
      nearer M N fine (release_size i (set M i (with_next n (cell_at M i))) ∙ length-set M i (with_next n (cell_at M i)))
      (λ j. let b = ap (λ c. c.bound) (collected_cell M i n l up j) in omega arith)
      (λ j. collected_next M i n l up (λ j x. (cell_at M j).next ≤ x) (λ j d. omega arith) up j)
      i l (omega arith)

  twice : (p : Bool) → T (not (not p)) → T p
  twice true t = tt
  twice false t = t

  pub collect_lack : (collect i M).number ≡ 0 → lack (collect i M).state < lack M
  collect_lack e = unfold collect in by e (unfold collect in collect_sound i M ok)
    where
      go : (x : Option Event) → oldest (cell_at M i).next (cell_at M i).held ≡ x → i < length M → (hand_out x i M).number ≡ 0 → Sound cap (hand_out x i M).state → lack (hand_out x i M).state < lack M
      go None q l e f = absurd (omega arith)
      go (Some x) q l e f = marked_lack x q l f

      by : (unless (not (cell_at M i).out) 13 M (hand_out (oldest (cell_at M i).next (cell_at M i).held) i M)).number ≡ 0 → Sound cap (unless (not (cell_at M i).out) 13 M (hand_out (oldest (cell_at M i).next (cell_at M i).held) i M)).state
          → lack (unless (not (cell_at M i).out) 13 M (hand_out (oldest (cell_at M i).next (cell_at M i).held) i M)).state < lack M
      by =
          unless_cases (λ o. o.number ≡ 0 → Sound cap o.state → lack o.state < lack M) (not (cell_at M i).out) 13 M (hand_out (oldest (cell_at M i).next (cell_at M i).held) i M)
          (λ x e f. absurd (omega arith))
          (λ x. go (oldest (cell_at M i).next (cell_at M i).held) refl (output_there M i (twice (cell_at M i).out x)))
