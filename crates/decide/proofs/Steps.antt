-- The turns of a search: the candidate of an event, the better of two, and when the reach ends.
use Prim.Native.Nat.{ℕ, suc, ◌+◌, ◌<◌, ◌≤◌, min}
use mathlib.Core.Path.{◌≡◌, refl, sym, ap, ◌∙◌}
use mathlib.Core.Bool.{Bool, true, false, cond, ◌&&◌}
use mathlib.Core.List.{List, [], ◌∷◌, map}
use native.Mathlib.Omega.{arith}
use native.Mathlib.Decide.{dec_lt}
use lib.Dec.{leb, ltb}
use lib.ListN.{length, get_or}
use borrow.Author.Tests.{lt-ltb, le-ltb, le-leb, lt-leb}
use Rattle.meaning.specs.Plan.{Eqn, last, delay}
use Rattle.meaning.specs.Events.{has}
use Rattle.machine.specs.State.{Cell}
use Rattle.machine.specs.Reach as machine
use Rattle.layout.specs.Record.{Slot, no_slot}
use Rattle.queue.proofs.Turns.{left, left_none, left_more}
use Rattle.decide.specs.Search.{pick, stamps, due_at, test, candidate_of, nearer, search}
use Rattle.decide.proofs.Sparse.{pick_le}

-- ---- the candidate of a held event

module _ (o a : Cell) (x y : ℕ) (g : Bool) (s : ℕ) where
  pub candidate_give : g ≡ true → due_at o a (s + 1) ≡ candidate_of g (delay x y) o a s
  candidate_give h = let w : s + 1 ≡ suc s = omega arith in rw (h, w)

  pub candidate_stop : g ≡ false → s + 1 ≡ candidate_of g (delay x y) o a s
  candidate_stop h = let w : s + 1 ≡ suc s = omega arith in rw (h, w)

-- ---- the better of a candidate and the best so far

module _ (lo c best : ℕ) (f : Bool) where
  pub near_low : c < lo → best ≡ cond (leb lo c && ltb c best && f) c best
  near_low h = rw (lt-leb lo c h)

  pub near_high : lo ≤ c → best ≤ c → best ≡ cond (leb lo c && ltb c best && f) c best
  near_high h k = rw (le-leb lo c h, le-ltb c best k)

  pub near_yes : lo ≤ c → c < best → f ≡ true → c ≡ cond (leb lo c && ltb c best && f) c best
  near_yes h k q = rw (le-leb lo c h, lt-ltb c best k, q)

  pub near_no : lo ≤ c → c < best → f ≡ false → best ≡ cond (leb lo c && ltb c best && f) c best
  near_no h k q = rw (le-leb lo c h, lt-ltb c best k, q)

pub near_le : (g : Bool) (e : Eqn) (o a b : Cell) (c best r : ℕ) → r ≡ nearer g e o a b c best → r ≤ best
unfolding pick
near_le g e o a b c best r q = rw q (pick_le (test g e o a b) o.bound best (c ∷ []))

-- ---- the candidates in any order

module _ (f : ℕ → Bool) (lo : ℕ) where
  abbrev near : ℕ → ℕ → ℕ
  near c m = cond (leb lo c && ltb c m && f c) c m

  near_min : (c m : ℕ) → near c m ≡ cond (leb lo c && f c) (min c m) m
  near_min c m = go (leb lo c) (f c) (dec_lt c m)
    where
      go : (p q : Bool) → Dec (c < m) → cond (p && ltb c m && q) c m ≡ cond (p && q) (min c m) m
      go false q d = refl
      go true true (yes l) = rw (lt-ltb c m l) (omega arith)
      go true true (no l) = let k : m ≤ c = omega arith in rw (le-ltb c m k) (omega arith)
      go true false (yes l) = rw (lt-ltb c m l)
      go true false (no l) = let k : m ≤ c = omega arith in rw (le-ltb c m k)

  near_swap : (c d m : ℕ) → near d (near c m) ≡ near c (near d m)
  near_swap c d m =
      near_min d (near c m) ∙ ap (λ (x : ℕ). cond (leb lo d && f d) (min d x) x) (near_min c m)
      ∙ go (leb lo c && f c) (leb lo d && f d)
      ∙ sym (near_min c (near d m) ∙ ap (λ (x : ℕ). cond (leb lo c && f c) (min c x) x) (near_min d m))
    where
      go : (p q : Bool) → cond q (min d (cond p (min c m) m)) (cond p (min c m) m) ≡ cond p (min c (cond q (min d m) m)) (cond q (min d m) m)
      go true true = omega arith
      go true false = refl
      go false true = refl
      go false false = refl

  -- the first candidate may as well be looked at before the others
  pick_first : (c m : ℕ) (cs : List ℕ) → pick f lo (near c m) cs ≡ pick f lo m (c ∷ cs)
  unfolding pick
  pick_first c m [] = refl
  pick_first c m (d ∷ cs) = ap (near d) (pick_first c m cs) ∙ near_swap c d (pick f lo m cs)

-- ---- the loop over the slots of a record, from the first on

module _ (g : Bool) (e : Eqn) (o a b : Cell) where
  pub scan_end : (l : List Slot) (i n best : ℕ) → n ≤ i → search g e o a b best (left l i n) ≡ best
  unfolding pick
  scan_end l i n best h = ap (search g e o a b best) (left_none l i n h)

  pub scan_turn : (l : List Slot) (i n x c best : ℕ) → i < n → n ≤ length l → x ≡ (get_or l i no_slot).stamp → c ≡ candidate_of g e o a x
      → search g e o a b (nearer g e o a b c best) (left l (i + 1) n) ≡ search g e o a b best (left l i n)
  scan_turn l i n x c best h k w q =
      ap (λ (y : ℕ). search g e o a b (nearer g e o a b y best) (left l (i + 1) n)) (q ∙ ap (candidate_of g e o a) w)
      ∙ pick_first (test g e o a b) o.bound (candidate_of g e o a (get_or l i no_slot).stamp) best (map (candidate_of g e o a) (stamps (left l (i + 1) n)))
      ∙ sym (ap (search g e o a b best) (left_more l i n h k))

-- ---- the two tests

module _ (e : Eqn) (o a b : Cell) (t : ℕ) where
  pub test_give : (g : Bool) → g ≡ true → has (machine.gives e o a b t) ≡ test g e o a b t
  unfolding test
  test_give g q = ap (λ (h : Bool). test h e o a b t) (sym q)

  pub test_stop : (g : Bool) → g ≡ false → machine.stops e o a b t ≡ test g e o a b t
  unfolding test
  test_stop g q = ap (λ (h : Bool). test h e o a b t) (sym q)

module _ (o a b : Cell) (x y t : ℕ) where
  pub go_last : t ≤ a.bound → false ≡ machine.stops (last x y) o a b t
  go_last h = rw (le-ltb a.bound t h) (none_and (has (machine.view b t)))
    where
      none_and : (p : Bool) → false ≡ (p && false)
      none_and true = refl
      none_and false = refl

  pub stop_last : a.bound < t → has (machine.view b t) ≡ machine.stops (last x y) o a b t
  stop_last h = rw (lt-ltb a.bound t h) (and_true (has (machine.view b t)))
    where
      and_true : (p : Bool) → p ≡ (p && true)
      and_true true = refl
      and_true false = refl
