-- A move's counts stay sound: four bytes are enough, since each stops at its limit, and who never lacks a value stays at 0.
use Prim.Native.Nat.{ℕ, suc, ◌<◌}
use mathlib.Core.Path.{◌≡◌, refl}
use mathlib.Core.Bool.{Bool, true, false, ◌&&◌}
use mathlib.Core.List.{List}
use native.Mathlib.Omega.{arith}
use lib.Dec.{leb}
use lib.IntN.{ℤ}
use Rattle.meaning.specs.Plan.{Eqn, input, nil, unit, one, two, last, delay, signal, window}
use Rattle.meaning.specs.Table.{width}
use Rattle.meaning.specs.Missing.{Reason, Outside, ZeroDivisor, said_for, can_lack}
use Rattle.meaning.proofs.Missing.{one_lacks, two_lacks, signal_lacks, window_lacks, tally_zero}
use Rattle.machine.specs.State.{Passed, Cell, count_of, with_window, with_counts}
use Rattle.machine.specs.Reach.{view, held_latest, slid}
use Rattle.machine.specs.Step.{hears, counted, counts, pass}
use Rattle.encoding.specs.Sound.{IsCount}

-- ---- a count by its reason

counts_of : (q : Reason) (n : Reason → ℕ) (w : Passed) → count_of q (with_counts n w) ≡ n q
counts_of Outside n w = refl
counts_of ZeroDivisor n w = refl

window_counts : (q : Reason) (xs : List ℤ) (w : Passed) → count_of q (with_window xs w) ≡ count_of q w
window_counts Outside xs w = refl
window_counts ZeroDivisor xs w = refl

-- ---- a count that follows the bound from x to y

and_false : (p b : Bool) → b ≡ false → (p && b) ≡ false
and_false true b e = e
and_false false b e = refl

counted_sound : (b : Bool) (n : ℕ) (f : ℕ → Bool) (x y : ℕ) → x < y → (b ≡ false → (t : ℕ) → f t ≡ false) → IsCount b x n → IsCount b y (counted n f x y)
counted_sound true n f x y l h ok = (omega arith, λ z. absurd (omega arith))
counted_sound false n f x y l h ok = rw (ok, tally_zero (λ t. leb x t && f t) y (λ p k. and_false (leb x p) (f p) (h refl p)))

hears_lacks : (e : Eqn) (o a b : Cell) (q : Reason) → can_lack e ≡ false → (t : ℕ) → said_for q (hears e o a b t) ≡ false
hears_lacks input o a b q h t = refl
hears_lacks nil o a b q h t = refl
hears_lacks unit o a b q h t = refl
hears_lacks (one f _) o a b q h t = one_lacks f h q t (view a t)
hears_lacks (two g _ _) o a b q h t = two_lacks g h q (view a t) (view b t)
hears_lacks (last _ _) o a b q h t = refl
hears_lacks (delay _ _) o a b q h t = refl
hears_lacks (signal c _ _) o a b q h t = signal_lacks c h q (view a t) (view b t) (held_latest a (suc t) o.kept.prev) (held_latest b (suc t) o.kept.prev_b)
hears_lacks (window f k _) o a b q h t = window_lacks f h q (view a t) (slid (width k) o.bound (suc t) o.passed.window (view a))

module _ (y : ℕ) (o a b : Cell) (l : o.bound < y) (q : Reason) where
  counts_sound : (e : Eqn) → IsCount (can_lack e) o.bound (count_of q o.passed) → IsCount (can_lack e) y (count_of q (counts e y o a b))
  counts_sound e ok =
      rw (counts_of q (λ r. counted (count_of r o.passed) (λ t. said_for r (hears e o a b t)) o.bound y) o.passed)
      (counted_sound (can_lack e) (count_of q o.passed) (λ t. said_for q (hears e o a b t)) o.bound y l (hears_lacks e o a b q) ok)

  pub pass_counts : (e : Eqn) → IsCount (can_lack e) o.bound (count_of q o.passed) → IsCount (can_lack e) y (count_of q (pass e y o a b))
  pass_counts input ok = ok
  pass_counts nil ok = ok
  pass_counts unit ok = ok
  pass_counts (one f c) ok = counts_sound (one f c) ok
  pass_counts (two g c d) ok = counts_sound (two g c d) ok
  pass_counts (last _ _) ok = ok
  pass_counts (delay _ _) ok = ok
  pass_counts (signal g c d) ok = counts_sound (signal g c d) ok
  pass_counts (window f k c) ok =
      rw (window_counts q (slid (width k) o.bound y o.passed.window (view a)) (counts (window f k c) y o a b)) (counts_sound (window f k c) ok)
