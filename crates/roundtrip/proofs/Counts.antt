-- The counts of missing events in a record: two numbers in one word. Where the word passes they are sound, and where they are sound it passes.
use Prim.Native.Nat.{ℕ, zero, suc, ◌+◌, ◌*◌, ◌/◌, ◌%◌, ◌^◌, ◌<◌}
use mathlib.Core.Path.{◌≡◌, refl}
use mathlib.Core.Bool.{Bool, true, false, cond}
use mathlib.Core.List.{List}
use native.Mathlib.Omega.{arith}
use lib.Dec.{eqb}
use lib.IntN.{ℤ}
use borrow.Author.Tests.{eqb-true, eq-eqb, ne_eqb}
use Rattle.meaning.specs.Missing.{Reason, Outside, ZeroDivisor, can_lack}
use Rattle.machine.specs.State.{Cell, count_of, with_window}
use Rattle.operators.specs.Operators.{lacks_at}
use Rattle.operators.proofs.Laws.{lacks_of}
use Rattle.layout.specs.Record.{Raw, num, op_f, bound_f, counts_f}
use Rattle.encoding.specs.View.{counts_word, of_cell}
use Rattle.encoding.specs.Back.{counts_in}
use Rattle.encoding.specs.Sound.{IsCount, SoundCell}
use Rattle.valid.specs.Valid.{none_if, counts_ok}

-- ---- nothing where there is nothing to keep it for

pub none_passes : (y x : ℕ) → (y ≡ 0 → x ≡ 0) → none_if y x ≡ true
none_passes zero x h = rw (h refl)
none_passes (suc y) x h = rw (ne_eqb (suc y) 0 (λ e. omega arith))

pub none_is : (y x : ℕ) → none_if y x ≡ true → y ≡ 0 → x ≡ 0
none_is y x e z = eqb-true x 0 (rw (eq-eqb y 0 z) at e)

-- ---- from a record to a cell

pub counts_word_lem : (r : Raw) → counts_word (counts_in r) ≡ num counts_f r
counts_word_lem r = omega arith

module _ (r : Raw) (small : num counts_f r < 2 ^ 64) (ok : counts_ok r ≡ true) where
  -- one of the two
  half_sound : (b : Bool) → lacks_at (num op_f r) ≡ b → (m : ℕ) → m < 2 ^ 32 → (num counts_f r ≡ 0 → m ≡ 0) → IsCount b (num bound_f r) m
  unfolding counts_ok
  half_sound true e m l h = (l, λ z. h (none_is (num bound_f r) (num counts_f r) (rw e at ok) z))
  half_sound false e m l h = h (eqb-true (num counts_f r) 0 (rw e at ok))

  pub counts_sound : (xs : List ℤ) (q : Reason) → IsCount (lacks_at (num op_f r)) (num bound_f r) (count_of q (with_window xs (counts_in r)))
  counts_sound xs Outside = half_sound (lacks_at (num op_f r)) refl (num counts_f r % 2 ^ 32) (omega arith) (λ e. omega arith)
  counts_sound xs ZeroDivisor = half_sound (lacks_at (num op_f r)) refl (num counts_f r / 2 ^ 32) (omega arith) (λ e. omega arith)

-- ---- from a cell to a record

count_small : (b : Bool) (y m : ℕ) → IsCount b y m → m < 2 ^ 32
count_small true y m h = h.0
count_small false y m h = omega arith

module _ (n : ℕ) (c : Cell) (ok : SoundCell n c) where
  pub counts_pass : counts_ok (of_cell c) ≡ true
  unfolding counts_ok of_cell
  counts_pass = rw (lacks_of c.eqn) (go (can_lack c.eqn) c.passed.outside c.passed.divisors (ok.counts Outside) (ok.counts ZeroDivisor))
    where
      go : (b : Bool) (m k : ℕ) → IsCount b c.bound m → IsCount b c.bound k → cond b (none_if c.bound (m + k * 2 ^ 32)) (eqb (m + k * 2 ^ 32) 0) ≡ true
      go true m k h l = none_passes c.bound (m + k * 2 ^ 32) (λ z. let u = h.1 z in let v = l.1 z in omega arith)
      go false m k h l = eq-eqb (m + k * 2 ^ 32) 0 (omega arith)

  -- with its window the cell's, what the record gives is what the cell keeps
  pub passed_back : (xs : List ℤ) → xs ≡ c.passed.window → with_window xs (counts_in (of_cell c)) ≡ c.passed
  unfolding of_cell
  passed_back xs e =
      let m = c.passed.outside in
      let k = c.passed.divisors in
      let l = count_small (can_lack c.eqn) c.bound m (ok.counts Outside) in
      let lower : (m + k * 2 ^ 32) % 2 ^ 32 ≡ m = omega arith in
      let upper : (m + k * 2 ^ 32) / 2 ^ 32 ≡ k = omega arith in
      λ i. record { window = e i; outside = lower i; divisors = upper i }
