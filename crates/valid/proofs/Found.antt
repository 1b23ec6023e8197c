-- What the test of number 15 finds, by the first of its parts that fails. Counted are n streams of m at most.
use Prim.Native.Nat.{ℕ}
use mathlib.Core.Path.{◌≡◌, sym, ap, ap₂, ◌∙◌}
use mathlib.Core.Bool.{Bool, true, false, ◌&&◌}
use mathlib.Core.List.{List}
use Rattle.std.specs.Prelude.{None, Some}
use borrow.Author.Tests.{lt-ltb, le-ltb}
use native.Mathlib.Omega.{arith}
use lib.Dec.{ltb}
use lib.ListN.{length}
use Rattle.meaning.specs.CycleTest.{acyclic}
use Rattle.operators.specs.Limits.{capacity}
use Rattle.valid.specs.Valid.{row_ok, all_rows, streams_in, count, tail_ok, plan_in, clear_in, valid, tested}
use Rattle.valid.proofs.Link.{clear_count}

both : {x y : Bool} → x ≡ true → y ≡ true → (x && y) ≡ true
both a b = rw (a, b)

not_first : {x : Bool} (y : Bool) → x ≡ false → (x && y) ≡ false
not_first y a = rw a

later : {x y : Bool} → x ≡ true → y ≡ false → (x && y) ≡ false
later a b = rw (a, b)

module _ (s : List ℕ) where
  is_state : valid s ≡ true → tested s ≡ Some (count s)
  unfolding tested
  is_state e = rw e

  no_state : valid s ≡ false → tested s ≡ None
  unfolding tested
  no_state e = rw e

  module _ (m n : ℕ) (room : m ≡ capacity (length s)) (some : m ≡ 0 → ⊥) (counted : n ≡ streams_in m s) where
    counts : n ≡ count s
    counts = counted ∙ ap (λ (x : ℕ). streams_in x s) room

    has : ltb 0 (capacity (length s)) ≡ true
    has = lt-ltb 0 (capacity (length s)) (omega (arith, room, some))

    rows_are : {x : Bool} → all_rows (row_ok n) n s ≡ x → all_rows (row_ok (count s)) (count s) s ≡ x
    rows_are r = sym (ap (λ (x : ℕ). all_rows (row_ok x) x s) counts) ∙ r

    tail_is : {x : Bool} → tail_ok n s ≡ x → tail_ok (count s) s ≡ x
    tail_is z = sym (ap (λ (x : ℕ). tail_ok x s) counts) ∙ z

    clear_is : {x : Bool} → all_rows (row_ok n) n s ≡ true → clear_in m n s ≡ x → acyclic (capacity (length s)) (plan_in (count s) s) ≡ x
    clear_is r c = sym (ap₂ (λ (x y : ℕ). clear_in x y s) room counts ∙ clear_count s (rows_are r)) ∙ c

    pub a_state : all_rows (row_ok n) n s ≡ true → tail_ok n s ≡ true → clear_in m n s ≡ true → tested s ≡ Some n
    unfolding valid
    a_state r z c = is_state (both has (both (rows_are r) (both (tail_is z) (clear_is r c)))) ∙ ap Some (sym counts)

    pub bad_row : all_rows (row_ok n) n s ≡ false → tested s ≡ None
    unfolding valid
    bad_row r = no_state (later has (not_first _ (rows_are r)))

    pub bad_tail : all_rows (row_ok n) n s ≡ true → tail_ok n s ≡ false → tested s ≡ None
    unfolding valid
    bad_tail r z = no_state (later has (later (rows_are r) (not_first _ (tail_is z))))

    pub bad_cycle : all_rows (row_ok n) n s ≡ true → tail_ok n s ≡ true → clear_in m n s ≡ false → tested s ≡ None
    unfolding valid
    bad_cycle r z c = no_state (later has (later (rows_are r) (later (tail_is z) (clear_is r c))))

  pub no_length : capacity (length s) ≡ 0 → tested s ≡ None
  unfolding valid
  no_length e = no_state (not_first _ (le-ltb 0 (capacity (length s)) (omega arith)))
