-- The operators by their stored numbers, and the fields of a record as a move looks at it.
use Prim.Native.Nat.{ℕ, zero, suc, ◌≤◌, ◌<◌, min}
use mathlib.Core.Path.{◌≡◌, refl, sym, ap, subst, ◌∙◌}
use mathlib.Core.Bool.{Bool, true, false, cond, false≢true}
use Rattle.std.specs.Prelude.{None, Some}
use native.Mathlib.Omega.{arith}
use lib.IntN.{ℤ}
use mir.Syntax.{w64}
use mir.Val.{to_z}
use borrow.Author.Tests.{eq-eqb, ne_eqb}
use Rattle.meaning.specs.Plan.{Calc, Eqn, input, nil, unit, one, two, last, delay, signal, window}
use Rattle.meaning.specs.Events.{horizon}
use Rattle.machine.specs.State.{Kept, Cell, no_kept, no_passed, with_since, with_passed}
use Rattle.operators.specs.Operators.{is_last, is_delay, is_signal, Operator, operator_count, eqn_of, eqn_group}
use Rattle.operators.specs.declared.Group.{Group}
use Rattle.operators.proofs.Laws.{none_above, last_by_number, delay_by_number, signal_by_number}
use Rattle.layout.specs.Record.{Raw, num, op_f, a_f, b_f, k_f, bound_f, kept_f}
use Rattle.encoding.specs.View.{of_cell}
use Rattle.encoding.specs.Back.{to_cell, last_of, delay_of, signal_of, kept_of, optional}
use Rattle.streams.specs.declared.Stream.{Stream}
use Rattle.streams.specs.Look.{look_of, cut, cut_kept, Bounded, Is}

-- ---- numbers that no operator has, and nil's own, stand for nil

module _ (a b : ℕ) (k : ℤ) where
  pub nil_low : (n : ℕ) → n < 4 → (n ≡ 1 → ⊥) → (n ≡ 3 → ⊥) → nil ≡ eqn_of n a b k
  unfolding eqn_of
  nil_low zero h p q = refl
  nil_low (suc zero) h p q = absurd (p refl)
  nil_low (suc (suc zero)) h p q = refl
  nil_low (suc (suc (suc zero))) h p q = absurd (q refl)
  nil_low (suc (suc (suc (suc n)))) h p q = absurd (omega arith)

  pub nil_high : (n : ℕ) → operator_count < n → nil ≡ eqn_of n a b k
  unfolding eqn_of
  nil_high n h = sym (ap (λ (o : Operator). o.eqn a b k) (none_above n h))

-- ---- the operators that keep something in their record's kept words

abbrev pub keeps : Eqn → Bool
keeps input = false
keeps nil = false
keeps unit = false
keeps (one f a) = false
keeps (two g a b) = false
keeps (last a b) = true
keeps (delay a b) = true
keeps (signal c a b) = true
keeps (window f k a) = false

-- ---- the fields

cut_same : (c : Cell) → c.bound ≤ horizon → c.kept.since ≤ c.bound → cut c ≡ c
cut_same c h k =
    let e : min c.bound horizon ≡ c.bound = omega arith in
    let s : min c.kept.since (min c.bound horizon) ≡ c.kept.since = omega arith in
    λ i. record { eqn = c.eqn; out = c.out; bound = e i; held = c.held; next = c.next; kept = record { prev = c.kept.prev; prev_b = c.kept.prev_b; since = s i; value = c.kept.value; prior = c.kept.prior }; passed = c.passed }

module _ (r : Raw) where
  pub look_bound : (look_of r).bound ≡ min (num bound_f r) horizon
  unfolding look_of to_cell
  look_bound = refl

  pub look_eqn : (look_of r).eqn ≡ eqn_of (num op_f r) (num a_f r) (num b_f r) (to_z w64 (num k_f r))
  unfolding look_of to_cell
  look_eqn = refl

  pub look_kept : (look_of r).kept ≡ cut_kept (look_of r).bound (kept_of r)
  unfolding look_of to_cell
  look_kept = refl

  pub since_bound : (look_of r).kept.since ≤ (look_of r).bound
  unfolding look_of to_cell
  since_bound = omega arith

  -- what the record keeps, by the group of its equation
  abbrev kept_by : Group → Kept
  kept_by g = cond (is_last g) (last_of r) (cond (is_delay g) (delay_of r) (cond (is_signal g) (signal_of r) no_kept))

  kept_by_lem : (e : Eqn) → e ≡ (look_of r).eqn → (look_of r).kept ≡ cut_kept (look_of r).bound (kept_by (eqn_group e))
  unfolding kept_of
  kept_by_lem e q =
      let a = num a_f r in
      let b = num b_f r in
      let k = to_z w64 (num k_f r) in
      let n = num op_f r in
      let w : eqn_of n a b k ≡ e = sym look_eqn ∙ sym q in
      let l = sym (last_by_number a b k n) ∙ ap (λ x. is_last (eqn_group x)) w in
      let d = sym (delay_by_number a b k n) ∙ ap (λ x. is_delay (eqn_group x)) w in
      let x = sym (signal_by_number a b k n) ∙ ap (λ x. is_signal (eqn_group x)) w in
      look_kept ∙ rw (l, d, x)

  pub kept_last : (x y : ℕ) → last x y ≡ (look_of r).eqn → (look_of r).kept ≡ last_of r
  kept_last x y q = let z : min 0 (look_of r).bound ≡ 0 = omega arith in kept_by_lem (last x y) q ∙ rw z

  pub kept_delay : (x y : ℕ) → delay x y ≡ (look_of r).eqn → (look_of r).kept ≡ with_since (min (num kept_f r) (look_of r).bound) (delay_of r)
  kept_delay x y q = kept_by_lem (delay x y) q

  pub kept_signal : (c : Calc) (x y : ℕ) → signal c x y ≡ (look_of r).eqn → (look_of r).kept ≡ signal_of r
  kept_signal c x y q = let z : min 0 (look_of r).bound ≡ 0 = omega arith in kept_by_lem (signal c x y) q ∙ rw z

  pub kept_none : (e : Eqn) → e ≡ (look_of r).eqn → keeps e ≡ false → (look_of r).kept ≡ no_kept
  kept_none e q h = let z : min 0 (look_of r).bound ≡ 0 = omega arith in kept_by_lem e q ∙ rw (bare e h, z)
    where
      bare : (e : Eqn) → keeps e ≡ false → kept_by (eqn_group e) ≡ no_kept
      bare input h = refl
      bare nil h = refl
      bare unit h = refl
      bare (one f a) h = refl
      bare (two g a b) h = refl
      bare (last a b) h = absurd (false≢true (sym h))
      bare (delay a b) h = absurd (false≢true (sym h))
      bare (signal c a b) h = absurd (false≢true (sym h))
      bare (window f k a) h = refl

  -- a record with bound and set point within their ranges is looked at as its cell
  pub look_valid : num bound_f r ≤ horizon → (to_cell r).kept.since ≤ num bound_f r → look_of r ≡ to_cell r
  unfolding look_of to_cell
  look_valid h k = cut_same (to_cell r) h k

-- the record of such a cell is looked at as the cell, but for what a window keeps, where it is so read back
pub look_cell : (c : Cell) → to_cell (of_cell c) ≡ with_passed no_passed c → c.bound ≤ horizon → c.kept.since ≤ c.bound → look_of (of_cell c) ≡ with_passed no_passed c
unfolding look_of
look_cell c e h k = ap cut e ∙ cut_same (with_passed no_passed c) h k

-- a record's stream is within its ranges
pub is_sound : (s : Stream) (r : Raw) → Is s r → Bounded s
is_sound s r i =
    let b = i.bound in
    let q = look_bound r in
    let k : s.kept.since ≡ (look_of r).kept.since = ap (λ (x : Kept). x.since) i.kept in
    let h = since_bound r in
    record { top = omega arith; since = omega arith }

-- what holds of an equation holds of one equal to it
pub by : (P : Eqn → Type 0) {e d : Eqn} → e ≡ d → P d → P e
by P q h = subst P (sym q) h

pub optional_none : (has x : ℕ) → has ≡ 0 → None ≡ optional has x
optional_none has x e = sym (ap (λ b. cond b None (Some (to_z w64 x))) (eq-eqb has 0 e))

pub optional_some : (has x : ℕ) → (has ≡ 0 → ⊥) → Some (to_z w64 x) ≡ optional has x
optional_some has x e = sym (ap (λ b. cond b None (Some (to_z w64 x))) (ne_eqb has 0 e))

-- ---- a number known by what it is not

pub up : (n lo : ℕ) → lo ≤ n → (n ≡ lo → ⊥) → suc lo ≤ n
up n lo h k = omega arith
