-- The count of visits, of document 01's example: with a visit at 3 and one at 5 every solution counts 0 at 0, 1 at 3 and 2 at 5.
use Prim.Native.Nat.{ℕ, zero, suc, ◌<◌, ◌≤◌}
use mathlib.Core.Path.{◌≡◌, refl, ap, ap₂, ◌∙◌}
use Rattle.std.specs.Prelude.{Option, None, Some}
use mathlib.Core.List.{List, [], ◌∷◌}
use native.Mathlib.Omega.{arith}
use lib.IntN.{ℤ, pos}
use borrow.Author.Tests.{ne_eqb}
use Rattle.num.specs.Arithmetic.{added}
use Rattle.meaning.specs.Plan.{set, plus}
use Rattle.meaning.specs.Events.{Event, ev, Streams, found, events, horizon, or_else}
use Rattle.meaning.specs.Table.{value_of, one_at, two_at, unit_at, latest, last_at, at, Solves}
use Rattle.machine.specs.State.{Declared, declared_plan}
use Rattle.machine.proofs.Rising.{events_flat}
use Rattle.runs.proofs.Premises.{counting}

abbrev pub streams : List Declared
streams = counting

abbrev pub visits : List Event
visits = ev 3 (pos 7) ∷ ev 5 (pos 7) ∷ []

abbrev pub counts : List Event
counts = ev 0 (pos 0) ∷ ev 3 (pos 1) ∷ ev 5 (pos 2) ∷ []

module _ (rd S : Streams) (solves : Solves (declared_plan streams) rd S horizon) (read : (t : ℕ) → rd 0 t ≡ found visits t) where
  -- from the bottom up
  counted : (t : ℕ) → t < horizon → S 5 t ≡ or_else (one_at (plus (pos 1)) t (last_at (found visits t) (latest (S 5) t))) (one_at (set (pos 0)) t (unit_at t))
  unfolding at two_at
  counted t l =
      let e0 = solves.each 0 t l ∙ read t in
      let e1 = solves.each 1 t l in
      let e2 = solves.each 2 t l ∙ ap (one_at (set (pos 0)) t) e1 in
      let e3 = solves.each 3 t l ∙ ap (λ (o : Option ℤ). last_at o (latest (S 5) t)) e0 in
      let e4 = solves.each 4 t l ∙ ap (one_at (plus (pos 1)) t) e3 in
      solves.each 5 t l ∙ ap₂ or_else e4 e2

  -- no visit, no count
  none_at : (t : ℕ) → suc t < horizon → found visits (suc t) ≡ None → S 5 (suc t) ≡ None
  unfolding one_at last_at unit_at
  none_at t l e = counted (suc t) l ∙ rw e

  at_0 : S 5 0 ≡ Some (pos 0)
  unfolding one_at last_at unit_at
  at_0 = counted 0 (omega arith)

  at_1 : S 5 1 ≡ None
  at_1 = none_at 0 (omega arith) refl

  at_2 : S 5 2 ≡ None
  at_2 = none_at 1 (omega arith) refl

  at_3 : S 5 3 ≡ Some (pos 1)
  unfolding one_at last_at unit_at latest value_of added
  at_3 = counted 3 (omega arith) ∙ rw (at_2, at_1, at_0)

  at_4 : S 5 4 ≡ None
  at_4 = none_at 3 (omega arith) refl

  at_5 : S 5 5 ≡ Some (pos 2)
  unfolding one_at last_at unit_at latest value_of added
  at_5 = counted 5 (omega arith) ∙ rw (at_4, at_3)

  later : (t : ℕ) → 6 ≤ t → t < horizon → S 5 t ≡ None
  later zero h l = absurd (omega arith)
  later (suc t) h l = none_at t l (rw (ne_eqb 3 (suc t) (λ e. omega arith), ne_eqb 5 (suc t) (λ e. omega arith)))

  pub counts_known : events (S 5) 6 ≡ counts
  counts_known = rw (at_0, at_1, at_2, at_3, at_4, at_5)

  pub counts_all : events (S 5) horizon ≡ counts
  counts_all = events_flat (S 5) 6 horizon (omega arith) later ∙ counts_known
