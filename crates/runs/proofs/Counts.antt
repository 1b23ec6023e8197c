-- Only what was done counts: a refused call adds nothing to what was accepted, known or handed out.
use mathlib.Core.Path.{◌≡◌}
use mathlib.Core.Bool.{not}
use mathlib.Core.List.{List, ◌∷◌, ◌++◌}
use Prim.Native.Nat.{ℕ}
use lib.Dec.{T, eqb}
use Rattle.meaning.specs.Events.{ev}
use Rattle.meaning.proofs.Tests.{Is, yes!, no!, look, true_is, false_is}
use Rattle.machine.proofs.Cells.{ne_eqb}
use Rattle.runs.specs.Seen.{Seen, reading_of, accepted, bound_of, known_from, is_collect, handed}

module _ (i : ℕ) (x : Seen) (l : List Seen) where
  pub accepted_done : x.number ≡ 0 → accepted i (x ∷ l) ≡ reading_of i x.made ++ accepted i l
  unfolding accepted
  accepted_done e = rw (accepted, e)

  pub accepted_refused : (x.number ≡ 0 → ⊥) → accepted i (x ∷ l) ≡ accepted i l
  unfolding accepted
  accepted_refused n = rw (accepted, ne_eqb x.number 0 n)

  pub handed_done : x.number ≡ 0 → T (is_collect i x.made) → handed i (x ∷ l) ≡ ev x.stamp x.value ∷ handed i l
  unfolding handed
  handed_done e c = rw (handed, e, true_is (is_collect i x.made) c)

  pub handed_refused : (x.number ≡ 0 → ⊥) → handed i (x ∷ l) ≡ handed i l
  unfolding handed
  handed_refused n = rw (handed, ne_eqb x.number 0 n)

  -- of another call, or of another stream
  pub handed_other : T (not (is_collect i x.made)) → handed i (x ∷ l) ≡ handed i l
  unfolding handed
  handed_other c = go (look (eqb x.number 0))
    where
      go : Is (eqb x.number 0) → handed i (x ∷ l) ≡ handed i l
      go (yes! q h) = rw (handed, q, false_is (is_collect i x.made) c)
      go (no! q h) = rw (handed, q)

module _ (y i : ℕ) (x : Seen) (l : List Seen) where
  pub known_done : x.number ≡ 0 → known_from y i (x ∷ l) ≡ known_from (bound_of i x.made y) i l
  unfolding known_from
  known_done e = rw (known_from, e)

  pub known_refused : (x.number ≡ 0 → ⊥) → known_from y i (x ∷ l) ≡ known_from y i l
  unfolding known_from
  known_refused n = rw (known_from, ne_eqb x.number 0 n)
