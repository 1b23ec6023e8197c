-- The premises are met: an input is furthest behind where there is one, every call with arguments of its types is typed, and
-- a plan keeps the rules.
use mathlib.Core.Path.{◌≡◌, refl}
use mathlib.Core.Logic.{◌⊎◌, inl, inr}
use mathlib.Core.Bool.{Bool, true, false}
use mathlib.Core.List.{List, [], ◌∷◌}
use Prim.Native.Nat.{ℕ, zero, suc, ◌≤◌, ◌<◌}
use native.Mathlib.Omega.{arith}
use native.Mathlib.Decide.{dec_le}
use lib.Dec.{T, T_not}
use lib.ListN.{length}
use lib.IntN.{ℤ, pos, negsuc}
use lib.Signed.{mag}
use Rattle.meaning.specs.Plan.{set, plus, merge, input, unit, one, two, last, eqn_at, is_input}
use Rattle.meaning.specs.Arguments.{reads, AllBelow}
use Rattle.meaning.specs.CycleTest.{acyclic}
use Rattle.meaning.proofs.Tests.{Is, yes!, no!, look}
use Rattle.meaning.proofs.CycleTest.{test_sound}
use Rattle.machine.specs.State.{Declared, declared_plan}
use Rattle.machine.specs.Calls.{reading, progress, moving, running, collecting}
use Rattle.runs.specs.Seen.{Seen, known, Typed}
use Rattle.runs.specs.Demand3.{IsInput, FurthestBehind}
use Rattle.runs.specs.Claim.{Keeps}

-- ---- furthest behind

-- of the inputs below n one is known no further than each of the others, or there is none
module _ (ds : List Declared) (seen : List Seen) where
  abbrev is_in : ℕ → Bool
  is_in i = is_input (eqn_at (declared_plan ds) i)

  record Behind (n i : ℕ) : Type 0 where
    there : i < n
    is_input : T (is_in i)
    least : (j : ℕ) → j < n → T (is_in j) → known i seen ≤ known j seen

  abbrev Found : ℕ → Type 0
  Found n = ((i : ℕ) × Behind n i) ⊎ ((j : ℕ) → j < n → T (is_in j) → ⊥)

  below : (n : ℕ) → Found n
  below zero = inr (λ j l h. absurd (omega arith))
  below (suc n) = go (look (is_in n)) (below n)
    where
      -- what holds below n and of n
      each : (P : ℕ → Type 0) → ((j : ℕ) → j < n → P j) → P n → (j : ℕ) → j < suc n → P j
      each P f p j l = by (dec_le n j)
        where
          by : Dec (n ≤ j) → P j
          by (yes d) = let e : j ≡ n = omega arith in rw e p
          by (no d) = f j (omega arith)

      go : Is (is_in n) → Found n → Found (suc n)
      go (no! q x) (inl b) = let l = b.1.there in inl (b.0, record { there = omega arith; is_input = b.1.is_input; least = each (λ j. T (is_in j) → known b.0 seen ≤ known j seen) b.1.least (λ h. absurd (T_not (is_in n) x h)) })
      go (no! q x) (inr f) = inr (each (λ j. T (is_in j) → ⊥) f (λ h. T_not (is_in n) x h))
      go (yes! q x) (inr f) = inl (n, record { there = omega arith; is_input = x; least = each (λ j. T (is_in j) → known n seen ≤ known j seen) (λ j l h. absurd (f j l h)) (λ h. omega arith) })
      go (yes! q x) (inl b) = nearer (dec_le (known b.0 seen) (known n seen))
        where
          nearer : Dec (known b.0 seen ≤ known n seen) → Found (suc n)
          nearer (yes d) = let l = b.1.there in inl (b.0, record { there = omega arith; is_input = b.1.is_input; least = each (λ j. T (is_in j) → known b.0 seen ≤ known j seen) b.1.least (λ h. d) })
          nearer (no d) =
              inl (n, record { there = omega arith; is_input = x; least = each (λ j. T (is_in j) → known n seen ≤ known j seen) (λ j l h. let k = b.1.least j l h in omega arith) (λ h. omega arith) })

  -- where there is an input, one is furthest behind
  pub behind_exists : (i : ℕ) → IsInput ds i → (j : ℕ) × FurthestBehind ds seen j
  behind_exists i h = go (below (length ds))
    where
      go : Found (length ds) → (j : ℕ) × FurthestBehind ds seen j
      go (inl b) = (b.0, record { is_input = (b.1.there, b.1.is_input); least = λ j k. b.1.least j k.0 k.1 })
      go (inr f) = absurd (f i h.0 h.1)

-- ---- arguments of the types that the calls take, the greatest included

pub reading_typed : (s t : ℕ) (v : ℤ) → s ≤ 4294967295 → t ≤ 4294967295 → mag v ≤ 9223372036854775807 → Typed (reading s t v)
reading_typed s t v a b c = (omega arith, omega arith, omega arith)

pub progress_typed : (s y : ℕ) → s ≤ 4294967295 → y ≤ 18446744073709551615 → Typed (progress s y)
progress_typed s y a b = (omega arith, omega arith)

pub stream_typed : (s : ℕ) → s ≤ 4294967295 → Typed (moving s) × Typed (running s) × Typed (collecting s)
stream_typed s a = (omega arith, omega arith, omega arith)

-- the greatest and the least value
pub value_ends : (mag (pos 9223372036854775807) ≡ 9223372036854775807) × (mag (negsuc 9223372036854775807) ≡ 9223372036854775807)
value_ends = (refl, refl)

-- ---- document 01's plan that counts visits keeps the rules

abbrev pub counting : List Declared
counting =
    record { eqn = input; out = false } ∷ record { eqn = unit; out = false } ∷ record { eqn = one (set (pos 0)) 1; out = false } ∷ record { eqn = last 5 0; out = false }
    ∷ record { eqn = one (plus (pos 1)) 3; out = false } ∷ record { eqn = two merge 4 2; out = true } ∷ []

pub counting_keeps : Keeps counting
unfolding acyclic
counting_keeps = record { arguments = arguments; acyclic = test_sound 6 (declared_plan counting) refl }
  where
    arguments : (s : ℕ) → AllBelow 6 (reads (eqn_at (declared_plan counting) s))
    arguments zero = tt
    arguments (suc zero) = tt
    arguments (suc (suc zero)) = (omega arith, tt)
    arguments (suc (suc (suc zero))) = (omega arith, (omega arith, tt))
    arguments (suc (suc (suc (suc zero)))) = (omega arith, tt)
    arguments (suc (suc (suc (suc (suc zero))))) = (omega arith, (omega arith, tt))
    arguments (suc (suc (suc (suc (suc (suc s)))))) = tt
