-- Every argument is a stream of the plan: as a property, and as a test.
use mathlib.Core.Bool.{Bool, true, false, cond}
use mathlib.Core.List.Memᴰ
use mathlib.Core.List.{List, [], ◌∷◌, map, Memᴰ}
use Prim.Native.Nat.{ℕ, zero, suc, ◌<◌}
use native.Mathlib.Nat.{not-suc-le-zero}
use native.Mathlib.Omega.{arith}
use native.Mathlib.Decide.{dec_lt}
use lib.Dec.{T, ltb, ltb→lt}
use lib.ListN.{length, get_or-eq_default}
use Rattle.meaning.specs.Plan.{Eqn, nil, Plan, eqn_at}
use Rattle.meaning.specs.Arguments.{Argument, arguments, reads, prompts, undelayed, Each}
use Rattle.meaning.specs.CycleTest.{down_from}
use Rattle.meaning.proofs.Each.{all, each_map, each_at, all_each}
use Rattle.meaning.proofs.Induction.{below_suc}

-- every undelayed argument is a stream of the plan
abbrev pub Within : Plan → Type 0
Within plan = (s a : ℕ) → Memᴰ a (undelayed (eqn_at plan s)) → a < length plan

-- each stream below n, one after the other
pub each_below : (P : ℕ → Type 0) (n : ℕ) → Each P (down_from n) → (s : ℕ) → s < n → P s
unfolding down_from
each_below P zero h s l = absurd (not-suc-le-zero l)
each_below P (suc n) h s l = below_suc P n (each_below P n h.1) h.0 s l

pub below_each : (P : ℕ → Type 0) (n : ℕ) → ((s : ℕ) → s < n → P s) → Each P (down_from n)
unfolding down_from
below_each P zero h = tt
below_each P (suc n) h = (h n (omega arith), below_each P n (λ s l. h s (omega arith)))

each_prompt : (P : ℕ → Type 0) (xs : List Argument) → Each P (map (λ x. x.stream) xs) → Each P (prompts xs)
each_prompt P [] h = tt
each_prompt P (x ∷ xs) h = go x.delayed (each_prompt P xs h.1)
  where
    go : (late : Bool) → Each P (prompts xs) → Each P (cond late (prompts xs) (x.stream ∷ prompts xs))
    go true rest = rest
    go false rest = (h.0, rest)

-- what holds of all arguments holds of the undelayed ones
pub undelayed_read : (P : ℕ → Type 0) (e : Eqn) → Each P (reads e) → Each P (undelayed e)
undelayed_read P e h = each_prompt P (arguments e) h

pub reads_within : (plan : Plan) → ((s : ℕ) → s < length plan → Each (λ a. a < length plan) (reads (eqn_at plan s))) → Within plan
reads_within plan below s a m = go (dec_lt s (length plan))
  where
    go : Dec (s < length plan) → a < length plan
    go (yes l) = each_at (λ a. a < length plan) (undelayed (eqn_at plan s)) (undelayed_read (λ a. a < length plan) (eqn_at plan s) (below s l)) m
    go (no l) = absurd (Memᴰ.not-nil (rw (get_or-eq_default plan nil {n = s} (omega arith)) at m))

abbrev pub reads_below : Plan → ℕ → Bool
reads_below plan s = all (λ a. ltb a (length plan)) (reads (eqn_at plan s))

unfoldable pub within : Plan → Bool
unfolding down_from
within plan = all (reads_below plan) (down_from (length plan))

pub within_sound : (plan : Plan) → T (within plan) → Within plan
unfolding within
within_sound plan h =
    reads_within plan (λ s l. each_map (λ a t. ltb→lt a (length plan) t) (reads (eqn_at plan s)) (all_each (λ a. ltb a (length plan)) (reads (eqn_at plan s))
    (each_below (λ s. T (reads_below plan s)) (length plan) (all_each (reads_below plan) (down_from (length plan)) h) s l)))
