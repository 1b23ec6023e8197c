-- The state that load fills is sound.
use Prim.Native.Nat.{ℕ, zero, suc, ◌<◌}
use mathlib.Core.Path.{◌≡◌, refl, sym, ap, subst}
use mathlib.Core.Bool.{Bool, true, false, ◌&&◌}
use mathlib.Core.List.{List, [], ◌∷◌, map}
use native.Mathlib.Omega.{arith}
use lib.Dec.{T}
use lib.ListN.{length}
use Rattle.meaning.specs.Plan.{Eqn, input, nil, unit, one, two, last, delay, signal, window, is_input, Plan}
use Rattle.meaning.specs.Cycle.{Acyclic}
use Rattle.meaning.specs.Missing.{Reason, Outside, ZeroDivisor, can_lack}
use Rattle.machine.specs.State.{Declared, no_kept, no_passed, count_of, fresh, loaded, cell_at, plan_of, declared_plan}
use Rattle.encoding.specs.Sound.{IsNext, IsKept, IsPassed, IsCount, SoundCell, Own, Sound}
use Rattle.plan.specs.Taken.{StreamKeeps, Each, KeepsRules}
use Rattle.load.proofs.Taken.{many}

next_fresh : (b : Bool) → IsNext b 0 0
next_fresh true = omega arith
next_fresh false = refl

kept_fresh : (e : Eqn) → IsKept e 0 no_kept
kept_fresh input = refl
kept_fresh nil = refl
kept_fresh unit = refl
kept_fresh (one f a) = refl
kept_fresh (two g a b) = refl
kept_fresh (last a b) = record { prev = tt; fresh = λ e. refl; prev_b = refl; since = refl; value = refl; prior = refl }
kept_fresh (delay a b) = record { prev = refl; prev_b = refl; since = omega arith; value = tt; prior = tt; unset = λ e. refl; fresh = λ e. refl }
kept_fresh (signal c a b) = record { prev = tt; prev_b = tt; fresh = λ e. refl; fresh_b = λ e. refl; since = refl; value = refl; prior = refl }
kept_fresh (window f k a) = refl

passed_fresh : (e : Eqn) → IsPassed e 0 no_passed
passed_fresh input = refl
passed_fresh nil = refl
passed_fresh unit = refl
passed_fresh (one f a) = refl
passed_fresh (two g a b) = refl
passed_fresh (last a b) = refl
passed_fresh (delay a b) = refl
passed_fresh (signal c a b) = refl
passed_fresh (window f k a) = record { few = omega arith; values = tt; fresh = λ e. refl }

count_fresh : (b : Bool) → IsCount b 0 0
count_fresh true = (omega arith, λ e. refl)
count_fresh false = refl

counts_fresh : (e : Eqn) (q : Reason) → IsCount (can_lack e) 0 (count_of q no_passed)
counts_fresh e Outside = count_fresh (can_lack e)
counts_fresh e ZeroDivisor = count_fresh (can_lack e)

no_output : (x o : Bool) → (x && o) ≡ false → T x → o ≡ false
no_output true o e t = e
no_output false o e t = absurd t

cell_fresh : (n : ℕ) (d : Declared) → StreamKeeps n d → SoundCell n (fresh d)
cell_fresh n d k = record {
  arguments = k.arguments;
  value = k.value;
  width = k.width;
  out = no_output (is_input d.eqn) d.out k.output;
  bound = omega arith;
  few = omega arith;
  held = omega arith;
  next = next_fresh d.out;
  kept = kept_fresh d.eqn;
  passed = passed_fresh d.eqn;
  counts = counts_fresh d.eqn;
}

cell_at_lem : (n : ℕ) (ds : List Declared) → Each n ds → (i : ℕ) → i < length ds → SoundCell n (cell_at (map fresh ds) i)
cell_at_lem n [] e i h = absurd (omega arith)
cell_at_lem n (d ∷ ds) e zero h = cell_fresh n d e.0
cell_at_lem n (d ∷ ds) e (suc i) h = cell_at_lem n ds e.1 i (omega arith)

nothing_held : (ds : List Declared) (i : ℕ) → i < length ds → Own (cell_at (map fresh ds) i)
nothing_held [] i h = absurd (omega arith)
nothing_held (d ∷ ds) zero h = λ t. omega arith
nothing_held (d ∷ ds) (suc i) h = nothing_held ds i (omega arith)

pub plan_loaded : (ds : List Declared) → plan_of (loaded ds) ≡ declared_plan ds
unfolding loaded
plan_loaded [] = refl
plan_loaded (d ∷ ds) = ap (λ (l : Plan). d.eqn ∷ l) (plan_loaded ds)

-- a plan that keeps the rules loads as a sound state, in a buffer of a length that states have
pub loaded_sound : {cap : ℕ} → 0 < cap → (ds : List Declared) → KeepsRules cap ds → Sound cap (loaded ds)
loaded_sound l ds k = record {
  size = l;
  few = rw (many ds) k.few;
  each = λ i h. rw (many ds) (at i (subst (λ (n : ℕ). i < n) (many ds) h));
  own = λ i h. own_at i (subst (λ (n : ℕ). i < n) (many ds) h);
  windows = rw (plan_loaded ds) k.few_windows;
  acyclic = subst Acyclic (sym (plan_loaded ds)) k.clear;
}
  where
    at : (i : ℕ) → i < length ds → SoundCell (length ds) (cell_at (loaded ds) i)
    at i h = unfold loaded in cell_at_lem (length ds) ds k.each i h

    own_at : (i : ℕ) → i < length ds → Own (cell_at (loaded ds) i)
    own_at i h = unfold loaded in nothing_held ds i h
