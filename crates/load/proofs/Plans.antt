-- The plan part of number 15: the plans of valid states are just those that a taken text gives.
use Prim.Native.Nat.{ℕ, suc, ◌<◌}
use mathlib.Core.Path.{◌≡◌, refl, sym, ap, subst}
use mathlib.Core.Bool.{Bool, true, false, ◌&&◌}
use mathlib.Core.List.{List, [], ◌∷◌}
use native.Mathlib.Omega.{arith}
use lib.Dec.{T}
use lib.ListN.{length, length-map}
use Rattle.meaning.specs.Plan.{is_input, Plan}
use Rattle.meaning.specs.Cycle.{Acyclic}
use Rattle.machine.specs.State.{Cell, State, declares, declared_in, loaded, cell_at, plan_of, declared_plan}
use Rattle.operators.specs.Limits.{capacity}
use Rattle.operators.proofs.Sizes.{capacity_few}
use Rattle.le.specs.Bytes.{Bytes}
use Rattle.encoding.specs.View.{bytes_of}
use Rattle.encoding.specs.Sound.{SoundCell, Sound}
use Rattle.valid.specs.Valid.{valid}
use Rattle.roundtrip.specs.In.{state_in}
use Rattle.roundtrip.proofs.Whole.{valid_sound, bytes_valid}
use Rattle.plan.specs.Rules.{number, declared}
use Rattle.plan.specs.Taken.{StreamKeeps, Each, KeepsRules}
use Rattle.plan.proofs.Taken.{taken_rendered}
use Rattle.plan.proofs.Rendered.{render_taken}
use Rattle.render.specs.Render.{render}
use Rattle.load.proofs.Fresh.{loaded_sound}

no_output : (x o : Bool) → (T x → o ≡ false) → (x && o) ≡ false
no_output true o h = h tt
no_output false o h = refl

stream_keeps : (n : ℕ) (c : Cell) → SoundCell n c → StreamKeeps n (declares c)
stream_keeps n c h = record { arguments = h.arguments; value = h.value; output = no_output (is_input c.eqn) c.out h.out; width = h.width }

each_keeps : (n : ℕ) (M : State) → ((i : ℕ) → i < length M → SoundCell n (cell_at M i)) → Each n (declared_in M)
each_keeps n [] h = tt
each_keeps n (c ∷ M) h = (stream_keeps n c (h 0 (omega arith)), each_keeps n M (λ i k. h (suc i) (omega arith)))

same_plan : (M : State) → declared_plan (declared_in M) ≡ plan_of M
same_plan [] = refl
same_plan (c ∷ M) = ap (λ (l : Plan). c.eqn ∷ l) (same_plan M)

-- the plan of a sound state keeps the written rules
pub sound_rules : {cap : ℕ} (M : State) → Sound cap M → KeepsRules cap (declared_in M)
sound_rules M ok =
    let m : length (declared_in M) ≡ length M = length-map M declares in
    record {
      few = rw m ok.few;
      each = rw m (each_keeps (length M) M ok.each);
      few_windows = rw (same_plan M) ok.windows;
      clear = subst Acyclic (sym (same_plan M)) ok.acyclic;
    }

-- so a valid state's plan is the plan of a taken text
pub valid_plan_taken : (s : List ℕ) → Bytes s → valid s ≡ true → (text : List ℕ) × (number (capacity (length s)) text ≡ 0) × (declared (capacity (length s)) text ≡ declared_in (state_in s))
valid_plan_taken s b e =
    let k = render_taken (capacity (length s)) (capacity_few (length s)) (declared_in (state_in s)) (sound_rules (state_in s) (valid_sound s b e)) in
    (render (declared_in (state_in s)), k.0, k.1)

-- and the plan of a taken text passes: its fresh state is valid, all else in it being 0
pub taken_plan_valid : (size : ℕ) → 0 < capacity size → (text : List ℕ) → number (capacity size) text ≡ 0 → valid (bytes_of size (loaded (declared (capacity size) text))) ≡ true
taken_plan_valid size l text e =
    let ds = declared (capacity size) text in
    bytes_valid size (loaded ds) (loaded_sound l ds (taken_rendered (capacity size) text e).1)
