-- A step changes one bound; equations, outputs, marks of collection and the other bounds stay.
use mathlib.Core.Path.{◌≡◌, refl, ◌∙◌, ap}
use mathlib.Core.List.{List, [], ◌∷◌}
use Prim.Native.Nat.{ℕ, ◌<◌}
use native.Mathlib.Omega.{arith}
use native.Mathlib.Decide.{dec_lt}
use lib.Dec.{T}
use lib.ListN.{length, set, length-set, length-map}
use Rattle.meaning.specs.Plan.{is_input}
use Rattle.meaning.specs.Arguments.{reads, arg_a, arg_b}
use Rattle.meaning.specs.Events.{Event}
use Rattle.machine.specs.State.{Cell, State, cell_at, with_kept}
use Rattle.machine.specs.Step.{passes, advance, absorb, absorbed, write, told, tell, raise}
use Rattle.machine.proofs.Cells.{set_cases, told_at, beyond}
use Rattle.machine.proofs.Release.{Frame, looser_frame, releases_looser}

frame_then : (M N O : State) → Frame M N → Frame N O → Frame M O
frame_then M N O f g = record {
  size = g.size ∙ f.size;
  eqns = λ i. g.eqns i ∙ f.eqns i;
  outs = λ i. g.outs i ∙ f.outs i;
  bounds = λ i. g.bounds i ∙ f.bounds i;
  nexts = λ i. g.nexts i ∙ f.nexts i;
}

pub absorbed_frame : (s : ℕ) (M : State) → s < length M → Frame M (absorbed s M)
unfolding absorbed
absorbed_frame s M l = record {
  size = length-set M s c;
  eqns = set_cases (λ i c. c.eqn ≡ (cell_at M i).eqn) M s c l (λ i n. refl) refl;
  outs = set_cases (λ i c. c.out ≡ (cell_at M i).out) M s c l (λ i n. refl) refl;
  bounds = set_cases (λ i c. c.bound ≡ (cell_at M i).bound) M s c l (λ i n. refl) refl;
  nexts = set_cases (λ i c. c.next ≡ (cell_at M i).next) M s c l (λ i n. refl) refl;
}
  where
    c : Cell
    c = let o = cell_at M s in with_kept (absorb o.eqn o (cell_at M (arg_a o.eqn)) (cell_at M (arg_b o.eqn))) o

pub tell_frame : (s : ℕ) (es : List Event) (M : State) → Frame M (tell s es M)
unfolding tell told
tell_frame s [] M = record { size = refl; eqns = λ i. refl; outs = λ i. refl; bounds = λ i. refl; nexts = λ i. refl }
tell_frame s (e ∷ es) M = record {
  size = length-map M (told s e.stamp e.value);
  eqns = λ i. ap (λ c. c.eqn) (told_at s e.stamp e.value M i);
  outs = λ i. ap (λ c. c.out) (told_at s e.stamp e.value M i);
  bounds = λ i. ap (λ c. c.bound) (told_at s e.stamp e.value M i);
  nexts = λ i. ap (λ c. c.next) (told_at s e.stamp e.value M i);
}

module _ (s y : ℕ) (new : List Event) (M : State) (there : s < length M) where
  abbrev pub up : Cell
  up = advance y new (passes s y M) (cell_at M s)

  -- the step, but for held events and kept data, is the write of the bound
  pub raise_frame : Frame (set M s up) (raise s y new M)
  unfolding raise write
  raise_frame =
      frame_then (set M s up) (tell s new (write s y new M)) (raise s y new M)
      (frame_then (set M s up) (write s y new M) (tell s new (write s y new M)) (absorbed_frame s (set M s up) (let e = length-set M s up in omega arith)) (tell_frame s new (write s y new M)))
      (looser_frame (tell s new (write s y new M)) (raise s y new M) (releases_looser (s ∷ reads (cell_at M s).eqn) (tell s new (write s y new M))))

  pub raise_size : length (raise s y new M) ≡ length M
  raise_size = raise_frame.size ∙ length-set M s up

  pub raise_eqn : (i : ℕ) → (cell_at (raise s y new M) i).eqn ≡ (cell_at M i).eqn
  raise_eqn i = raise_frame.eqns i ∙ set_cases (λ i c. c.eqn ≡ (cell_at M i).eqn) M s up there (λ i n. refl) refl i

  pub raise_out : (i : ℕ) → (cell_at (raise s y new M) i).out ≡ (cell_at M i).out
  raise_out i = raise_frame.outs i ∙ set_cases (λ i c. c.out ≡ (cell_at M i).out) M s up there (λ i n. refl) refl i

  pub raise_next : (i : ℕ) → (cell_at (raise s y new M) i).next ≡ (cell_at M i).next
  raise_next i = raise_frame.nexts i ∙ set_cases (λ i c. c.next ≡ (cell_at M i).next) M s up there (λ i n. refl) refl i

  -- the bound of s is y, and no other changes
  pub raise_bound : (P : ℕ → ℕ → Type 0) → ((i : ℕ) → (i ≡ s → ⊥) → P i (cell_at M i).bound) → P s y → (i : ℕ) → P i (cell_at (raise s y new M) i).bound
  raise_bound P other this i = rw (raise_frame.bounds i) (set_cases (λ i c. P i c.bound) M s up there other this i)

-- an input is a stream of the state, and so is an output
pub input_there : (M : State) (s : ℕ) → T (is_input (cell_at M s).eqn) → s < length M
input_there M s h = go (dec_lt s (length M))
  where
    go : Dec (s < length M) → s < length M
    go (yes l) = l
    go (no l) = absurd (rw (beyond M s (omega arith)) at h)

pub output_there : (M : State) (s : ℕ) → T (cell_at M s).out → s < length M
output_there M s h = go (dec_lt s (length M))
  where
    go : Dec (s < length M) → s < length M
    go (yes l) = l
    go (no l) = absurd (rw (beyond M s (omega arith)) at h)
