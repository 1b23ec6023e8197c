-- A replay without a plan is at rest, and refuses each record.
use Prim.Native.Nat.{ℕ, zero, suc, ◌+◌, ◌*◌, ◌<◌, ◌≤◌}
use mathlib.Core.Path.{◌≡◌, refl, sym, ap, subst, ◌∙◌}
use mathlib.Core.Bool.{Bool, false, not}
use mathlib.Core.Logic.{inl}
use mathlib.Core.List.{List, [], ◌∷◌, ◌++◌}
use native.Mathlib.Omega.{arith}
use lib.Dec.{T, eqb, lit<}
use lib.ListN.{length, get_or, length-replicate}
use Rattle.machine.specs.Calls.{running}
use Rattle.operators.specs.Limits.{capacity}
use Rattle.operators.proofs.Sizes.{capacity_fits}
use Rattle.layout.specs.Record.{out_f}
use Rattle.valid.proofs.Link.{byte_in}
use Rattle.calls.specs.Reply.{Reply, plain, reply}
use Rattle.histories.specs.NoPlan.{zeros}
use Rattle.histories.proofs.NoPlan.{no_plan}
use Rattle.trace.specs.declared.Record.{Record}
use Rattle.trace.specs.declared.Record.TheVariants.{Reading, Progress}
use Rattle.replaying.specs.declared.Place.{Place}
use Rattle.replaying.specs.declared.Place.TheVariants.{Run, Rest}
use Rattle.replaying.specs.Replay.{call_of, refusal, Turn, turn, is_output, to_output, all_moves, ran, step, Prints, here, on}
use Rattle.replaying.specs.Session.{Replays, ends, goes}
use Rattle.replaying.specs.Whole.{Lines, Stops, Printed, played}
use Rattle.replaying.specs.NoPlan.{sevens}
use Rattle.replaying.proofs.Steps.{ran_rest, to_last, refusal_some}
use Rattle.replaying.proofs.Outputs.{next_is}

zero_at : (n k : ℕ) → get_or (zeros n) k 0 ≡ 0
zero_at zero k = refl
zero_at (suc n) zero = refl
zero_at (suc n) (suc k) = zero_at n k

module _ (size : ℕ) (l : 0 < capacity size) where
  abbrev n : ℕ
  n = capacity size

  no_output : (i : ℕ) → i < capacity size → is_output (zeros size) i ≡ false
  no_output i h =
      let f : i * 256 + 256 ≤ length (zeros size) = omega (arith, capacity_fits size, length-replicate {A = ℕ} size 0) in
      ap (λ (x : ℕ). not (eqb x 0)) (byte_in (zeros size) i out_f f (lit< tt) ∙ zero_at size (i * 256 + out_f))

  to_rest : to_output n 0 false (zeros size) ≡ Rest
  to_rest =
      let e = next_is n 0 (zeros size) n (omega arith) (omega arith) (λ j a b. subst (λ (x : Bool). T (not x)) (sym (no_output j b)) tt) (inl (omega arith)) in
      sym (to_last n 0 false (zeros size) (omega arith))

  -- the run makes no move, and no output is there to be collected
  rests : step n Run (zeros size) ≡ turn Rest [] (zeros size)
  unfolding step
  rests =
      let a = (no_plan size l).answers (running all_moves) in
      ap (λ (r : Reply). ran n r) a ∙ ran_rest n (plain 0 (zeros size)) (omega arith) ∙ ap (λ (p : Place). turn p [] (zeros size)) to_rest

  still : Prints n Run (zeros size) [] Rest (zeros size)
  still =
      let h : Prints n (step n Run (zeros size)).place (step n Run (zeros size)).state [] Rest (zeros size) = subst (λ (x : Turn). Prints n x.place x.state [] Rest (zeros size)) (sym rests) here in
      subst (λ (w : List ℕ). Prints n Run (zeros size) w Rest (zeros size)) (ap (λ (x : Turn). x.printed ++ []) rests) (on h)

  seven : (r : Record) → reply (call_of r) (zeros size) ≡ plain 7 (zeros size)
  seven (Reading i t v) = (no_plan size l).answers (call_of (Reading i t v))
  seven (Progress i y) = (no_plan size l).answers (call_of (Progress i y))

  replays : (rs : List Record) → Replays n (zeros size) rs (sevens rs) (zeros size)
  unfolding sevens
  replays [] = ends still
  replays (r ∷ rs) =
      let e = seven r in
      subst (λ (w : List ℕ). Replays n (zeros size) (r ∷ rs) (w ++ sevens rs) (zeros size)) (ap (λ (x : Reply). refusal x.number) e ∙ refusal_some 7 (λ z. omega arith))
      (goes still (subst (λ (x : Reply). Replays n x.buffer rs (sevens rs) (zeros size)) (sym e) (replays rs)))

-- "An empty plan text now means a plan of no streams, at rest from the start.": of each record a line `refused=7`, then what the
-- lines' stop prints, and nothing else; the state stays all zeros. That this alone is printed is `printed_once`.
pub no_plan_printed : (trace s : List ℕ) → 0 < capacity (length s) → (rs : List Record) (rest v : List ℕ) → Lines trace rs rest → Stops rest v → Printed [] trace s (sevens rs ++ v) (zeros (length s))
no_plan_printed trace s l rs rest v a b =
    let e = (no_plan (length s) l).loads s refl in
    played (ap (λ (r : Reply). r.number) e) a (subst (λ (x : Reply). Replays (capacity (length s)) x.buffer rs (sevens rs) (zeros (length s))) (sym e) (replays (length s) l rs)) b
