-- A move on the whole buffer: what its bound passes, and then the step that it makes.
use Prim.Native.Nat.{ℕ, ◌<◌}
use mathlib.Core.Path.{◌≡◌}
use mathlib.Core.List.{List}
use Rattle.machine.specs.State.{Cell}
use Rattle.le.specs.Bytes.{Bytes}
use Rattle.layout.specs.Record.{num, encode, decode, row_at, count_f}
use Rattle.layout.proofs.Laws.{raws_ok, whole_then}
use Rattle.passing.specs.Pass.{own_in, passed_raw}
use Rattle.making.specs.Make.{step_raw}
use Rattle.moves.specs.Move.{ahead_raw}
use Rattle.passing.proofs.Steps.{passed_ok}

module _ (n i : ℕ) (hi : i < n) (s : List ℕ) (b : Bytes s) where
  abbrev o : Cell
  o = own_in i (decode n s)

  pub made_is : (s₁ s₂ : List ℕ) (x z : ℕ) → s₁ ≡ encode n (passed_raw n i (own_in i (decode n s)).eqn (own_in i (decode n s)).kept (own_in i (decode n s)).bound x z (decode n s))
      → s₂ ≡ encode n (step_raw n i (own_in i (decode n s)).eqn (own_in i (decode n s)).kept (ahead_raw n i (decode n s)) (num count_f (row_at (decode n s) i)) (decode n s₁))
      → s₂ ≡ encode n (step_raw n i (own_in i (decode n s)).eqn (own_in i (decode n s)).kept (ahead_raw n i (decode n s)) (num count_f (row_at (decode n s) i)) (passed_raw n i (own_in i (decode n s)).eqn (own_in i (decode n s)).kept (own_in i (decode n s)).bound x z (decode n s)))
  made_is s₁ s₂ x z e₁ e₂ =
      let st = decode n s in
      whole_then n s s₁ s₂ (passed_raw n i o.eqn o.kept o.bound x z) (step_raw n i o.eqn o.kept (ahead_raw n i st) (num count_f (row_at st i))) e₁ (passed_ok n i hi o.eqn o.kept o.bound x z st (raws_ok n s b)) e₂
