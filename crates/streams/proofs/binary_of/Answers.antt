-- `streams::binary_of` meets its contract.
use Prim.Native.Nat.{ℕ, ◌+◌, ◌-◌}
use mathlib.Core.Path.{◌≡◌, sym, ap, ◌∙◌}
use Rattle.meaning.specs.Plan.{calc, two}
use Rattle.operators.specs.Operators.{eqn_of}
use Rattle.operators.proofs.Laws.{calc_row_lem}
use native.Mathlib.Omega.{arith}
use Rattle.streams.proofs.binary_of.Goals as goal

pub calc_of-g-requires : goal.calc_of-g-requires
calc_of-g-requires c = let n = c.args.n in let p : n ≡ 16 → ⊥ = c.in_default.in_default-own.rest.0.1 in let q : n ≡ 17 → ⊥ = c.in_default.in_default-own.rest.1 in omega arith

pub returns-in-16 : goal.returns-in-16
unfolding eqn_of
returns-in-16 c = λ a b k. ap (λ (m : ℕ). eqn_of m a b k) (sym c.in-16.is)

pub returns-in-17 : goal.returns-in-17
unfolding eqn_of
returns-in-17 c = λ a b k. ap (λ (m : ℕ). eqn_of m a b k) (sym c.in-17.is)

pub returns-in_default : goal.returns-in_default
returns-in_default c = λ a b k. let n = c.args.n in let p : n ≡ 16 → ⊥ = c.in_default.in_default-own.rest.0.1 in let q : n ≡ 17 → ⊥ = c.in_default.in_default-own.rest.1 in let e : 8 + (n - 8) ≡ n = omega arith in ap (λ g. two (calc g) a b) c.calc_of-g.ensures ∙ sym (calc_row_lem a b k (n - 8) (omega arith)) ∙ ap (λ (m : ℕ). eqn_of m a b k) e
