-- `streams::fold_of` meets its contract.
use Prim.Native.Nat.{ℕ}
use mathlib.Core.Path.{◌≡◌, ap}
use lib.ListN.{get_or}
use Rattle.meaning.specs.Plan.{wsum}
use Rattle.operators.specs.Operators.{folds}
use native.Mathlib.Omega.{arith}
use Rattle.streams.proofs.Laws as law
use Rattle.streams.proofs.fold_of.Goals as goal

pub returns-in_default : goal.returns-in_default
returns-in_default c = let n = c.args.place in let h = law.up n 1 (law.up n 0 (omega arith) c.in_default.in_default-own.rest.0.1) c.in_default.in_default-own.rest.1 in let e : 2 ≡ n = omega arith in ap (λ (m : ℕ). get_or folds m wsum) e
