-- `streams::calc_of` meets its contract.
use Prim.Native.Nat.{ℕ}
use mathlib.Core.Path.{◌≡◌, ap}
use lib.ListN.{get_or}
use Rattle.meaning.specs.Plan.{add}
use Rattle.operators.specs.Operators.{calcs}
use native.Mathlib.Omega.{arith}
use Rattle.streams.proofs.Laws as law
use Rattle.streams.proofs.calc_of.Goals as goal

pub returns-in_default : goal.returns-in_default
returns-in_default c = let n = c.args.place in let h = law.up n 6 (law.up n 5 (law.up n 4 (law.up n 3 (law.up n 2 (law.up n 1 (law.up n 0 (omega arith) c.in_default.in_default-own.rest.0.0.0.0.0.0.1) c.in_default.in_default-own.rest.0.0.0.0.0.1) c.in_default.in_default-own.rest.0.0.0.0.1) c.in_default.in_default-own.rest.0.0.0.1) c.in_default.in_default-own.rest.0.0.1) c.in_default.in_default-own.rest.0.1) c.in_default.in_default-own.rest.1 in let e : 7 ≡ n = omega arith in ap (λ (m : ℕ). get_or calcs m add) e
