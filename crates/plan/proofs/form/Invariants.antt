-- `plan::form` meets its contract.
use mathlib.Core.Path.{◌≡◌}
use mathlib.Core.Bool.{true}
use Prim.Native.Nat.{◌≤◌, ◌-◌, ◌*◌}
use lib.ListN.{length}
use Rattle.plan.specs.Rules.{streams}
use Rattle.plan.specs.Pass.{pass_of}
use Rattle.plan.proofs.form.Given as goal

abbrev pub invariant-loop-i : goal.invariant-loop-i
invariant-loop-i l = (pass_of l.n l.ok l.sum l.i l.graph (streams l.text l.p (l.n - l.i)) ≡ pass_of l.n true 0 0 l.initial.graph (streams l.text l.at l.n)) × (length l.graph ≡ length l.initial.graph) × (l.sum ≤ 9 * l.i)
