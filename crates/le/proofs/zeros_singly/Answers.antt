-- `le::zeros_singly` meets its contract.
use Rattle.std.proofs.Common.{rules, length-drop, take_all}
use Rattle.std.proofs.lemmas.Iterator.{cases_from_all, YieldsList-from_slice}
use borrow.Author.Tests.{tests}
use mathlib.Core.Path.{◌≡◌, ◌∙◌}
use lib.ListN.{drop, length}
use Prim.Native.Nat.{◌-◌}
use Rattle.le.proofs.AllZero.{zero_all}
use Rattle.le.proofs.zeros_singly.Goals as goal

pub returns : goal.returns
returns c = zero_all c.all.result (drop c.args.at c.args.s.now) (cases_from_all _ _ _ (λ x. x ≡ 0) (λ x. x ≡ 0 → ⊥) c.all.ensures.ran (YieldsList-from_slice (drop c.args.at c.args.s.now) (c.iter.ensures.rest ∙ take_all (length c.args.s.now - c.args.at) (drop c.args.at c.args.s.now) (search (rules, length-drop)))) (λ x q k. search (rules, tests)) (λ x q k. search (rules, tests)))
