-- `operators::can_lack` meets its contract.
use mathlib.Core.Path.{◌≡◌, sym, ◌∙◌}
use borrow.Author.Tests.{le-leb, lt-leb, ne_eqb}
use Rattle.operators.proofs.Laws.{lacks_range}
use native.Mathlib.Omega.{arith}
use Rattle.operators.proofs.can_lack.Goals as goal

pub returns-in-6-to-12 : goal.returns-in-6-to-12
returns-in-6-to-12 c = let n = c.args.number in let e : n ≡ 28 = omega arith in sym (lacks_range n ∙ rw e)

pub returns-in-6-to-12-2 : goal.returns-in-6-to-12-2
returns-in-6-to-12-2 c = let n = c.args.number in sym (lacks_range n ∙ rw (le-leb 6 n (omega arith), le-leb n 12 (omega arith)))

pub returns-in-6-to-12-3 : goal.returns-in-6-to-12-3
returns-in-6-to-12-3 c =
    let n = c.args.number in
    sym (lacks_range n ∙ rw (lt-leb n 12 (omega arith), le-leb 6 n (omega arith), le-leb 20 n (omega arith), le-leb n 24 (omega arith)))

pub returns-in_default : goal.returns-in_default
returns-in_default c =
    let n = c.args.number in
    sym (lacks_range n ∙ rw (lt-leb 6 n (omega arith), lt-leb 20 n (omega arith), ne_eqb n 28 (λ e. omega arith)))

pub returns-in_default-2 : goal.returns-in_default-2
returns-in_default-2 c =
    let n = c.args.number in
    sym (lacks_range n ∙ rw (lt-leb n 12 (omega arith), le-leb 6 n (omega arith), lt-leb 20 n (omega arith), ne_eqb n 28 (λ e. omega arith)))

pub returns-in_default-3 : goal.returns-in_default-3
returns-in_default-3 c =
    let n = c.args.number in
    sym (lacks_range n ∙ rw (lt-leb n 12 (omega arith), le-leb 6 n (omega arith), lt-leb n 24 (omega arith), le-leb 20 n (omega arith), ne_eqb n 28 (λ e. omega arith)))
