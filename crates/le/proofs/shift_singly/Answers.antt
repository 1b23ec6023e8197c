use mathlib.Core.Path.{◌∙◌}
use native.Mathlib.Omega.{arith}
use lib.ListN.{length-set}
use Rattle.le.proofs.Laws.{shift_turn}
use Rattle.le.proofs.shift_singly.Goals as goal

pub loop-moved-preserved : goal.loop-moved-preserved
loop-moved-preserved c =
    let l = c in
    let a = l.args in
    (omega arith, simp length-set l.loop-moved.invariant.1, shift_turn l.loop-moved.s a.at a.by l.loop-moved.moved a.n (omega arith) (omega arith) ∙ l.loop-moved.invariant.2)
