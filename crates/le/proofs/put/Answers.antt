use mathlib.Core.Path.{◌∙◌}
use native.Mathlib.Omega.{arith}
use Rattle.le.proofs.Laws.{put_turn, put_done}
use lib.ListN.{length-set}
use Rattle.le.proofs.put.Goals as goal

pub loop-i-preserved : goal.loop-i-preserved
loop-i-preserved c = (omega arith, simp length-set (omega arith), put_turn _ _ _ _ _ c.loop-i-test.true ∙ c.loop-i.invariant.2)

pub returns : goal.returns
returns c = put_done _ _ _ _ _ (omega arith) c.loop-i.invariant.2
