use mathlib.Core.Path.{◌∙◌}
use lib.Dec.{lit≤}
use native.Mathlib.Omega.{arith}
use Rattle.readers.proofs.Rounds
use Rattle.readers.proofs.States
use Rattle.readers.proofs.least_reader.Goals as goal

pub loop-i-init : goal.loop-i-init
loop-i-init c = let a = c.args in Rounds.down_start a.s a.n a.last a.state.now c.requires.1

pub loop-i-preserved : goal.loop-i-preserved
loop-i-preserved c = let a = c.args in let l = c.loop-i in Rounds.down_turn a.s a.n l.least c.min-least.result c.word_at-bound.result l.i c.last_reader-i.result a.state.now c.row_at.result.now l.invariant (omega arith) c.row_at.ensures.0 c.word_at-bound.ensures c.min-least.ensures c.last_reader-i.ensures.0

pub returns : goal.returns
returns c = let a = c.args in let l = c.loop-i in Rounds.down_end a.s a.n l.least l.i a.state.now l.invariant (omega arith) ∙ States.least_state a.s a.n a.state.now
