-- `num::below_zero` meets its contract.
use Rattle.num.proofs.Division.{lowered_zero, lowered_same, lowered_other}
use Rattle.num.proofs.below_zero.Goals as goal

pub returns-then-m-eq0 : goal.returns-then-m-eq0
returns-then-m-eq0 c = let x = c.args in lowered_zero x.s x.t x.m c.if-m-eq0.true

pub returns-then-s-t : goal.returns-then-s-t
returns-then-s-t c = let x = c.args in lowered_same x.s x.t x.m c.if-s-t.true

pub returns : goal.returns
returns c = let x = c.args in lowered_other x.s x.t x.m c.if-m-eq0.false c.if-s-t.false
