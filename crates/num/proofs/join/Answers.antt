use mathlib.Core.Path.{sym}
use Rattle.num.proofs.Arith.{join_zero, join_neg, join_pos, join_none, too_big}
use Rattle.num.proofs.join.Goals as goal

pub returns-then-mag-eq0 : goal.returns-then-mag-eq0
returns-then-mag-eq0 c = join_zero c.args.neg _ c.if-mag-eq0.true

pub returns-then-mag-le-HALF : goal.returns-then-mag-le-HALF
returns-then-mag-le-HALF c = join_neg _ _ _ c.if-neg.true c.if-mag-eq0.false c.if-mag-le-HALF.true c.of_bits.ensures

pub returns-else-mag-le-HALF : goal.returns-else-mag-le-HALF
returns-else-mag-le-HALF c = sym (too_big c.args.neg _ c.if-mag-le-HALF.false)

pub returns-then-mag-lt-HALF : goal.returns-then-mag-lt-HALF
returns-then-mag-lt-HALF c = join_pos _ _ _ c.if-neg.false c.if-mag-lt-HALF.true c.of_bits-then-mag-lt-HALF.ensures

pub returns-else-mag-lt-HALF : goal.returns-else-mag-lt-HALF
returns-else-mag-lt-HALF c = sym (join_none _ _ c.if-neg.false c.if-mag-lt-HALF.false)
