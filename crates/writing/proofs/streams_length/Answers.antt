-- `writing::streams_length` meets its contract.
use Prim.Native.Nat.{ℕ}
use mathlib.Core.Path.{ap}
use lib.ListN.{length}
use Rattle.writing.proofs.Turns.{rest_few, rest_length, rest_none}
use native.Mathlib.Omega.{arith}
use Rattle.writing.proofs.streams_length.Goals as goal

pub loop-i-init : goal.loop-i-init
loop-i-init c = omega arith

pub row_at-requires : goal.row_at-requires
row_at-requires c = omega arith

pub stream_length-sum-requires : goal.stream_length-sum-requires
stream_length-sum-requires c = c.row_at.ensures.1

pub overflow_add-sum : goal.overflow_add-sum
overflow_add-sum c = omega (arith, c.loop-i.invariant, c.stream_length-sum.ensures, rest_length c.args.n c.args.state.now c.loop-i.i _ (omega arith) c.row_at.ensures.0, rest_few c.args.n c.args.state.now)

pub loop-i-preserved : goal.loop-i-preserved
loop-i-preserved c = omega (arith, c.loop-i.invariant, c.stream_length-sum.ensures, rest_length c.args.n c.args.state.now c.loop-i.i _ (omega arith) c.row_at.ensures.0)

pub returns : goal.returns
returns c = omega (arith, c.loop-i.invariant, ap (length {A = ℕ}) (rest_none c.args.n c.args.state.now c.loop-i.i (omega arith)))
