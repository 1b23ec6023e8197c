-- `block::with_flags` meets its contract.
use Rattle.block.proofs.Flags.{flags_are, weight_most}
use native.Mathlib.Omega.{arith}
use Rattle.block.proofs.with_flags.Goals as goal

pub overflow_add-result : goal.overflow_add-result
overflow_add-result c = omega (arith, weight_most c.args.one 2, weight_most c.args.zero 1)

pub overflow_add-result-2 : goal.overflow_add-result-2
overflow_add-result-2 c = omega (arith, weight_most c.args.one 2, weight_most c.args.zero 1)

pub returns : goal.returns
returns c = let a = c.args in flags_are a.f c.weight.result c.weight-2.result a.zero a.one c.weight.ensures c.weight-2.ensures
