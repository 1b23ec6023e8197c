-- `making::release_one` meets its contract.
use native.Mathlib.Omega.{arith}
use Rattle.making.proofs.Steps
use Rattle.making.proofs.release_one.Goals as goal

pub returns : goal.returns
returns c = let a = c.args in let n = a.n in let s = a.state.now in Steps.args_one n 0 (omega arith) s (λ j. omega (arith, c.slice_known-1.given j)) a.a c.argument-i.result c.release_row.new.state c.argument-i.ensures.0 c.release_row.ensures
