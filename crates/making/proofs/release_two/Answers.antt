-- `making::release_two` meets its contract.
use native.Mathlib.Omega.{arith}
use Rattle.making.proofs.Steps
use Rattle.making.proofs.release_two.Goals as goal

pub returns : goal.returns
returns c = let a = c.args in let n = a.n in let s = a.state.now in Steps.args_two n 0 (omega arith) s (λ j. omega (arith, c.slice_known-1.given j)) a.a a.b c.release_one.new.state c.release_one-2.new.state c.release_one.ensures c.release_one-2.ensures
