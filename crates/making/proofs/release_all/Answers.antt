-- `making::release_all` meets its contract.
use Rattle.streams.specs.Look.{equation}
use native.Mathlib.Omega.{arith}
use Rattle.making.proofs.Steps
use Rattle.making.proofs.release_all.Goals as goal

pub returns : goal.returns
returns c = let a = c.args in let n = a.n in let s = a.state.now in Steps.all_is n a.i (omega arith) s (λ j. omega (arith, c.slice_known-1.given j)) (equation a.op) c.release_row.new.state c.release_args.new.state c.release_row.ensures c.release_args.ensures
