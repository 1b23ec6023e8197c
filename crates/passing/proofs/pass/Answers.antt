-- `passing::pass` meets its contract.
use Rattle.streams.specs.Look.{equation, kept_in}
use native.Mathlib.Omega.{arith}
use Rattle.passing.proofs.Steps
use Rattle.passing.proofs.pass.Goals as goal

pub returns : goal.returns
returns c = Steps.passed_is c.args.n c.args.i (omega arith) (equation c.args.op) (kept_in c.args.k) c.args.y c.args.x c.args.z c.args.state.now c.count.new.state c.slide.new.state (λ j. omega (arith, c.slice_known-1.given j)) c.count.ensures c.slide.ensures
