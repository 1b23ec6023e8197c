-- `making::move_silent` meets its contract.
use Rattle.layout.specs.Record.{decode}
use Rattle.streams.specs.Look.{equation, kept_in}
use native.Mathlib.Omega.{arith}
use Rattle.making.proofs.Steps
use Rattle.making.proofs.move_silent.Goals as goal

pub returns : goal.returns
returns c = let a = c.args in let n = a.n in let s = a.state.now in let st = decode n s in let e = equation a.op in Steps.silent_is n a.i (omega arith) s (λ j. omega (arith, c.slice_known-1.given j)) e (kept_in a.k) c.requires.3 a.y c.progress.new.state c.absorb_row.new.state c.release_all.new.state (omega arith) c.progress.ensures c.absorb_row.ensures c.release_all.ensures
