use Prim.Native.Nat.{◌+◌, ◌-◌, ◌*◌}
use Rattle.layout.proofs.Laws.{record_part}
use native.Mathlib.Omega.{arith}
use Rattle.layout.proofs.row_at.Goals as goal

pub returns : goal.returns
returns c = let a = c.args in record_part a.state.now a.i (a.i * 256 + 256 - a.i * 256) (omega arith) (omega arith)
