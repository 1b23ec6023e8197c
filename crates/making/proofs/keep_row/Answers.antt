-- `making::keep_row` meets its contract.
use Prim.Native.Nat.{◌+◌, ◌-◌, ◌*◌}
use mathlib.Core.Path.{ap, ◌∙◌}
use Rattle.machine.specs.State.{Kept}
use Rattle.layout.specs.Record.{encode, decode, change}
use Rattle.layout.proofs.Laws.{lent}
use Rattle.streams.specs.Look.{equation, kept_in}
use Rattle.keeping.specs.Keep.{kept_row}
use Rattle.making.specs.Make.{absorbed_raw}
use native.Mathlib.Omega.{arith}
use Rattle.making.proofs.keep_row.Goals as goal

pub returns : goal.returns
unfolding absorbed_raw
returns c = let a = c.args in let n = a.n in let s = a.state.now in let st = decode n s in let e = equation a.op in let i = a.i in let k = i * 256 + 256 - i * 256 in lent n s c.keep.new.r i k (kept_row e (kept_in c.kept-new.result)) (omega arith) (omega arith) (λ j. omega (arith, c.slice_known-1.given j)) (omega arith) c.keep.ensures ∙ ap (λ (x : Kept). encode n (change i (kept_row e x) st)) c.kept-new.ensures
