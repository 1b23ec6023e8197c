use Prim.Native.Nat.{◌+◌, ◌-◌, ◌*◌}
use mathlib.Core.Path.{sym, ap, ◌∙◌}
use Rattle.layout.specs.Record.{encode, decode}
use Rattle.layout.proofs.Laws.{record_row, lent}
use Rattle.readers.specs.Step.{waiting_row}
use Rattle.queue.specs.Queue.{released}
use native.Mathlib.Omega.{arith}
use Rattle.readers.proofs.Rounds
use Rattle.readers.proofs.States
use Rattle.readers.proofs.release_below.Goals as goal

pub returns : goal.returns
returns c = let a = c.args in let s = a.state.now in let i = a.i in let row = record_row a.n s c.row_at.result.now i (omega arith) c.row_at.ensures.0 in let w = c.waiting-w.result in let least = c.least_reader-least.result in lent a.n s c.drop_below.new.r i (i * 256 + 256 - i * 256) (released w) (omega arith) (omega arith) (λ j. omega (arith, c.slice_known-1.given j)) (omega arith) c.drop_below.ensures ∙ ap (encode a.n) (sym (Rounds.release_row_is i w least (decode a.n s) (c.least_reader-least.ensures ∙ sym (States.least_state i a.n s)) (c.waiting-w.ensures ∙ ap (waiting_row least) row)))
