-- `moves::bound_of` meets its contract.
use Prim.Native.Nat.{ℕ}
use mathlib.Core.Path.{ap, ◌∙◌}
use Rattle.layout.specs.Record.{decode, num, row_at, bound_f}
use Rattle.layout.proofs.Laws.{record_row}
use native.Mathlib.Omega.{arith}
use Rattle.moves.proofs.bound_of.Goals as goal

pub returns : goal.returns
returns c = let a = c.args in let s = a.state.now in let j = c.argument-i.result in c.word_at.ensures ∙ ap (num bound_f) (record_row a.n s c.row_at.result.now j (omega arith) c.row_at.ensures.0) ∙ ap (λ (m : ℕ). num bound_f (row_at (decode a.n s) m)) c.argument-i.ensures.0
