-- `replaying::is_output` meets its contract.
use Prim.Native.Nat.{ℕ}
use mathlib.Core.Path.{ap, ◌∙◌}
use mathlib.Core.Bool.{not}
use mathlib.Core.List.{List}
use lib.Dec.{eqb}
use Rattle.layout.specs.Record.{num, out_f, dec_raw}
use Rattle.replaying.proofs.is_output.Goals as goal

pub returns : goal.returns
returns c = ap (λ (x : ℕ). not (eqb x 0)) (c.byte_at.ensures.0 ∙ ap (λ (l : List ℕ). num out_f (dec_raw l)) c.row_at.ensures.0)
