-- `layout::put_window_word` meets its contract.
use mathlib.Core.Path.{◌∙◌}
use Rattle.layout.proofs.Windows.{word_put}
use native.Mathlib.Omega.{arith}
use Rattle.layout.proofs.put_window_word.Goals as goal

pub returns : goal.returns
returns c = c.put.ensures ∙ word_put c.args.w.now c.args.j c.args.v (omega arith) (λ i. omega (arith, c.slice_known-1.given i)) (omega arith)
