-- `layout::window_word` meets its contract.
use mathlib.Core.Path.{sym, ◌∙◌}
use Rattle.layout.proofs.Windows.{word_get}
use native.Mathlib.Omega.{arith}
use Rattle.layout.proofs.window_word.Goals as goal

pub returns : goal.returns
returns c = c.get.ensures.0 ∙ sym (word_get c.args.w.now c.args.j (omega arith))
