-- `windows::push` meets its contract.
use mathlib.Core.Path.{ap, ◌∙◌}
use Rattle.layout.specs.Windows.{enc_window, dec_window}
use Rattle.layout.proofs.Windows.{window_many}
use Rattle.windows.proofs.Slides.{push_behind, push_full}
use native.Mathlib.Omega.{arith}
use Rattle.windows.proofs.push.Goals as goal

pub returns-then-n-k : goal.returns-then-n-k
returns-then-n-k c = let a = c.args in let ws = dec_window a.w.now in let many = window_many a.w.now in (c.put_window_word.ensures ∙ ap enc_window (push_behind a.k a.n a.v ws many (omega arith) (omega arith) c.if-n-k.true), omega arith)

pub returns : goal.returns
returns c = let a = c.args in let ws = dec_window a.w.now in let many = window_many a.w.now in (c.push_window_word.ensures ∙ ap enc_window (push_full a.k a.n a.v ws many (omega arith) (omega arith) (omega arith)), omega arith)
