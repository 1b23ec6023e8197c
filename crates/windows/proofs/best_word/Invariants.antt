-- `windows::best_word` meets its contract.
use mathlib.Core.Path.{◌≡◌}
use Rattle.layout.specs.Windows.{dec_window}
use Rattle.windows.specs.Window.{heights, best_of}
use Rattle.windows.proofs.best_word.Given as goal

abbrev pub invariant-loop-j : goal.invariant-loop-j
invariant-loop-j l = (best_of l.greater l.best (heights l.j l.n (dec_window l.w)) ≡ best_of l.greater l.b (heights l.i l.n (dec_window l.w)))
