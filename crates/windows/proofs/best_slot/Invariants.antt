-- `windows::best_slot` meets its contract.
use mathlib.Core.Path.{◌≡◌}
use Rattle.layout.specs.Record.{dec_raw}
use Rattle.windows.specs.Window.{slot_words, heights, best_of}
use Rattle.windows.proofs.best_slot.Given as goal

abbrev pub invariant-loop-j : goal.invariant-loop-j
invariant-loop-j l = (best_of l.greater l.best (heights l.j l.n (slot_words (dec_raw l.a))) ≡ best_of l.greater l.b (heights l.i l.n (slot_words (dec_raw l.a))))
