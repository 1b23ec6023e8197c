-- `windows::sum_words` meets its contract.
use Rattle.windows.proofs.Sums.{Summed}
use Rattle.layout.specs.Windows.{dec_window}
use Rattle.windows.proofs.sum_words.Given as goal

abbrev pub invariant-loop-j : goal.invariant-loop-j
invariant-loop-j l = Summed (dec_window l.w) l.i l.j l.n l.initial.h l.h
