-- `windows::sum_slots` meets its contract.
use Rattle.windows.proofs.Sums.{Summed}
use Rattle.layout.specs.Record.{dec_raw}
use Rattle.windows.specs.Window.{slot_words}
use Rattle.windows.proofs.sum_slots.Given as goal

abbrev pub invariant-loop-j : goal.invariant-loop-j
invariant-loop-j l = Summed (slot_words (dec_raw l.a)) l.i l.j l.n l.initial.s l.s
