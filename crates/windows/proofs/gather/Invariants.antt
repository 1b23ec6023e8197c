-- `windows::gather` meets its contract.
use Prim.Native.Nat.{◌-◌}
use Rattle.meaning.specs.Table.{values}
use Rattle.machine.specs.Step.{drop_below}
use Rattle.machine.specs.Windows.{take_below}
use Rattle.layout.specs.Record.{dec_raw}
use Rattle.encoding.specs.Back.{held_of}
use Rattle.windows.proofs.Slides.{Gathers}
use Rattle.windows.proofs.gather.Given as goal

abbrev pub invariant-loop-i : goal.invariant-loop-i
invariant-loop-i l = Gathers l.x l.count (dec_raw l.a).slots (values (take_below l.x (drop_below l.y (held_of (dec_raw l.a))))) (l.i - l.first) l.i l.v
