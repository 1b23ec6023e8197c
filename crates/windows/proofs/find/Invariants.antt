-- `windows::find` meets its contract.
use mathlib.Core.Path.{◌≡◌}
use Rattle.machine.specs.Step.{drop_below}
use Rattle.machine.specs.Windows.{first_fit}
use Rattle.layout.specs.Record.{dec_raw}
use Rattle.encoding.specs.Back.{held_of}
use Rattle.apply.specs.Named.{folding}
use Rattle.windows.specs.Window.{kept}
use Rattle.windows.proofs.Fits.{events_in, grown}
use Rattle.windows.proofs.find.Given as goal

abbrev pub invariant-loop-i : goal.invariant-loop-i
invariant-loop-i l = first_fit (folding l.f) l.k l.hi (grown l.first l.i (kept l.n l.w) (dec_raw l.a)) (events_in l.i l.count (dec_raw l.a).slots) ≡ first_fit (folding l.f) l.k l.hi (kept l.n l.w) (drop_below l.y (held_of (dec_raw l.a)))
