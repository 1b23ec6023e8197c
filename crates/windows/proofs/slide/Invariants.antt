-- `windows::slide` meets its contract.
use mathlib.Core.List.{◌++◌, map}
use lib.ListN.{take}
use mir.Syntax.{w64}
use mir.Val.{to_z}
use Rattle.meaning.specs.Table.{latest_of}
use Rattle.windows.specs.Window.{kept}
use Rattle.windows.proofs.Slides.{Slides}
use Rattle.windows.proofs.slide.Given as goal

abbrev pub invariant-loop-i : goal.invariant-loop-i
invariant-loop-i l = Slides l.k l.c l.initial.w l.v (latest_of l.k (kept l.n l.initial.w ++ map (to_z w64) (take l.c l.v))) l.i l.m l.w
