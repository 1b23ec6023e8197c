-- What the program prints of a plan text and a trace text is true: every record of a trace is typed, so what is told of a replay
-- holds of every trace.
use Prim.Native.Nat.{ℕ}
use mathlib.Core.Path.{◌≡◌}
use mathlib.Core.List.{List, map}
use Rattle.runs.specs.Seen.{Typed, AllTyped}
use Rattle.trace.specs.declared.Record.{Record}
use Rattle.trace.specs.declared.Record.TheVariants.{Reading, Progress}
use Rattle.std.specs.Prelude.{Some}
use Rattle.trace.specs.Trace.{line}
use Rattle.trace.proofs.Fits.{Fits, line_fits}
use Rattle.replaying.specs.Replay.{call_of}
use Rattle.replaying.specs.Whole.{Lines, none, more, Printed, refused, played}
use Rattle.replaying.specs.Truth.{Truth, not_taken, told}
use Rattle.replaying.proofs.Told.{replay_told}

fits_typed : (r : Record) → Fits r → Typed (call_of r)
fits_typed (Reading i t v) h = h
fits_typed (Progress i y) h = h

pub line_typed : (s : List ℕ) (at : ℕ) (r : Record) (next : ℕ) → line s at ≡ Some (r, next) → Typed (call_of r)
line_typed s at r next e = fits_typed r (line_fits s at r next e)

pub lines_typed : {trace : List ℕ} {rs : List Record} {rest : List ℕ} → Lines trace rs rest → AllTyped (map call_of rs)
lines_typed none = tt
lines_typed (more {trace} {r} {next} e l) = (line_typed trace 0 r next e, lines_typed l)

pub replay_true : {plan trace s w t : List ℕ} → Printed plan trace s w t → Truth plan trace s w
replay_true (refused e) = not_taken e
replay_true {plan} {s = s} (played {rs} {w = w} {t = t} e l x m) = told e l (replay_told plan s e rs (lines_typed l) w t x) m
