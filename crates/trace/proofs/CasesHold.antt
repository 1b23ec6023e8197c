-- Each line of the table reads what the table says: one proof for all rows, by computing.
use mathlib.Core.Path.{◌≡◌, refl}
use mathlib.Core.List.{map}
use Rattle.lines.specs.Form.{skip, scan, whole, signed}
use Rattle.trace.specs.Trace.{value_after, stamp_after, bound_after, input_after, line}
use Rattle.trace.specs.Cases.{bytes, cases}

pub cases_hold : map (λ c. line (bytes c.text) 0) cases ≡ map (λ c. c.reads) cases
unfolding line input_after stamp_after bound_after value_after signed whole scan skip
cases_hold = refl
