-- Each case prints what the table says: one proof for all rows, by computing.
use mathlib.Core.Path.{◌≡◌, refl}
use mathlib.Core.List.{map}
use Rattle.decimal.specs.Decimal.{digits}
use Rattle.trace.specs.Cases.{bytes}
use Rattle.printer.specs.Print.{event_text, refused_text}
use Rattle.replaying.specs.Cases.{cases}

pub cases_hold : map (λ c. c.printed) cases ≡ map (λ c. bytes c.text) cases
unfolding event_text refused_text digits
cases_hold = refl
