-- How long the printed lines are.
use Prim.Native.Nat.{ℕ, ◌≤◌}
use native.Mathlib.Omega.{arith}
use lib.IntN.{ℤ}
use lib.ListN.{length, length-append}
use Rattle.decimal.specs.Decimal.{decimal, most_digits, value_text}
use Rattle.decimal.proofs.Puts.{digits_most, value_most}
use Rattle.printer.specs.Print.{event_text, event_room, refused_text, refused_room}

pub event_most : (i t : ℕ) (v : ℤ) → length (event_text i t v) ≤ event_room
unfolding event_text
event_most i t v =
    rw (length-append (decimal i), length-append (decimal t), length-append (value_text v))
    (omega (arith, digits_most most_digits i, digits_most most_digits t, value_most v))

pub refused_most : (n : ℕ) → length (refused_text n) ≤ refused_room
unfolding refused_text
refused_most n = rw (length-append (decimal n)) (omega (arith, digits_most most_digits n))
