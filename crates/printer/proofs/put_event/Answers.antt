-- `printer::put_event` meets its contract.
-- `printer::put_event` meets its contract.
use mir.Facts.{to_z-of_z}
use Rattle.printer.specs.Print.{event_text}
use Rattle.decimal.specs.Decimal.{most_digits}
use Rattle.decimal.proofs.Puts.{put_then, put_length, digits_most, value_most}
use native.Mathlib.Omega.{arith}
use Rattle.printer.proofs.put_event.Goals as goal

pub put_number-b-requires : goal.put_number-b-requires
put_number-b-requires c = omega (arith, c.put_word-a.ensures.past, put_length c.put_word-a.ensures, digits_most most_digits c.args.stream)

pub put_word-c-requires : goal.put_word-c-requires
put_word-c-requires c = omega (arith, c.put_word-a.ensures.past, put_length c.put_word-a.ensures, c.put_number-b.ensures.past, put_length c.put_number-b.ensures, digits_most most_digits c.args.stream)

pub put_number-d-requires : goal.put_number-d-requires
put_number-d-requires c = omega (arith, c.put_word-a.ensures.past, put_length c.put_word-a.ensures, c.put_number-b.ensures.past, put_length c.put_number-b.ensures, c.put_word-c.ensures.past, put_length c.put_word-c.ensures, digits_most most_digits c.args.stream, digits_most most_digits c.args.stamp)

pub put_word-e-requires : goal.put_word-e-requires
put_word-e-requires c = omega (arith, c.put_word-a.ensures.past, put_length c.put_word-a.ensures, c.put_number-b.ensures.past, put_length c.put_number-b.ensures, c.put_word-c.ensures.past, put_length c.put_word-c.ensures, c.put_number-d.ensures.past, put_length c.put_number-d.ensures, digits_most most_digits c.args.stream, digits_most most_digits c.args.stamp)

pub put_value-f-requires : goal.put_value-f-requires
put_value-f-requires c = rw (to_z-of_z c.ranges.value) (omega (arith, c.put_word-a.ensures.past, put_length c.put_word-a.ensures, c.put_number-b.ensures.past, put_length c.put_number-b.ensures, c.put_word-c.ensures.past, put_length c.put_word-c.ensures, c.put_number-d.ensures.past, put_length c.put_number-d.ensures, c.put_word-e.ensures.past, put_length c.put_word-e.ensures, digits_most most_digits c.args.stream, digits_most most_digits c.args.stamp, value_most c.args.value))

pub put_byte-requires : goal.put_byte-requires
put_byte-requires c = let v = rw (to_z-of_z c.ranges.value) at c.put_value-f.ensures in omega (arith, c.put_word-a.ensures.past, put_length c.put_word-a.ensures, c.put_number-b.ensures.past, put_length c.put_number-b.ensures, c.put_word-c.ensures.past, put_length c.put_word-c.ensures, c.put_number-d.ensures.past, put_length c.put_number-d.ensures, c.put_word-e.ensures.past, put_length c.put_word-e.ensures, v.past, put_length v, digits_most most_digits c.args.stream, digits_most most_digits c.args.stamp, value_most c.args.value)

pub returns : goal.returns
unfolding event_text
returns c = let v = rw (to_z-of_z c.ranges.value) at c.put_value-f.ensures in put_then c.put_word-a.ensures (put_then c.put_number-b.ensures (put_then c.put_word-c.ensures (put_then c.put_number-d.ensures (put_then c.put_word-e.ensures (put_then v c.put_byte.ensures)))))
