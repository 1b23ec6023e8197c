-- `printer::put_refused` meets its contract.
-- `printer::put_refused` meets its contract.
use Rattle.printer.specs.Print.{refused_text}
use Rattle.decimal.specs.Decimal.{most_digits}
use Rattle.decimal.proofs.Puts.{put_then, put_length, digits_most}
use native.Mathlib.Omega.{arith}
use Rattle.printer.proofs.put_refused.Goals as goal

pub put_number-b-requires : goal.put_number-b-requires
put_number-b-requires c = omega (arith, c.put_word-a.ensures.past, put_length c.put_word-a.ensures, digits_most most_digits c.args.number)

pub put_byte-requires : goal.put_byte-requires
put_byte-requires c = omega (arith, c.put_word-a.ensures.past, put_length c.put_word-a.ensures, c.put_number-b.ensures.past, put_length c.put_number-b.ensures, digits_most most_digits c.args.number)

pub returns : goal.returns
unfolding refused_text
returns c = put_then c.put_word-a.ensures (put_then c.put_number-b.ensures c.put_byte.ensures)
