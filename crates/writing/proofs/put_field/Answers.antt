-- `writing::put_field` meets its contract.
use Rattle.decimal.specs.Decimal.{decimal}
use Rattle.decimal.proofs.Puts.{put_then, put_length}
use Rattle.render.proofs.Lengths.{line_length}
use native.Mathlib.Omega.{arith}
use Rattle.writing.proofs.put_field.Goals as goal

pub put_word-p-requires : goal.put_word-p-requires
put_word-p-requires c = omega (arith, c.requires, line_length c.args.key.now (decimal c.args.n))

pub put_number-q-requires : goal.put_number-q-requires
put_number-q-requires c = omega (arith, c.requires, line_length c.args.key.now (decimal c.args.n), c.put_word-p.ensures.past, put_length c.put_word-p.ensures)

pub put_byte-requires : goal.put_byte-requires
put_byte-requires c = omega (arith, c.requires, line_length c.args.key.now (decimal c.args.n), c.put_word-p.ensures.past, put_length c.put_word-p.ensures, c.put_number-q.ensures.past, put_length c.put_number-q.ensures)

pub returns : goal.returns
returns c = put_then c.put_word-p.ensures (put_then c.put_number-q.ensures c.put_byte.ensures)
