-- `writing::put_op` meets its contract.
use Rattle.operators.specs.Operators.{name_of}
use Rattle.text.specs.Grammar.{op_key}
use Rattle.decimal.proofs.Puts.{put_then, put_length}
use Rattle.render.proofs.Lengths.{line_length}
use native.Mathlib.Omega.{arith}
use Rattle.writing.proofs.put_op.Goals as goal

pub put_word-p-requires : goal.put_word-p-requires
put_word-p-requires c = omega (arith, c.requires, line_length op_key (name_of c.args.op))

pub put_name-q-requires : goal.put_name-q-requires
put_name-q-requires c = omega (arith, c.requires, line_length op_key (name_of c.args.op), c.put_word-p.ensures.past, put_length c.put_word-p.ensures)

pub put_byte-requires : goal.put_byte-requires
put_byte-requires c = omega (arith, c.requires, line_length op_key (name_of c.args.op), c.put_word-p.ensures.past, put_length c.put_word-p.ensures, c.put_name-q.ensures.past, put_length c.put_name-q.ensures)

pub returns : goal.returns
returns c = put_then c.put_word-p.ensures (put_then c.put_name-q.ensures c.put_byte.ensures)
