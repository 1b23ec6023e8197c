-- `writing::put_k` meets its contract.
use mir.Syntax.{w64}
use mir.Val.{to_z}
use Rattle.lines.specs.Form.{value_key}
use Rattle.decimal.specs.Decimal.{value_text}
use Rattle.decimal.proofs.Puts.{put_then, put_length}
use Rattle.render.proofs.Lengths.{line_length}
use native.Mathlib.Omega.{arith}
use Rattle.writing.proofs.put_k.Goals as goal

pub put_word-p-requires : goal.put_word-p-requires
put_word-p-requires c = omega (arith, c.requires, line_length value_key (value_text (to_z w64 c.args.k)))

pub put_bits-q-requires : goal.put_bits-q-requires
put_bits-q-requires c = omega (arith, c.requires, line_length value_key (value_text (to_z w64 c.args.k)), c.put_word-p.ensures.past, put_length c.put_word-p.ensures)

pub put_byte-requires : goal.put_byte-requires
put_byte-requires c = omega (arith, c.requires, line_length value_key (value_text (to_z w64 c.args.k)), c.put_word-p.ensures.past, put_length c.put_word-p.ensures, c.put_bits-q.ensures.past, put_length c.put_bits-q.ensures)

pub returns : goal.returns
returns c = put_then c.put_word-p.ensures (put_then c.put_bits-q.ensures c.put_byte.ensures)
