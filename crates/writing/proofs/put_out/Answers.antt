-- `writing::put_out` meets its contract.
use lib.Dec.{eqb}
use borrow.Author.Tests.{eq-eqb, ne_eqb}
use Rattle.lines.specs.Form.{out_key}
use Rattle.render.specs.Render.{bit_text}
use Rattle.render.proofs.Lengths.{line_length, bit_length}
use native.Mathlib.Omega.{arith}
use Rattle.writing.proofs.put_out.Goals as goal

pub put_word-requires : goal.put_word-requires
put_word-requires c = omega (arith, c.requires, line_length out_key (bit_text (eqb c.args.bit 1)), bit_length (eqb c.args.bit 1))

pub returns-then-bit-eq1 : goal.returns-then-bit-eq1
returns-then-bit-eq1 c = rw (eq-eqb c.args.bit 1 c.if-bit-eq1.true) c.put_word.ensures

pub put_word-requires-2 : goal.put_word-requires-2
put_word-requires-2 c = omega (arith, c.requires, line_length out_key (bit_text (eqb c.args.bit 1)), bit_length (eqb c.args.bit 1))

pub returns : goal.returns
returns c = rw (ne_eqb c.args.bit 1 c.if-bit-eq1.false) c.put_word-2.ensures
