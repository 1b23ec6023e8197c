-- `writing::stream_length` meets its contract.
use mir.Syntax.{w64}
use mir.Val.{to_z}
use Rattle.layout.specs.Record.{dec_raw}
use Rattle.decimal.specs.Decimal.{most_digits}
use Rattle.decimal.proofs.Puts.{digits_most, value_most}
use Rattle.names.proofs.Spelled.{name_few}
use Rattle.writing.proofs.Turns.{row_length}
use native.Mathlib.Omega.{arith}
use Rattle.writing.proofs.stream_length.Goals as goal

pub overflow_add-result : goal.overflow_add-result
overflow_add-result c = omega (arith, c.name_length-op.ensures, c.number_length-a.ensures, c.number_length-b.ensures, c.bits_length-k.ensures, name_few c.byte_at.result, digits_most most_digits c.byte_at-2.result, digits_most most_digits c.byte_at-3.result, value_most (to_z w64 c.word_at.result))

pub overflow_add-result-2 : goal.overflow_add-result-2
overflow_add-result-2 c = omega (arith, c.name_length-op.ensures, c.number_length-a.ensures, c.number_length-b.ensures, c.bits_length-k.ensures, name_few c.byte_at.result, digits_most most_digits c.byte_at-2.result, digits_most most_digits c.byte_at-3.result, value_most (to_z w64 c.word_at.result))

pub overflow_add-result-3 : goal.overflow_add-result-3
overflow_add-result-3 c = omega (arith, c.name_length-op.ensures, c.number_length-a.ensures, c.number_length-b.ensures, c.bits_length-k.ensures, name_few c.byte_at.result, digits_most most_digits c.byte_at-2.result, digits_most most_digits c.byte_at-3.result, value_most (to_z w64 c.word_at.result))

pub overflow_add-result-4 : goal.overflow_add-result-4
overflow_add-result-4 c = omega (arith, c.name_length-op.ensures, c.number_length-a.ensures, c.number_length-b.ensures, c.bits_length-k.ensures, name_few c.byte_at.result, digits_most most_digits c.byte_at-2.result, digits_most most_digits c.byte_at-3.result, value_most (to_z w64 c.word_at.result))

pub returns : goal.returns
returns c = let o = rw c.byte_at.ensures.0 at c.name_length-op.ensures in let x = rw c.byte_at-2.ensures.0 at c.number_length-a.ensures in let y = rw c.byte_at-3.ensures.0 at c.number_length-b.ensures in let v = rw c.word_at.ensures at c.bits_length-k.ensures in omega (arith, row_length (dec_raw c.args.row.now), o, x, y, v)
