-- `missing::put_counts` meets its contract.
use Rattle.decimal.proofs.Puts.{put_then, put_length}
use Rattle.printer.specs.Print.{stream_key}
use Rattle.missing.specs.Listing.{counts_text, outside_key, zero_key}
use Rattle.missing.proofs.Lines.{field_most}
use native.Mathlib.Omega.{arith}
use Rattle.missing.proofs.put_counts.Goals as goal

pub put_field-a-requires : goal.put_field-a-requires
put_field-a-requires c = omega (arith, field_most stream_key c.args.stream)

pub put_field-b-requires : goal.put_field-b-requires
put_field-b-requires c = omega (arith, field_most stream_key c.args.stream, field_most outside_key c.args.outside, c.put_field-a.ensures.past, put_length c.put_field-a.ensures)

pub put_field-c-requires : goal.put_field-c-requires
put_field-c-requires c = omega (arith, field_most stream_key c.args.stream, field_most outside_key c.args.outside, field_most zero_key c.args.zero, c.put_field-a.ensures.past, put_length c.put_field-a.ensures, c.put_field-b.ensures.past, put_length c.put_field-b.ensures)

pub put_byte-requires : goal.put_byte-requires
put_byte-requires c = omega (arith, field_most stream_key c.args.stream, field_most outside_key c.args.outside, field_most zero_key c.args.zero, c.put_field-a.ensures.past, put_length c.put_field-a.ensures, c.put_field-b.ensures.past, put_length c.put_field-b.ensures, c.put_field-c.ensures.past, put_length c.put_field-c.ensures)

pub returns : goal.returns
unfolding counts_text
returns c = put_then c.put_field-a.ensures (put_then c.put_field-b.ensures (put_then c.put_field-c.ensures c.put_byte.ensures))
