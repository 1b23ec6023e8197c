-- `writing::put_stream` meets its contract.
use Rattle.layout.specs.Record.{dec_raw}
use Rattle.render.specs.Render.{stream_text}
use Rattle.decimal.proofs.Puts.{put_then, put_length}
use Rattle.writing.specs.Rows.{row_text}
use Rattle.writing.proofs.Turns.{row_lines}
use native.Mathlib.Omega.{arith}
use Rattle.writing.proofs.put_stream.Goals as goal

pub put_op-p-requires : goal.put_op-p-requires
put_op-p-requires c = rw c.byte_at.ensures.0 (omega (arith, c.requires.1, row_lines (dec_raw c.args.row.now)))

pub put_field-q-requires : goal.put_field-q-requires
put_field-q-requires c = let o = rw c.byte_at.ensures.0 at c.put_op-p.ensures in rw c.byte_at-2.ensures.0 (omega (arith, c.requires.1, row_lines (dec_raw c.args.row.now), o.past, put_length o))

pub put_field-r-requires : goal.put_field-r-requires
put_field-r-requires c = let o = rw c.byte_at.ensures.0 at c.put_op-p.ensures in let x = rw c.byte_at-2.ensures.0 at c.put_field-q.ensures in rw c.byte_at-3.ensures.0 (omega (arith, c.requires.1, row_lines (dec_raw c.args.row.now), o.past, put_length o, x.past, put_length x))

pub put_k-t-requires : goal.put_k-t-requires
put_k-t-requires c = let o = rw c.byte_at.ensures.0 at c.put_op-p.ensures in let x = rw c.byte_at-2.ensures.0 at c.put_field-q.ensures in let y = rw c.byte_at-3.ensures.0 at c.put_field-r.ensures in rw c.word_at.ensures (omega (arith, c.requires.1, row_lines (dec_raw c.args.row.now), o.past, put_length o, x.past, put_length x, y.past, put_length y))

pub put_out-requires : goal.put_out-requires
put_out-requires c = let o = rw c.byte_at.ensures.0 at c.put_op-p.ensures in let x = rw c.byte_at-2.ensures.0 at c.put_field-q.ensures in let y = rw c.byte_at-3.ensures.0 at c.put_field-r.ensures in let v = rw c.word_at.ensures at c.put_k-t.ensures in rw c.byte_at-4.ensures.0 (omega (arith, c.requires.1, row_lines (dec_raw c.args.row.now), o.past, put_length o, x.past, put_length x, y.past, put_length y, v.past, put_length v))

pub returns : goal.returns
unfolding row_text stream_text
returns c = let o = rw c.byte_at.ensures.0 at c.put_op-p.ensures in let x = rw c.byte_at-2.ensures.0 at c.put_field-q.ensures in let y = rw c.byte_at-3.ensures.0 at c.put_field-r.ensures in let v = rw c.word_at.ensures at c.put_k-t.ensures in put_then o (put_then x (put_then y (put_then v (rw c.byte_at-4.ensures.0 at c.put_out.ensures))))
