-- `playing::say_line` meets its contract.
use mathlib.Core.Path.{sym}
use lib.Seq.{length-take-le}
use Rattle.decimal.proofs.Puts.{put_length, digits_most}
use native.Mathlib.Omega.{arith}
use Rattle.playing.proofs.say_line.Goals as goal

pub put_number-b-requires : goal.put_number-b-requires
put_number-b-requires g c = omega (arith, c.put_word-a.ensures.past, put_length c.put_word-a.ensures, digits_most 19 c.args.line)

pub put_byte-end-requires : goal.put_byte-end-requires
put_byte-end-requires g c = omega (arith, c.put_word-a.ensures.past, put_length c.put_word-a.ensures, c.put_number-b.ensures.past, put_length c.put_number-b.ensures, digits_most 19 c.args.line)

pub slice_bounds-words-end : goal.slice_bounds-words-end
slice_bounds-words-end g c = omega (arith, c.put_word-a.ensures.past, put_length c.put_word-a.ensures, c.put_number-b.ensures.past, put_length c.put_number-b.ensures, digits_most 19 c.args.line, c.put_byte-end.ensures.past, put_length c.put_byte-end.ensures)

pub slice_bounds-say-end : goal.slice_bounds-say-end
slice_bounds-say-end g c = sym (length-take-le c.put_byte-end.result c.put_byte-end.new.out (omega (arith, c.put_word-a.ensures.past, put_length c.put_word-a.ensures, c.put_number-b.ensures.past, put_length c.put_number-b.ensures, digits_most 19 c.args.line, c.put_byte-end.ensures.past, put_length c.put_byte-end.ensures)))
