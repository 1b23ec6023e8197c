-- `writing::put_opening` meets its contract.
use Rattle.text.specs.Grammar.{streams_key}
use Rattle.decimal.specs.Decimal.{decimal}
use Rattle.decimal.proofs.Puts.{put_none, put_then, put_length}
use Rattle.render.proofs.Lengths.{line_length, opening_some, opening_length}
use native.Mathlib.Omega.{arith}
use Rattle.writing.proofs.put_opening.Goals as goal

pub returns-then-n-eq0 : goal.returns-then-n-eq0
returns-then-n-eq0 c = rw c.if-n-eq0.true (put_none c.args.out.now 0)

pub put_word-p-requires : goal.put_word-p-requires
put_word-p-requires c = omega (arith, c.requires, opening_length c.args.n (omega arith))

pub put_field-requires : goal.put_field-requires
put_field-requires c = omega (arith, c.requires, opening_length c.args.n (omega arith), line_length streams_key (decimal c.args.n), c.put_word-p.ensures.past, put_length c.put_word-p.ensures)

pub returns : goal.returns
returns c = rw (opening_some c.args.n (omega arith)) (put_then c.put_word-p.ensures c.put_field.ensures)
