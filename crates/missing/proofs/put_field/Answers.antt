-- `missing::put_field` meets its contract.
use Rattle.decimal.proofs.Puts.{put_then, put_length}
use Rattle.missing.specs.Listing.{field}
use Rattle.missing.proofs.Lines.{field_length}
use native.Mathlib.Omega.{arith}
use Rattle.missing.proofs.put_field.Goals as goal

pub put_word-a-requires : goal.put_word-a-requires
put_word-a-requires c = omega (arith, field_length c.args.key.now c.args.n)

pub put_number-requires : goal.put_number-requires
put_number-requires c = omega (arith, field_length c.args.key.now c.args.n, c.put_word-a.ensures.past, put_length c.put_word-a.ensures)

pub returns : goal.returns
unfolding field
returns c = put_then c.put_word-a.ensures c.put_number.ensures
