-- `decimal::put_number` meets its contract.
use mathlib.Core.Path.{refl}
use Rattle.decimal.proofs.Puts.{digits_put}
use Rattle.decimal.proofs.put_number.Goals as goal

pub returns : goal.returns
returns c = digits_put _ _ c.args.at _ c.args.n c.number_length.result c.number_length.ensures refl c.put_digits.ensures
