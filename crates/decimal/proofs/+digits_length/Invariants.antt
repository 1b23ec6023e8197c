-- `decimal::digits_length` meets its contract.
use Rattle.decimal.proofs.+digits_length.Given as goal

abbrev pub decreases-digits_length : goal.decreases-digits_length
decreases-digits_length l = l.most
