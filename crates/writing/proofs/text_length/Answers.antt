-- `writing::text_length` meets its contract.
use Rattle.writing.proofs.Turns.{rest_few, opening_few, text_length_is}
use native.Mathlib.Omega.{arith}
use Rattle.writing.proofs.text_length.Goals as goal

pub overflow_add-result : goal.overflow_add-result
overflow_add-result c = omega (arith, c.opening_length.ensures, c.streams_length.ensures, rest_few c.args.n c.args.state.now, opening_few c.args.n, c.requires)

pub returns : goal.returns
returns c = omega (arith, c.opening_length.ensures, c.streams_length.ensures, text_length_is c.args.n c.args.state.now)
