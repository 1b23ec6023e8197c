-- `writing::put_text` meets its contract.
use Rattle.decimal.proofs.Puts.{put_length}
use Rattle.writing.proofs.Turns.{text_length_is, text_put}
use native.Mathlib.Omega.{arith}
use Rattle.writing.proofs.put_text.Goals as goal

pub put_opening-p-requires : goal.put_opening-p-requires
put_opening-p-requires c = omega (arith, c.requires.1, text_length_is c.args.n c.args.state.now)

pub put_streams-requires : goal.put_streams-requires
put_streams-requires c = (c.requires.0, omega (arith, c.requires.1, text_length_is c.args.n c.args.state.now, c.put_opening-p.ensures.past, put_length c.put_opening-p.ensures))

pub returns : goal.returns
returns c = text_put c.args.n c.args.state.now _ _ _ _ _ c.put_opening-p.ensures c.put_streams.ensures
