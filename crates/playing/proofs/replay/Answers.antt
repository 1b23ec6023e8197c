-- `playing::replay` meets its contract.
use lib.ListN.{length}
use Rattle.operators.proofs.Sizes.{capacity_fits}
use Rattle.playing.proofs.Whole.{refused_printed, played_printed}
use native.Mathlib.Omega.{arith}
use Rattle.playing.proofs.replay.Goals as goal

pub returns-then-number-ne0 : goal.returns-then-number-ne0
returns-then-number-ne0 g c = λ q. refused_printed c.load-number.result c.load-number.ensures c.if-number-ne0.true

pub play-requires : goal.play-requires
play-requires g c = omega (arith, c.requires, c.load-number.auto.state, capacity_fits (length c.args.state.now))

pub returns : goal.returns
returns g c = played_printed c.load-number.ensures c.if-number-ne0.false c.requires c.play.ensures
