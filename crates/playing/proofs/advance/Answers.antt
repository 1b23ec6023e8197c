-- `playing::advance` meets its contract.
use Prim.Native.Nat.{◌-◌}
use mathlib.Core.Path.{sym}
use lib.ListN.{length}
use lib.Seq.{length-take-le}
use borrow.Author.Tests.{lt-ltb, le-ltb}
use Rattle.playing.specs.Hand.{hand}
use Rattle.playing.proofs.Hand.{part_onward, bad_ended, last_ended}
use Rattle.playing.proofs.advance.Goals as goal

pub slice_bounds-replay_lines-end-2 : goal.slice_bounds-replay_lines-end-2
slice_bounds-replay_lines-end-2 g c = sym (length-take-le c.ready-filled.result c.ready-filled.new.buffer c.ready-filled.ensures.inside.1)

pub returns-in_err-p : goal.returns-in_err-p
returns-in_err-p g c = rw c.from_residual.ensures (bad_ended (hand c.args.buffer.now c.args.left.from c.args.left.end) c.ready-filled.new.buffer (c.args.left.end - c.args.left.from) c.ready-filled.result c.ready-filled.ensures.inside.0 c.ready-filled.ensures.inside.1 c.ready-filled.ensures.kept c.in_err-p.ensures)

pub returns-then-last : goal.returns-then-last
returns-then-last g c = last_ended (hand c.args.buffer.now c.args.left.from c.args.left.end) c.ready-filled.new.buffer (c.args.left.end - c.args.left.from) c.ready-filled.result c.ready-filled.ensures.inside.0 c.ready-filled.ensures.inside.1 c.ready-filled.ensures.kept (lt-ltb c.ready-filled.result (length c.ready-filled.new.buffer) c.if-last.true) c.if-last.true c.in_ok-p.ensures

pub returns : goal.returns
returns g c = part_onward (hand c.args.buffer.now c.args.left.from c.args.left.end) c.ready-filled.new.buffer (c.args.left.end - c.args.left.from) c.ready-filled.result c.ready-filled.ensures.inside.0 c.ready-filled.ensures.inside.1 c.ready-filled.ensures.kept (le-ltb c.ready-filled.result (length c.ready-filled.new.buffer) c.if-last.false) c.in_ok-p.ensures
