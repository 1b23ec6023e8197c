-- `playing::load` meets its contract.
use mathlib.Core.Path.{sym}
use lib.ListN.{take}
use lib.Seq.{length-take-le}
use Rattle.decimal.proofs.Puts.{put_length}
use Rattle.engine.specs.Load.{load_reply}
use Rattle.replaying.proofs.Steps.{refusal_most}
use native.Mathlib.Omega.{arith}
use Rattle.playing.proofs.load.Goals as goal

pub slice_bounds-load-end : goal.slice_bounds-load-end
slice_bounds-load-end g c = sym (length-take-le c.read_start-n.result c.read_start-n.new.buffer c.read_start-n.ensures)

pub slice_bounds-printed-end : goal.slice_bounds-printed-end
slice_bounds-printed-end g c = omega (arith, c.load-loaded.ensures.put.past, refusal_most (load_reply (take c.read_start-n.result c.read_start-n.new.buffer) c.args.state.now).number, put_length c.load-loaded.ensures.put)

pub slice_bounds-printed-end-2 : goal.slice_bounds-printed-end-2
slice_bounds-printed-end-2 g c = omega (arith, c.load-loaded.ensures.put.past, refusal_most (load_reply (take c.read_start-n.result c.read_start-n.new.buffer) c.args.state.now).number, put_length c.load-loaded.ensures.put)

pub slice_bounds-put-end : goal.slice_bounds-put-end
slice_bounds-put-end g c = sym (length-take-le c.load-loaded.result.end c.load-loaded.new.out (omega (arith, c.load-loaded.ensures.put.past, refusal_most (load_reply (take c.read_start-n.result c.read_start-n.new.buffer) c.args.state.now).number, put_length c.load-loaded.ensures.put)))

pub slice_bounds-say-end-2 : goal.slice_bounds-say-end-2
slice_bounds-say-end-2 g c = sym (length-take-le c.load-loaded.result.end c.load-loaded.new.out (omega (arith, c.load-loaded.ensures.put.past, refusal_most (load_reply (take c.read_start-n.result c.read_start-n.new.buffer) c.args.state.now).number, put_length c.load-loaded.ensures.put)))
