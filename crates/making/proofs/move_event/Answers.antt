-- `making::move_event` meets its contract.
use Prim.Native.Nat.{◌+◌, ◌-◌, ◌*◌}
use borrow.Rule.Slice.PartMut.{put_mid}
use Rattle.layout.specs.Record.{decode}
use Rattle.layout.proofs.Laws.{lent}
use Rattle.streams.specs.Look.{equation, kept_in}
use Rattle.queue.specs.Queue.{pushed}
use native.Mathlib.Omega.{arith}
use Rattle.making.proofs.Steps
use Rattle.making.proofs.move_event.Goals as goal

pub returns : goal.returns
returns c = let a = c.args in let n = a.n in let s = a.state.now in let st = decode n s in let e = equation a.op in let i = a.i in let k = i * 256 + 256 - i * 256 in Steps.event_is n i (omega arith) s (λ j. omega (arith, c.slice_known-1.given j)) e (kept_in a.k) c.requires.2 a.t a.v (put_mid (i * 256) k s c.append.new.r) c.absorb_row.new.state c.tell_all.new.state c.release_all.new.state (omega arith) (omega arith) (lent n s c.append.new.r i k (pushed a.t a.v) (omega arith) (omega arith) (λ j. omega (arith, c.slice_known-1.given j)) (omega arith) c.append.ensures) c.absorb_row.ensures c.tell_all.ensures c.release_all.ensures
