use Prim.Native.Nat.{◌+◌, ◌-◌, ◌*◌}
use borrow.Rule.Slice.PartMut.{put_mid}
use Rattle.layout.proofs.Laws.{lent}
use Rattle.queue.specs.Queue.{pushed}
use native.Mathlib.Omega.{arith}
use Rattle.readers.proofs.Rounds
use Rattle.readers.proofs.offer.Goals as goal

pub returns : goal.returns
returns c = let a = c.args in let s = a.state.now in let i = a.i in let k = i * 256 + 256 - i * 256 in Rounds.offer_is a.n s (put_mid (i * 256) k s c.append.new.r) c.tell_all.new.state c.release_row.new.state i a.t a.v (λ j. omega (arith, c.slice_known-1.given j)) (omega arith) (omega arith) (omega arith) (lent a.n s c.append.new.r i k (pushed a.t a.v) (omega arith) (omega arith) (λ j. omega (arith, c.slice_known-1.given j)) (omega arith) c.append.ensures) c.tell_all.ensures c.release_row.ensures
