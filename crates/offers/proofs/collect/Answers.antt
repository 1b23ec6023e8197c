use Prim.Native.Nat.{◌+◌, ◌-◌, ◌*◌}
use borrow.Rule.Slice.PartMut.{put_mid}
use Rattle.layout.specs.Record.{Raw, with_num, slot_at, next_f}
use Rattle.layout.proofs.Laws.{lent}
use native.Mathlib.Omega.{arith}
use Rattle.offers.proofs.Steps
use Rattle.offers.proofs.collect.Goals as goal

pub returns : goal.returns
returns c = let a = c.args in let s = a.state.now in let i = a.i in let k = i * 256 + 256 - i * 256 in Steps.collect_is a.n s (put_mid (i * 256) k s c.mark.new.r) c.release_row.new.state i a.j (λ j. omega (arith, c.slice_known-1.given j)) (omega arith) (omega arith) (lent a.n s c.mark.new.r i k (λ (r : Raw). with_num next_f ((slot_at a.j r).stamp + 1) r) (omega arith) (omega arith) (λ j. omega (arith, c.slice_known-1.given j)) (omega arith) c.mark.ensures) c.release_row.ensures
