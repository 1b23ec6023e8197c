use Prim.Native.Nat.{◌+◌, ◌-◌, ◌*◌}
use Rattle.layout.specs.Record.{with_num, bound_f}
use Rattle.layout.proofs.Laws.{lent}
use native.Mathlib.Omega.{arith}
use Rattle.offers.proofs.progress.Goals as goal

pub returns : goal.returns
returns c = let a = c.args in let s = a.state.now in let i = a.i in let k = i * 256 + 256 - i * 256 in lent a.n s c.put_word.new.r i k (with_num bound_f a.y) (omega arith) (omega arith) (λ j. omega (arith, c.slice_known-1.given j)) (omega arith) c.put_word.ensures
