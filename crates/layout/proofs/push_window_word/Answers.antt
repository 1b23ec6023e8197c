-- `layout::push_window_word` meets its contract.
use Rattle.layout.proofs.Windows.{word_push}
use native.Mathlib.Omega.{arith}
use Rattle.layout.proofs.push_window_word.Goals as goal

pub returns : goal.returns
returns c = word_push c.args.w.now c.shift_many.new.s c.put.new.s c.args.n c.args.v (omega arith) (λ i. omega (arith, c.slice_known-1.given i)) (omega arith) (omega arith) c.shift_many.ensures c.put.ensures
