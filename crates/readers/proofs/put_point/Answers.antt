use Prim.Native.Nat.{◌+◌}
use mathlib.Core.Path.{refl}
use Rattle.layout.specs.Record.{with_num, flag_f, kept_f, value_f}
use Rattle.layout.proofs.Laws.{num_ok}
use Rattle.readers.specs.Step.{set_point}
use native.Mathlib.Omega.{arith}
use Rattle.layout.proofs.Stores
use Rattle.readers.proofs.put_point.Goals as goal

pub returns : goal.returns
returns c = let a = c.args in let p = a.r.now in Stores.three p c.put_byte.new.r c.put_word.new.r c.put_word-2.new.r (set_point a.t a.has a.v) (with_num flag_f a.has) (with_num value_f a.v) (with_num kept_f (a.t + 1)) (λ i. omega (arith, c.slice_known-1.given i)) (λ x ok. num_ok x flag_f a.has ok (omega arith)) (λ x ok. num_ok x value_f a.v ok (omega arith)) c.put_byte.ensures c.put_word.ensures c.put_word-2.ensures refl
