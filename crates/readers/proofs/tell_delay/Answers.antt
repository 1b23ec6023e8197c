use Rattle.layout.specs.Record.{dec_raw}
use Rattle.readers.specs.Step.{told_value, told_prior, told_since, told_delay}
use native.Mathlib.Omega.{arith}
use Rattle.layout.proofs.Stores
use Rattle.readers.proofs.Leaves
use Rattle.readers.proofs.tell_delay.Goals as goal

pub returns : goal.returns
returns c = let a = c.args in let p = a.r.now in let r = dec_raw p in Stores.three p c.tell_kept.new.r c.tell_kept-2.new.r c.tell_since.new.r (told_delay a.s a.t a.v) (told_value a.s a.t a.v) (told_prior a.s a.t a.v) (told_since a.s a.t) (λ i. omega (arith, c.slice_known-1.given i)) (λ x ok. Leaves.value_ok_lem a.v (omega arith) a.s a.t x ok) (λ x ok. Leaves.prior_ok a.v (omega arith) a.s a.t x ok) c.tell_kept.ensures c.tell_kept-2.ensures c.tell_since.ensures (Leaves.delay_is a.s r a.t a.v)
