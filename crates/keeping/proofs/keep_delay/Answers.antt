use Rattle.encoding.specs.View.{flag_of, bits_of}
use Rattle.layout.specs.Record.{dec_raw, with_num, flag_f, prior_flag_f, kept_f, value_f, prior_f}
use Rattle.layout.proofs.Laws.{num_ok}
use Rattle.streams.specs.Look.{kept_in}
use Rattle.keeping.specs.Keep.{value_kept, delay_kept}
use native.Mathlib.Omega.{arith}
use Rattle.layout.proofs.Stores
use Rattle.keeping.proofs.Laws as law
use Rattle.keeping.proofs.keep_delay.Goals as goal

pub returns : goal.returns
returns c = let a = c.args in let p = a.r.now in let k = kept_in a.k in let v = k.value in let w = k.prior in Stores.three p c.put_word.new.r c.keep_value.new.r c.keep_value-2.new.r (delay_kept k) (with_num kept_f k.since) (value_kept flag_f value_f (flag_of v) (bits_of v)) (value_kept prior_flag_f prior_f (flag_of w) (bits_of w)) (λ i. omega (arith, c.slice_known-1.given i)) (λ x ok. num_ok x kept_f k.since ok (omega arith)) (λ x ok. law.value_ok_lem flag_f value_f (flag_of v) (bits_of v) x (omega arith) (omega arith) ok) c.put_word.ensures c.keep_value.ensures.0 c.keep_value-2.ensures.0 (law.delay_is k (dec_raw p))
