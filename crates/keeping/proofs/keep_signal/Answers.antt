-- `keeping::keep_signal` meets its contract.
use Rattle.encoding.specs.View.{flag_of, bits_of}
use Rattle.layout.specs.Record.{dec_raw, flag_f, prior_flag_f, kept_f, value_f}
use Rattle.streams.specs.Look.{kept_in}
use Rattle.keeping.specs.Keep.{value_kept, signal_kept}
use native.Mathlib.Omega.{arith}
use Rattle.layout.proofs.Stores
use Rattle.keeping.proofs.Laws as law
use Rattle.keeping.proofs.keep_signal.Goals as goal

pub returns : goal.returns
returns c = let a = c.args in let p = a.r.now in let k = kept_in a.k in let v = k.prev in let w = k.prev_b in Stores.two p c.keep_value.new.r c.keep_value-2.new.r (signal_kept k) (value_kept flag_f kept_f (flag_of v) (bits_of v)) (value_kept prior_flag_f value_f (flag_of w) (bits_of w)) (λ i. omega (arith, c.slice_known-1.given i)) (λ x ok. law.value_ok_lem flag_f kept_f (flag_of v) (bits_of v) x (omega arith) (omega arith) ok) c.keep_value.ensures.0 c.keep_value-2.ensures.0 (law.signal_is k (dec_raw p))
