use Prim.Native.Nat.{◌+◌}
use Rattle.encoding.specs.View.{flag_of, bits_of}
use Rattle.layout.specs.Record.{dec_raw, with_num}
use Rattle.layout.proofs.Laws.{num_ok}
use Rattle.readers.proofs.Leaves.{flag_wide}
use Rattle.keeping.specs.Keep.{value_kept}
use native.Mathlib.Omega.{arith}
use Rattle.layout.proofs.Stores
use Rattle.keeping.proofs.Laws as law
use Rattle.keeping.proofs.keep_value.Goals as goal

pub returns : goal.returns
returns c = let a = c.args in let p = a.r.now in let j = 8 + a.w in let h = c.flag_of.result in let v = c.bits_of.result in (Stores.two p c.put_byte.new.r c.put_word.new.r (value_kept a.f j (flag_of a.x) (bits_of a.x)) (with_num a.f h) (with_num j v) (λ i. omega (arith, c.slice_known-1.given i)) (λ y ok. num_ok y a.f h ok (flag_wide a.f h (omega arith) (omega arith))) c.put_byte.ensures c.put_word.ensures (law.value_stored a.f j a.x h v (dec_raw p) c.flag_of.ensures.0 c.bits_of.ensures), omega arith, omega arith)
