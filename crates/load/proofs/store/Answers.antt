use Prim.Native.Nat.{ℕ}
use mathlib.Core.Path.{ap, ◌∙◌}
use Rattle.layout.specs.Record.{dec_raw, enc_raw}
use native.Mathlib.Omega.{arith}
use Rattle.load.proofs.Passes
use Rattle.load.proofs.store.Goals as goal

pub returns : goal.returns
returns c = let f = c.args.f in Passes.store_is f (omega arith) c.args.r.now c.put_byte.new.r c.put_byte-2.new.r c.put_byte-3.new.r c.put_byte-4.new.r c.put_word.new.r (λ i. omega (arith, c.slice_known-1.given i)) (c.put_byte.ensures ∙ ap (λ (v : ℕ). enc_raw (Rattle.layout.specs.Record.with_num 0 v (dec_raw c.args.r.now))) c.wide.ensures.0) c.put_byte-2.ensures c.put_byte-3.ensures c.put_byte-4.ensures c.put_word.ensures
