use mathlib.Core.Path.{sym, ap, ◌∙◌}
use Rattle.layout.specs.Record.{enc_raw, dec_raw}
use Rattle.queue.specs.Queue.{released}
use native.Mathlib.Omega.{arith}
use Rattle.layout.proofs.Stores
use Rattle.queue.proofs.Drops
use Rattle.queue.proofs.drop_below.Goals as goal

pub returns-then-k-eq0 : goal.returns-then-k-eq0
returns-then-k-eq0 c = let a = c.args in let p = a.r.now in let r = dec_raw p in Stores.none p (released a.w) (omega arith) (λ i. omega (arith, c.slice_known-1.given i)) (Drops.release_none a.w c.count-m.result r c.count-m.ensures.0 (sym c.if-k-eq0.true ∙ c.first_from-k.ensures.0))

pub returns : goal.returns
returns c = let a = c.args in let r = dec_raw a.r.now in c.drop_first.ensures ∙ ap enc_raw (sym (Drops.release_is a.w c.count-m.result c.first_from-k.result r c.count-m.ensures.0 c.first_from-k.ensures.0))
