use Prim.Native.Nat.{ℕ, ◌+◌}
use mathlib.Core.Path.{ap, ◌∙◌}
use Rattle.layout.specs.Record.{dec_raw, enc_raw, with_num, next_f}
use Rattle.offers.proofs.mark.Goals as goal

pub returns : goal.returns
returns c = let a = c.args in let p = a.r.now in let r = dec_raw p in c.put_word.ensures ∙ ap (λ (t : ℕ). enc_raw (with_num next_f (t + 1) r)) c.stamp_at-t.ensures.0
