use Prim.Native.Nat.{ℕ, min}
use mathlib.Core.Path.{sym, ap, ◌∙◌}
use Rattle.meaning.specs.Events.{horizon}
use Rattle.layout.specs.Record.{dec_raw}
use native.Mathlib.Omega.{arith}
use Rattle.streams.proofs.Laws as law
use Rattle.streams.proofs.bound_of.Goals as goal

pub returns : goal.returns
returns c = let r = dec_raw c.args.r.now in (c.min.ensures ∙ ap (λ (x : ℕ). min x horizon) c.word_at.ensures ∙ sym (law.look_bound r), omega arith)
