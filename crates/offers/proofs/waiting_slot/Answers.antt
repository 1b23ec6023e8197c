use Prim.Native.Nat.{ℕ}
use mathlib.Core.Path.{ap₂, ◌∙◌}
use Rattle.layout.specs.Record.{dec_raw}
use Rattle.queue.specs.Queue.{below}
use Rattle.offers.specs.Numbers.{waiting_slot}
use native.Mathlib.Omega.{arith}
use Rattle.offers.proofs.waiting_slot.Goals as goal

pub returns : goal.returns
unfolding waiting_slot
returns c = let a = c.args in let p = a.r.now in let r = dec_raw p in (c.first_from.ensures.0 ∙ ap₂ (λ (x y : ℕ). below x y r.slots) c.word_at.ensures c.count.ensures.0, omega arith)
