-- `windows::sum_slots` meets its contract.
use Prim.Native.Nat.{ℕ}
use mathlib.Core.Path.{◌≡◌, sym, ap, subst, ◌∙◌}
use Rattle.windows.proofs.Sums.{Summed, summed_none, summed_more, summed_all}
use Rattle.layout.specs.Record.{dec_raw}
use Rattle.windows.specs.Window.{slot_words, raised}
use Rattle.windows.proofs.Heights.{slots_length, slot_word}
use native.Mathlib.Omega.{arith}
use Rattle.windows.proofs.sum_slots.Goals as goal

pub loop-j-init : goal.loop-j-init
loop-j-init c = summed_none (slot_words (dec_raw c.args.a.now)) c.args.i c.args.n _

pub add-s-requires : goal.add-s-requires
add-s-requires c = let sum = c.loop-j.invariant in (omega arith, omega arith)

pub loop-j-preserved : goal.loop-j-preserved
loop-j-preserved c = let ws = slot_words (dec_raw c.args.a.now) in let many = slots_length c.args.a.now in summed_more ws c.args.i c.loop-j.j c.args.n c.raise.result c.args.h c.loop-j.s c.add-s.result (omega arith) (omega arith) (omega arith) (omega arith) (c.raise.ensures ∙ ap raised (c.value_at.ensures ∙ sym (slot_word (dec_raw c.args.a.now) c.loop-j.j))) c.loop-j.invariant c.add-s.ensures.0 c.add-s.ensures.1

pub returns : goal.returns
returns c = let ws = slot_words (dec_raw c.args.a.now) in let e : c.loop-j.j ≡ c.args.n = omega arith in let sum = summed_all ws c.args.i c.args.n c.args.h c.loop-j.s (subst (λ (m : ℕ). Summed ws c.args.i m c.args.n c.args.h c.loop-j.s) e c.loop-j.invariant) in (omega arith, omega arith, omega arith, omega arith)
