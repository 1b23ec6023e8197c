-- `windows::sum_words` meets its contract.
use Prim.Native.Nat.{ℕ}
use mathlib.Core.Path.{◌≡◌, ap, subst, ◌∙◌}
use Rattle.windows.proofs.Sums.{Summed, summed_none, summed_more, summed_all}
use Rattle.layout.specs.Windows.{dec_window}
use Rattle.layout.proofs.Windows.{window_many}
use Rattle.windows.specs.Window.{raised}
use native.Mathlib.Omega.{arith}
use Rattle.windows.proofs.sum_words.Goals as goal

pub loop-j-init : goal.loop-j-init
loop-j-init c = summed_none (dec_window c.args.w.now) c.args.i c.args.n _

pub add-h-requires : goal.add-h-requires
add-h-requires c = let sum = c.loop-j.invariant in (omega arith, omega arith)

pub loop-j-preserved : goal.loop-j-preserved
loop-j-preserved c = let ws = dec_window c.args.w.now in let many = window_many c.args.w.now in summed_more ws c.args.i c.loop-j.j c.args.n c.raise.result _ c.loop-j.h c.add-h.result (omega arith) (omega arith) (omega arith) (omega arith) (c.raise.ensures ∙ ap raised c.window_word.ensures) c.loop-j.invariant c.add-h.ensures.0 c.add-h.ensures.1

pub returns : goal.returns
returns c = let ws = dec_window c.args.w.now in let e : c.loop-j.j ≡ c.args.n = omega arith in let sum = summed_all ws c.args.i c.args.n _ c.loop-j.h (subst (λ (m : ℕ). Summed ws c.args.i m c.args.n _ c.loop-j.h) e c.loop-j.invariant) in (omega arith, omega arith, omega arith, omega arith)
