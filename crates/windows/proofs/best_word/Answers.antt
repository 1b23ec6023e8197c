-- `windows::best_word` meets its contract.
use Prim.Native.Nat.{ℕ, ◌+◌}
use mathlib.Core.Path.{◌≡◌, refl, sym, ap, ◌∙◌}
use Rattle.layout.specs.Windows.{dec_window}
use Rattle.layout.proofs.Windows.{window_many}
use Rattle.windows.specs.Window.{raised, heights, best_of}
use Rattle.windows.proofs.Bests.{best_turn, best_end}
use native.Mathlib.Omega.{arith}
use Rattle.windows.proofs.best_word.Goals as goal

pub loop-j-init : goal.loop-j-init
loop-j-init c = refl

pub loop-j-preserved : goal.loop-j-preserved
loop-j-preserved c = let a = c.args in let l = c.loop-j in let ws = dec_window a.w.now in let many = window_many a.w.now in ap (λ (m : ℕ). best_of a.greater m (heights (l.j + 1) a.n ws)) c.better_of-best.ensures ∙ best_turn a.greater ws l.j a.n l.best c.raise.result (omega arith) (omega arith) (c.raise.ensures ∙ ap raised c.window_word.ensures) ∙ l.invariant

pub returns : goal.returns
returns c = let a = c.args in let l = c.loop-j in let ws = dec_window a.w.now in let many = window_many a.w.now in let e : a.n ≡ l.j = omega arith in sym (best_end a.greater ws a.n l.best) ∙ ap (λ (m : ℕ). best_of a.greater l.best (heights m a.n ws)) e ∙ l.invariant
