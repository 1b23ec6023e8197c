-- `windows::best_slot` meets its contract.
use Prim.Native.Nat.{ℕ, ◌+◌}
use mathlib.Core.Path.{◌≡◌, refl, sym, ap, ◌∙◌}
use Rattle.layout.specs.Record.{dec_raw}
use Rattle.windows.specs.Window.{slot_words, raised, heights, best_of}
use Rattle.windows.proofs.Heights.{slots_length, slot_word}
use Rattle.windows.proofs.Bests.{best_turn, best_end}
use native.Mathlib.Omega.{arith}
use Rattle.windows.proofs.best_slot.Goals as goal

pub loop-j-init : goal.loop-j-init
loop-j-init c = refl

pub loop-j-preserved : goal.loop-j-preserved
loop-j-preserved c = let a = c.args in let l = c.loop-j in let ws = slot_words (dec_raw a.a.now) in let many = slots_length a.a.now in ap (λ (m : ℕ). best_of a.greater m (heights (l.j + 1) a.n ws)) c.better_of-best.ensures ∙ best_turn a.greater ws l.j a.n l.best c.raise.result (omega arith) (omega arith) (c.raise.ensures ∙ ap raised (c.value_at.ensures ∙ sym (slot_word (dec_raw a.a.now) l.j))) ∙ l.invariant

pub returns : goal.returns
returns c = let a = c.args in let l = c.loop-j in let ws = slot_words (dec_raw a.a.now) in let many = slots_length a.a.now in let e : a.n ≡ l.j = omega arith in sym (best_end a.greater ws a.n l.best) ∙ ap (λ (m : ℕ). best_of a.greater l.best (heights m a.n ws)) e ∙ l.invariant
