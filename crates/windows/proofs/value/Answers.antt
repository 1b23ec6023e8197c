-- `windows::value` meets its contract.
use Prim.Native.Nat.{◌+◌, ◌-◌}
use mathlib.Core.Path.{sym, ap, ◌∙◌}
use mathlib.Core.List.{List}
use lib.IntN.{ℤ}
use Rattle.meaning.specs.Table.{folded, value_of}
use Rattle.layout.specs.Record.{dec_raw}
use Rattle.layout.specs.Windows.{dec_window}
use Rattle.layout.proofs.Windows.{window_many}
use Rattle.apply.specs.Named.{folding}
use Rattle.windows.specs.Window.{slot_words}
use Rattle.windows.proofs.Heights.{slots_length}
use Rattle.windows.proofs.Latest.{cut_none, cut_front, cut_back}
use native.Mathlib.Omega.{arith}
use Rattle.windows.proofs.value.Goals as goal

pub returns-then-all-k : goal.returns-then-all-k
returns-then-all-k c = let a = c.args in let ws = dec_window a.w.now in let vs = slot_words (dec_raw a.a.now) in let many = window_many a.w.now in let all = slots_length a.a.now in c.fold_of.ensures ∙ ap (λ (l : List ℤ). value_of (folded (folding a.f) l)) (sym (cut_none a.k a.n a.p a.q ws vs (omega arith) (omega arith) (omega arith) (omega arith)))

pub returns-then-old-n : goal.returns-then-old-n
returns-then-old-n c = let a = c.args in let ws = dec_window a.w.now in let vs = slot_words (dec_raw a.a.now) in let many = window_many a.w.now in let all = slots_length a.a.now in c.fold_of-then-old-n.ensures ∙ ap (λ (l : List ℤ). value_of (folded (folding a.f) l)) (sym (cut_front a.k a.n a.p a.q ws vs (omega arith) (omega arith) (omega arith) (a.n + (a.q - a.p) - a.k) (omega arith) (omega arith)))

pub returns : goal.returns
returns c = let a = c.args in let ws = dec_window a.w.now in let vs = slot_words (dec_raw a.a.now) in let many = window_many a.w.now in let all = slots_length a.a.now in c.fold_of-2.ensures ∙ ap (λ (l : List ℤ). value_of (folded (folding a.f) l)) (sym (cut_back a.k a.n a.p a.q ws vs (omega arith) (omega arith) (omega arith) (a.n + (a.q - a.p) - a.k - a.n) (omega arith)))
