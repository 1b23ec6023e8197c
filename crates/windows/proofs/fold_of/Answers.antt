-- `windows::fold_of` meets its contract.
use Prim.Native.Nat.{◌+◌, ◌-◌}
use mathlib.Core.Path.{sym, ap, ◌∙◌}
use mathlib.Core.Bool.{true, false}
use Rattle.std.specs.Prelude.{Some}
use mathlib.Core.List.{◌++◌, map}
use lib.Seq.{slice, length-slice}
use mir.Syntax.{w64}
use mir.Val.{to_z}
use mir.Facts.{to_z-of_z}
use Rattle.meaning.specs.Table.{folded, value_of}
use Rattle.layout.specs.Record.{dec_raw}
use Rattle.layout.specs.Windows.{dec_window}
use Rattle.layout.proofs.Windows.{window_small, window_many}
use Rattle.apply.specs.declared.Fold.{Fold}
use Rattle.apply.specs.Named.{folding}
use Rattle.windows.specs.Window.{slot_words}
use Rattle.windows.proofs.Heights.{words_slice, slots_words, slots_length}
use Rattle.windows.proofs.Sums.{sum_fold}
use Rattle.windows.proofs.Bests.{best_fold}
use native.Mathlib.Omega.{arith}
use Rattle.windows.proofs.fold_of.Goals as goal

pub returns-in-Sum : goal.returns-in-Sum
returns-in-Sum c = let a = c.args in let ws = dec_window a.w.now in let vs = slot_words (dec_raw a.a.now) in let xs = slice a.i a.n ws in let ys = slice a.p a.q vs in let front = words_slice a.i a.n ws (window_small a.w.now (λ j. omega (arith, c.shared_slice_known-1.given j))) in let back = words_slice a.p a.q vs (slots_words a.a.now (λ j. omega (arith, c.shared_slice_known-2-1.given j))) in let many = window_many a.w.now in let all = slots_length a.a.now in let some = length-slice a.i a.n ws (omega arith) in let more = length-slice a.p a.q vs (omega arith) in let h = c.sum_words-h in let s = c.sum_slots-s in c.total.ensures ∙ sum_fold xs ys front back (a.n - a.i + (a.q - a.p)) s.result.low s.result.high (omega arith) (omega arith) (omega arith) ∙ ap (λ (g : Fold). value_of (folded (folding g) (map (to_z w64) xs ++ map (to_z w64) ys))) (sym c.in-Sum.is)

pub returns-in-Least : goal.returns-in-Least
returns-in-Least c = let a = c.args in let ws = dec_window a.w.now in let vs = slot_words (dec_raw a.a.now) in let xs = slice a.i a.n ws in let ys = slice a.p a.q vs in let front = words_slice a.i a.n ws (window_small a.w.now (λ j. omega (arith, c.shared_slice_known-1.given j))) in let back = words_slice a.p a.q vs (slots_words a.a.now (λ j. omega (arith, c.shared_slice_known-2-1.given j))) in let many = window_many a.w.now in let all = slots_length a.a.now in let some = length-slice a.i a.n ws (omega arith) in let more = length-slice a.p a.q vs (omega arith) in ap Some (to_z-of_z {w = w64} (record { sfits = c.of_bits.type_inv }) ∙ c.of_bits.ensures ∙ ap (to_z w64) c.raise.ensures) ∙ best_fold false xs ys front back (omega arith) c.best_word-b.result c.best_slot.result c.best_word-b.ensures c.best_slot.ensures ∙ ap (λ (g : Fold). value_of (folded (folding g) (map (to_z w64) xs ++ map (to_z w64) ys))) (sym c.in-Least.is)

pub returns-in-Greatest : goal.returns-in-Greatest
returns-in-Greatest c = let a = c.args in let ws = dec_window a.w.now in let vs = slot_words (dec_raw a.a.now) in let xs = slice a.i a.n ws in let ys = slice a.p a.q vs in let front = words_slice a.i a.n ws (window_small a.w.now (λ j. omega (arith, c.shared_slice_known-1.given j))) in let back = words_slice a.p a.q vs (slots_words a.a.now (λ j. omega (arith, c.shared_slice_known-2-1.given j))) in let many = window_many a.w.now in let all = slots_length a.a.now in let some = length-slice a.i a.n ws (omega arith) in let more = length-slice a.p a.q vs (omega arith) in ap Some (to_z-of_z {w = w64} (record { sfits = c.of_bits-in-Greatest.type_inv }) ∙ c.of_bits-in-Greatest.ensures ∙ ap (to_z w64) c.raise-in-Greatest.ensures) ∙ best_fold true xs ys front back (omega arith) c.best_word-b-in-Greatest.result c.best_slot-in-Greatest.result c.best_word-b-in-Greatest.ensures c.best_slot-in-Greatest.ensures ∙ ap (λ (g : Fold). value_of (folded (folding g) (map (to_z w64) xs ++ map (to_z w64) ys))) (sym c.in-Greatest.is)
