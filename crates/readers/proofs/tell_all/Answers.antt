use native.Mathlib.Nat.{sub-zero}
use Prim.Native.Nat.{ℕ, ◌+◌, ◌-◌, ◌*◌}
use mathlib.Core.Path.{◌≡◌, refl, sym, ap, ◌∙◌}
use mathlib.Core.List.{List}
use borrow.Rule.Slice.PartMut.{mid_of, same_len_mid}
use lib.ListN.{length}
use Rattle.layout.specs.Record.{dec_raw, enc_raw}
use Rattle.layout.proofs.Laws.{raw_len}
use Rattle.layout.proofs.Loops.{each_turn, each_end, each_all, row_len}
use Rattle.readers.specs.Step.{told_row}
use native.Mathlib.Omega.{arith}
use Rattle.readers.proofs.tell_all.Goals as goal

pub loop-i-preserved : goal.loop-i-preserved
loop-i-preserved c = let a = c.args in let l = c.loop-i in let k = l.i * 256 + 256 - l.i * 256 in let g : List ℕ → List ℕ = λ q. enc_raw (told_row a.s a.t a.v (dec_raw q)) in let q = c.tell.new.r in let lq : length q ≡ 256 = ap length c.tell.ensures ∙ raw_len (told_row a.s a.t a.v (dec_raw (mid_of (l.i * 256) k l.state))) in (omega arith, same_len_mid (l.i * 256) k l.state q (lq ∙ sym (row_len a.n l.state l.i (omega arith) (omega arith))) ∙ l.invariant.1, each_turn g a.n l.state q l.i k (omega arith) (omega arith) (omega arith) lq c.tell.ensures ∙ l.invariant.2)

pub returns : goal.returns
returns c = let a = c.args in let l = c.loop-i in let g : List ℕ → List ℕ = λ q. enc_raw (told_row a.s a.t a.v (dec_raw q)) in sym (each_end g l.state l.i (a.n - l.i) (omega arith)) ∙ l.invariant.2 ∙ each_all (told_row a.s a.t a.v) a.n a.state.now
