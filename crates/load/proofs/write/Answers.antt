use Prim.Native.Nat.{◌+◌, ◌-◌, ◌*◌}
use mathlib.Core.Path.{◌≡◌, refl, sym, ap, ◌∙◌}
use native.Mathlib.Nat.{sub-zero}
use borrow.Rule.Slice.PartMut.{mid_of, same_len_mid}
use lib.ListN.{length}
use Rattle.layout.specs.Record.{dec_raw, encode, decode}
use Rattle.layout.proofs.Laws.{raw_len, encode_decode}
use Rattle.layout.proofs.Loops.{row_len}
use Rattle.load.specs.Filled.{stored}
use native.Mathlib.Omega.{arith}
use Rattle.load.proofs.Passes
use Rattle.load.proofs.write.Goals as goal

pub loop-i-init : goal.loop-i-init
loop-i-init c = (refl, (λ j. omega (arith, c.type_inv.state j)), simp sub-zero)

pub store-requires : goal.store-requires
store-requires c = let a = c.args in let l = c.loop-i in let k = l.i * 256 + 256 - l.i * 256 in row_len a.n l.state l.i (omega arith) (omega arith)

pub loop-i-preserved : goal.loop-i-preserved
loop-i-preserved c = let a = c.args in let l = c.loop-i in let k = l.i * 256 + 256 - l.i * 256 in let q = c.store.new.r in let f = c.in-Ok.f in let lq : length q ≡ 256 = ap length c.store.ensures ∙ raw_len (stored f (dec_raw (mid_of (l.i * 256) k l.state))) in (same_len_mid (l.i * 256) k l.state q (lq ∙ sym (row_len a.n l.state l.i (omega arith) (omega arith))) ∙ l.invariant.0, (λ j. omega (arith, c.type_inv.state j)), ap (encode a.n) (Passes.write_turn a.n a.text.now l.state q l.p l.i k f (omega arith) (omega arith) (omega arith) (omega arith) l.invariant.1 (omega arith) (sym c.in-Ok.ensures) c.store.ensures) ∙ l.invariant.2)

pub returns-in_default : goal.returns-in_default
returns-in_default c = let a = c.args in let l = c.loop-i in sym (encode_decode a.n l.state (omega (arith, l.invariant.0)) l.invariant.1) ∙ ap (encode a.n) (sym (Passes.write_halt a.text.now l.p (a.n - l.i) l.i c.in_default.field-0 (decode a.n l.state) (omega arith) (sym c.in_default.ensures))) ∙ l.invariant.2

pub returns : goal.returns
returns c = let a = c.args in let l = c.loop-i in sym (encode_decode a.n l.state (omega (arith, l.invariant.0)) l.invariant.1) ∙ ap (encode a.n) (sym (Passes.write_end a.text.now l.p (a.n - l.i) l.i (decode a.n l.state) (omega arith))) ∙ l.invariant.2
