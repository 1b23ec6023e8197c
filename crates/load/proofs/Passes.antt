-- Turns of the pass that stores the streams.
use Prim.Native.Nat.{ℕ, zero, suc, ◌+◌, ◌*◌, ◌-◌, ◌^◌, ◌<◌, ◌≤◌, ◌%◌}
use mathlib.Core.Path.{◌≡◌, refl, sym, ap, ◌∙◌}
use mathlib.Core.List.{List}
use native.Mathlib.Omega.{arith}
use lib.ListN.{length}
use borrow.Rule.Slice.PartMut.{mid_of, put_mid}
use Rattle.le.specs.Bytes.{Bytes}
use Rattle.layout.specs.Record.{Raw, Raws, with_num, row_at, change, enc_raw, dec_raw, decode, op_f, a_f, b_f, out_f, k_f}
use Rattle.layout.proofs.Laws.{RawOk, raw_ok, raws_ok, num_ok, leaf_then, row_ok_lem, change_ok, lent, decode_encode}
use Rattle.text.specs.declared.Fields.{Fields}
use Rattle.std.specs.Prelude.{Result, Ok, Err}
use Rattle.refusal.specs.declared.Refusal.{Refusal}
use Rattle.text.specs.Grammar.{stream}
use Rattle.load.specs.Filled.{stored, next, written}

-- ---- one record

module _ (f : Fields) (o : f.op < 256) where
  op_ok : (r : Raw) → RawOk r → RawOk (with_num op_f f.op r)
  op_ok r ok = num_ok r op_f f.op ok (omega arith)

  a_ok : (r : Raw) → RawOk r → RawOk (with_num a_f (f.a % 256) r)
  a_ok r ok = num_ok r a_f (f.a % 256) ok (omega arith)

  b_ok : (r : Raw) → RawOk r → RawOk (with_num b_f (f.b % 256) r)
  b_ok r ok = num_ok r b_f (f.b % 256) ok (omega arith)

  out_ok_lem : (r : Raw) → RawOk r → RawOk (with_num out_f (f.out % 256) r)
  out_ok_lem r ok = num_ok r out_f (f.out % 256) ok (omega arith)

  -- a stored record keeps its form
  pub stored_ok : f.k < 2 ^ 64 → (r : Raw) → RawOk r → RawOk (stored f r)
  unfolding stored
  stored_ok h r ok =
      let x = with_num op_f f.op r in
      let y = with_num a_f (f.a % 256) x in
      let z = with_num b_f (f.b % 256) y in
      let w = with_num out_f (f.out % 256) z in
      num_ok w k_f f.k (out_ok_lem z (b_ok y (a_ok x (op_ok r ok)))) (omega arith)

  pub store_is : (p p₁ p₂ p₃ p₄ p₅ : List ℕ) → Bytes p
      → p₁ ≡ enc_raw (with_num op_f f.op (dec_raw p)) → p₂ ≡ enc_raw (with_num a_f (f.a % 256) (dec_raw p₁))
      → p₃ ≡ enc_raw (with_num b_f (f.b % 256) (dec_raw p₂)) → p₄ ≡ enc_raw (with_num out_f (f.out % 256) (dec_raw p₃))
      → p₅ ≡ enc_raw (with_num k_f f.k (dec_raw p₄)) → p₅ ≡ enc_raw (stored f (dec_raw p))
  unfolding stored
  store_is p p₁ p₂ p₃ p₄ p₅ b e₁ e₂ e₃ e₄ e₅ =
      let g₁ : Raw → Raw = λ r. with_num op_f f.op r in
      let g₂ : Raw → Raw = λ r. with_num a_f (f.a % 256) r in
      let g₃ : Raw → Raw = λ r. with_num b_f (f.b % 256) r in
      let g₄ : Raw → Raw = λ r. with_num out_f (f.out % 256) r in
      let g₅ : Raw → Raw = λ r. with_num k_f f.k r in
      let r = dec_raw p in
      let k₁ = op_ok r (raw_ok p b) in
      let k₂ = a_ok (g₁ r) k₁ in
      let k₃ = b_ok (g₂ (g₁ r)) k₂ in
      let k₄ = out_ok_lem (g₃ (g₂ (g₁ r))) k₃ in
      let t₂ = leaf_then p p₁ p₂ g₁ g₂ e₁ k₁ e₂ in
      let t₃ = leaf_then p p₂ p₃ (λ x. g₂ (g₁ x)) g₃ t₂ k₂ e₃ in
      let t₄ = leaf_then p p₃ p₄ (λ x. g₃ (g₂ (g₁ x))) g₄ t₃ k₃ e₄ in
      leaf_then p p₄ p₅ (λ x. g₄ (g₃ (g₂ (g₁ x)))) g₅ t₄ k₄ e₅

-- ---- the pass

pub write_more : (text : List ℕ) (p m k i : ℕ) (st : Raws) → m ≡ suc k
    → written text p m i st ≡ next (stream text p) i st (λ f u. written text f.next k (i + 1) u)
unfolding written
write_more text p m k i st e = ap (λ (j : ℕ). written text p j i st) e

pub write_halt : (text : List ℕ) (p m i : ℕ) (r : Refusal) (st : Raws) → 0 < m → stream text p ≡ Err r → written text p m i st ≡ st
write_halt text p m i r st h e = write_more text p m (m - 1) i st (omega arith) ∙ ap (λ (l : Result Fields Refusal). next l i st (λ f u. written text f.next (m - 1) (i + 1) u)) e

pub write_end : (text : List ℕ) (p m i : ℕ) (st : Raws) → m ≡ 0 → written text p m i st ≡ st
unfolding written
write_end text p zero i st h = refl
write_end text p (suc m) i st h = absurd (omega arith)

pub write_turn : (n : ℕ) (text s q : List ℕ) (p i k : ℕ) (f : Fields) → f.op < 256 → f.k < 2 ^ 64 → k ≡ 256 → n * 256 ≤ length s → Bytes s → i < n
    → stream text p ≡ Ok f → q ≡ enc_raw (stored f (dec_raw (mid_of (i * 256) k s)))
    → written text f.next (n - (i + 1)) (i + 1) (decode n (put_mid (i * 256) k s q)) ≡ written text p (n - i) i (decode n s)
write_turn n text s q p i k f o v e nl b h l t =
    let st = decode n s in
    let ok = raws_ok n s b in
    let ch : Raws = change i (stored f) st in
    let m = n - (i + 1) in
    ap (λ (u : Raws). written text f.next (n - (i + 1)) (i + 1) u)
    (ap (decode n) (lent n s q i k (stored f) e nl b h t) ∙ decode_encode n ch (change_ok n st i (stored f) ok (stored_ok f o v (row_at st i) (row_ok_lem n st i ok h))))
    ∙ ap (λ (x : Result Fields Refusal). next x i st (λ f u. written text f.next m (i + 1) u)) (sym l)
    ∙ sym (write_more text p (n - i) m i st (omega arith))
