-- The scheme of a leaf's stores: nothing is stored, or one number, two or three, one after the other.
use Prim.Native.Nat.{ℕ, ◌^◌, ◌<◌}
use mathlib.Core.Path.{◌≡◌, sym, ap, ◌∙◌}
use mathlib.Core.List.{List}
use mathlib.Core.Bool.{Bool, true, false, cond}
use lib.ListN.{length, get_or}
use Rattle.le.specs.Bytes.{Bytes}
use Rattle.layout.specs.Record.{Raw, head_widths, with_num, enc_raw, dec_raw}
use Rattle.layout.proofs.Laws.{RawOk, raw_ok, leaf_none, leaf_then, num_ok}

pub none : (p : List ℕ) (f : Raw → Raw) → length p ≡ 256 → Bytes p → f (dec_raw p) ≡ dec_raw p → p ≡ enc_raw (f (dec_raw p))
none p f n b e = leaf_none p n b ∙ ap enc_raw (sym e)

pub one : (p p₁ : List ℕ) (f f₁ : Raw → Raw) → p₁ ≡ enc_raw (f₁ (dec_raw p)) → f (dec_raw p) ≡ f₁ (dec_raw p) → p₁ ≡ enc_raw (f (dec_raw p))
one p p₁ f f₁ e q = e ∙ ap enc_raw (sym q)

pub two : (p p₁ p₂ : List ℕ) (f f₁ f₂ : Raw → Raw) → Bytes p → ((r : Raw) → RawOk r → RawOk (f₁ r))
    → p₁ ≡ enc_raw (f₁ (dec_raw p)) → p₂ ≡ enc_raw (f₂ (dec_raw p₁)) → f (dec_raw p) ≡ f₂ (f₁ (dec_raw p)) → p₂ ≡ enc_raw (f (dec_raw p))
two p p₁ p₂ f f₁ f₂ b ok e₁ e₂ q = leaf_then p p₁ p₂ f₁ f₂ e₁ (ok (dec_raw p) (raw_ok p b)) e₂ ∙ ap enc_raw (sym q)

pub three : (p p₁ p₂ p₃ : List ℕ) (f f₁ f₂ f₃ : Raw → Raw) → Bytes p → ((r : Raw) → RawOk r → RawOk (f₁ r)) → ((r : Raw) → RawOk r → RawOk (f₂ r))
    → p₁ ≡ enc_raw (f₁ (dec_raw p)) → p₂ ≡ enc_raw (f₂ (dec_raw p₁)) → p₃ ≡ enc_raw (f₃ (dec_raw p₂)) → f (dec_raw p) ≡ f₃ (f₂ (f₁ (dec_raw p))) → p₃ ≡ enc_raw (f (dec_raw p))
three p p₁ p₂ p₃ f f₁ f₂ f₃ b ok₁ ok₂ e₁ e₂ e₃ q =
    let o = ok₁ (dec_raw p) (raw_ok p b) in
    leaf_then p p₂ p₃ (λ r. f₂ (f₁ r)) f₃ (leaf_then p p₁ p₂ f₁ f₂ e₁ o e₂) (ok₂ (f₁ (dec_raw p)) o) e₃ ∙ ap enc_raw (sym q)

-- ---- the numbers stay within their widths

pub cond_ok : (b : Bool) (x y : Raw) → RawOk x → RawOk y → RawOk (cond b x y)
cond_ok true x y h k = h
cond_ok false x y h k = k

-- two numbers stored
pub stored_ok : (j k : ℕ) (v w : ℕ) (r : Raw) → w < 256 ^ get_or head_widths k 0 → v < 256 ^ get_or head_widths j 0 → RawOk r → RawOk (with_num j v (with_num k w r))
stored_ok j k v w r h i ok = num_ok (with_num k w r) j v (num_ok r k w ok h) i
