-- One turn of each loop: what is left decides the whole.
use Prim.Native.Nat.{ℕ, zero, suc, ◌+◌, ◌*◌, ◌-◌, ◌^◌, ◌<◌, ◌≤◌}
use mathlib.Core.Path.{◌≡◌, refl, sym, ap, ◌∙◌}
use mathlib.Core.List.{List, [], ◌∷◌}
use mathlib.Core.Bool.{false, cond}
use native.Mathlib.Nat.{pow-suc, pow-le-pow_right}
use native.Mathlib.Omega.{arith}
use lib.Dec.{lit<}
use lib.ListN.{length, get_or, drop, drop_of_length-le, get_or-eq_default}
use lib.Seq.{drop-cons}
use borrow.Author.Tests.{le-leb, lt-leb, lt-ltb, le-ltb, eq-eqb, ne_eqb}
use Rattle.std.specs.Prelude.{Some, None}
use Rattle.lines.specs.Form.{stands, skip, digit, scanned, scan}

-- ## A word

skip_cons : (s : List ℕ) (p c : ℕ) (w : List ℕ) → skip s p (c ∷ w) ≡ cond (stands s p c) (skip s (p + 1) w) None
unfolding skip
skip_cons s p c w = refl

skip_nil : (s : List ℕ) (p : ℕ) → skip s p [] ≡ Some p
unfolding skip
skip_nil s p = refl

module _ (s : List ℕ) (p : ℕ) (w : List ℕ) (i : ℕ) where
  skip_turn : i < length w → skip s p (drop i w) ≡ cond (stands s p (get_or w i 0)) (skip s (p + 1) (drop (i + 1) w)) None
  skip_turn h =
      let e : i + 1 ≡ suc i = omega arith in
      rw (drop-cons w i 0 h, e) (skip_cons s p (get_or w i 0) (drop (suc i) w))

  pub skip_past : i < length w → length s ≤ p → None ≡ skip s p (drop i w)
  skip_past h l = sym (skip_turn h ∙ rw (le-ltb p (length s) l))

  pub skip_other : i < length w → p < length s → (get_or s p 0 ≡ get_or w i 0 → ⊥) → None ≡ skip s p (drop i w)
  skip_other h l n = sym (skip_turn h ∙ rw (lt-ltb p (length s) l, ne_eqb (get_or s p 0) (get_or w i 0) n))

  pub skip_go : i < length w → p < length s → get_or s p 0 ≡ get_or w i 0 → skip s (p + 1) (drop (i + 1) w) ≡ skip s p (drop i w)
  skip_go h l e = sym (skip_turn h ∙ rw (lt-ltb p (length s) l, eq-eqb (get_or s p 0) (get_or w i 0) e))

  pub skip_end : length w ≤ i → Some p ≡ skip s p (drop i w)
  skip_end h = sym (rw (drop_of_length-le w h) (skip_nil s p))

-- ## Digits

scan_turn : (s : List ℕ) (p v n : ℕ) → 0 < n → scan s p v n ≡ cond (digit (get_or s p 0)) (scan s (p + 1) (v * 10 + (get_or s p 0 - 48)) (n - 1)) (scanned v p)
unfolding scan
scan_turn s p v zero h = absurd (omega arith)
scan_turn s p v (suc n) h =
    let e : suc n - 1 ≡ n = omega arith in
    rw e

module _ (s : List ℕ) (p v n : ℕ) where
  pub scan_stop : 0 < n → digit (get_or s p 0) ≡ false → scanned v p ≡ scan s p v n
  scan_stop h e = sym (scan_turn s p v n h ∙ rw e)

  pub scan_past : 0 < n → length s ≤ p → scanned v p ≡ scan s p v n
  scan_past h l = scan_stop h (ap digit (get_or-eq_default s 0 {n = p} l))

  module _ (h : 0 < n) (c : ℕ) (e : c ≡ get_or s p 0) where
    pub scan_low : c < 48 → scanned v p ≡ scan s p v n
    scan_low l = scan_stop h (rw (lt-leb 48 (get_or s p 0) (omega arith)))

    pub scan_go : 48 ≤ c → c ≤ 57 → (m : ℕ) → m ≡ n - 1 → scan s (p + 1) (v * 10 + (c - 48)) m ≡ scan s p v n
    scan_go l k m q = rw (q, e) (sym (scan_turn s p v n h ∙ rw (le-leb 48 (get_or s p 0) (omega arith), le-leb (get_or s p 0) 57 (omega arith))))

scan_none : (s : List ℕ) (p v : ℕ) → scan s p v 0 ≡ scanned v p
unfolding scan
scan_none s p v = refl

pub scan_end : (s : List ℕ) (p v n : ℕ) → n ≡ 0 → scanned v p ≡ scan s p v n
scan_end s p v n e = sym (ap (scan s p v) e ∙ scan_none s p v)

-- i digits are below 10 ^ i
pub grows : (v i d : ℕ) → v < 10 ^ i → d ≤ 9 → v * 10 + d < 10 ^ (i + 1)
grows v i d h k =
    let e : i + 1 ≡ suc i = omega arith in
    rw (e, pow-suc 10 i) (omega arith)

-- so nineteen fit
pub fits : (v i d : ℕ) → v < 10 ^ i → i < 19 → d ≤ 9 → v * 10 + d < 2 ^ 64
fits v i d h l k =
    let m : 10 ^ (i + 1) ≤ 10 ^ 19 = pow-le-pow_right {n = 10} (lit< tt) {i = i + 1} {j = 19} (omega arith) in
    omega (arith, grows v i d h k)
