-- What is written is read: numbers, lines, and a stream's five lines.
use Prim.Native.Nat.{ℕ, zero, suc, ◌+◌, ◌*◌, ◌-◌, ◌/◌, ◌%◌, ◌^◌, ◌<◌, ◌≤◌}
use mathlib.Core.Path.{◌≡◌, refl, sym, ap, ◌∙◌}
use mathlib.Core.List.{List, [], ◌∷◌, ◌++◌, append_assoc}
use native.Mathlib.Nat.{pow-le-pow_right}
use native.Mathlib.Omega.{arith}
use lib.Dec.{lit<}
use lib.ListN.{length, get_or, drop, length-append, length-drop}
use lib.Seq.{get_or-drop, drop-drop, drop-append_seam}
use borrow.Author.Tests.{lt-ltb, eq-eqb, ne_eqb}
use Rattle.std.specs.Prelude.{Option, Some, None}
use Rattle.lines.specs.Form.{ending, skip, scanned, scan, whole, ended, field}
use Rattle.lines.proofs.Turns.{scan_go, scan_low, scan_end}
use Rattle.decimal.specs.Decimal.{digits, decimal}
use Rattle.render.specs.Render.{line}
use Rattle.decimal.proofs.Digits.{digit_one, digit_more, small_or, digits_some, digits_first, digits_few, tenth}

-- ## Positions

-- what follows a position, byte by byte
pub here : (s : List ℕ) (at c : ℕ) (r : List ℕ) → drop at s ≡ c ∷ r → (at < length s) × (get_or s at 0 ≡ c) × (drop (at + 1) s ≡ r)
here s at c r e =
    let z : at + 0 ≡ at = omega arith in
    let l : length s - at ≡ suc (length r) = sym (length-drop at s) ∙ ap length e in
    (omega arith, ap (λ (n : ℕ). get_or s n 0) (sym z) ∙ sym (get_or-drop at s 0 0) ∙ ap (λ (l : List ℕ). get_or l 0 0) e, sym (drop-drop 1 at s) ∙ ap (drop 1) e)

pub on : (s : List ℕ) (at : ℕ) (w r : List ℕ) → drop at s ≡ w ++ r → drop (at + length w) s ≡ r
on s at w r e = sym (drop-drop (length w) at s) ∙ ap (drop (length w)) e ∙ drop-append_seam w r

-- ## Words

pub skip_written : (s : List ℕ) (w : List ℕ) (at : ℕ) (r : List ℕ) → drop at s ≡ w ++ r → skip s at w ≡ Some (at + length w)
unfolding skip
skip_written s [] at r e = ap Some (omega arith)
skip_written s (c ∷ w) at r e =
    let h = here s at c (w ++ r) e in
    let z : at + 1 + length w ≡ at + suc (length w) = omega arith in
    rw (lt-ltb at (length s) h.0, eq-eqb (get_or s at 0) c h.1) (skip_written s w (at + 1) r h.2 ∙ ap Some z)

pub skip_absent : (s : List ℕ) (at c d : ℕ) (w r : List ℕ) → drop at s ≡ d ∷ r → (d ≡ c → ⊥) → skip s at (c ∷ w) ≡ None
unfolding skip
skip_absent s at c d w r e n =
    let h = here s at d r e in
    rw (lt-ltb at (length s) h.0, ne_eqb (get_or s at 0) c (λ q. n (sym h.1 ∙ q)))

-- ## Numbers

-- the digits of v lead the scan from 0 to v
pub scan_digits : (s : List ℕ) (f v at : ℕ) (r : List ℕ) → 0 < f → v < 10 ^ f → drop at s ≡ digits f v ++ r → (n : ℕ) → length (digits f v) ≤ n → scan s at 0 n ≡ scan s (at + length (digits f v)) v (n - length (digits f v))
scan_digits s zero v at r z h e n l = absurd (omega arith)
scan_digits s (suc f) v at r z h e n l =
    small_or v
    (λ k.
    let q = digit_one f v k in
    let t = here s at (48 + v) r (e ∙ rw q) in
    let y : length (digits (suc f) v) ≡ 1 = ap length q in
    let w : 0 * 10 + (48 + v - 48) ≡ v = omega arith in
    rw y (sym (scan_go s at 0 n (omega arith) (48 + v) (sym t.1) (omega arith) (omega arith) (n - 1) refl) ∙ rw w))
    (λ k.
    let q = digit_more f v k in
    let d = digits f (v / 10) in
    let x = 48 + v % 10 in
    let y : length (digits (suc f) v) ≡ length d + 1 = ap length q ∙ length-append d (x ∷ []) in
    let e₁ : drop at s ≡ d ++ (x ∷ r) = e ∙ rw q (append_assoc d (x ∷ []) r) in
    let p = at + length d in
    let t = here s p x r (on s at d (x ∷ r) e₁) in
    let w : v / 10 * 10 + (x - 48) ≡ v = omega arith in
    let z₁ : at + (length d + 1) ≡ p + 1 = omega arith in
    let z₂ : n - (length d + 1) ≡ n - length d - 1 = omega arith in
    rw (y, z₁, z₂)
    (scan_digits s f (v / 10) at (x ∷ r) (room f k h) (tenth f v h) e₁ n (omega arith)
    ∙ sym (scan_go s p (v / 10) (n - length d) (omega arith) x (sym t.1) (omega arith) (omega arith) (n - length d - 1) refl)
    ∙ rw w))
  where
    room : (f : ℕ) → 10 ≤ v → v < 10 ^ suc f → 0 < f
    room zero k h = absurd (omega arith)
    room (suc f) k h = omega arith

-- the scan stops at a byte that is no digit
stopped : (s : List ℕ) (p v n : ℕ) → get_or s p 0 ≡ 10 → scan s p v n ≡ scanned v p
stopped s p v zero e = sym (scan_end s p v 0 refl)
stopped s p v (suc n) e = sym (scan_low s p v (suc n) (omega arith) 10 (sym e) (lit< tt))

-- the number v with the rest r behind it, within the text
abbrev pub Finds : List ℕ → Option (ℕ × ℕ) → ℕ → List ℕ → Type 0
Finds s x v r = (p : ℕ) × (x ≡ Some (v, p)) × (drop p s ≡ r) × (p ≤ length s)

found_digits : (s : List ℕ) (at v max : ℕ) (r d : List ℕ) → d ≡ decimal v → 0 < v → v < 10 ^ 19 → length d ≤ max → drop at s ≡ d ++ (10 ∷ r) → Finds s (whole s at max) v (10 ∷ r)
unfolding whole
found_digits s at v max r [] q h b l e = absurd (omega (arith, digits_some 19 v (lit< tt), ap length q))
found_digits s at v max r (c ∷ d) q h b l e =
    let k = (digits_first 19 v (lit< tt) b).1 h in
    let f : get_or (decimal v) 0 0 ≡ c = ap (λ (x : List ℕ). get_or x 0 0) (sym q) in
    let n : length (decimal v) ≡ suc (length d) = ap length (sym q) in
    let p = at + length (decimal v) in
    let o : drop p s ≡ 10 ∷ r = on s at (decimal v) (10 ∷ r) (e ∙ ap (λ (x : List ℕ). x ++ (10 ∷ r)) q) in
    let t = here s p 10 r o in (
      p,
      rw (skip_absent s at 48 c [] (d ++ (10 ∷ r)) e (λ z. omega arith), scan_digits s 19 v at (10 ∷ r) (lit< tt) b (e ∙ ap (λ (x : List ℕ). x ++ (10 ∷ r)) q) max (omega arith), stopped s p v (max - length (decimal v)) t.1, ne_eqb p at (λ z. omega arith)),
      o,
      omega (arith, t.0),
    )

whole_zero : (s : List ℕ) (at max p : ℕ) → skip s at (48 ∷ []) ≡ Some p → whole s at max ≡ Some (0, p)
unfolding whole
whole_zero s at max p e = rw e

pub whole_written : (s : List ℕ) (at v max : ℕ) (r : List ℕ) → 0 < max → max ≤ 19 → v < 10 ^ max → drop at s ≡ decimal v ++ (10 ∷ r) → Finds s (whole s at max) v (10 ∷ r)
whole_written s at zero max r h m l e =
    let q : decimal 0 ≡ 48 ∷ [] = digit_one 18 0 (lit< tt) in
    let e₁ : drop at s ≡ (48 ∷ []) ++ (10 ∷ r) = e ∙ rw q in
    (at + 1, whole_zero s at max (at + 1) (skip_written s (48 ∷ []) at (10 ∷ r) e₁), on s at (48 ∷ []) (10 ∷ r) e₁, omega (arith, (here s at 48 (10 ∷ r) e₁).0))
whole_written s at (suc v) max r h m l e =
    let b : 10 ^ max ≤ 10 ^ 19 = pow-le-pow_right {n = 10} (lit< tt) {i = max} {j = 19} m in
    found_digits s at (suc v) max r (decimal (suc v)) refl (omega arith) (omega arith) (digits_few 19 (suc v) max h l) e

-- ## Lines

pub ended_written : (s : List ℕ) (x : Option (ℕ × ℕ)) (v : ℕ) (r : List ℕ) → Finds s x v (10 ∷ r) → Finds s (ended s x) v r
unfolding ended
ended_written s x v r f =
    let p = f.0 in
    (p + 1, rw (f.1, skip_written s ending p r f.2), on s p ending r f.2, omega (arith, (here s p 10 r f.2).0))

pub line_split : (key value r : List ℕ) → line key value ++ r ≡ key ++ (value ++ (10 ∷ r))
line_split key value r = append_assoc key (value ++ ending) r ∙ ap (λ (l : List ℕ). key ++ l) (append_assoc value ending r)

pub field_written : (s : List ℕ) (at : ℕ) (key : List ℕ) (v max : ℕ) (r : List ℕ) → 0 < max → max ≤ 19 → v < 10 ^ max → drop at s ≡ line key (decimal v) ++ r → Finds s (field s at key max) v r
unfolding field
field_written s at key v max r h m l e =
    let e₁ = e ∙ line_split key (decimal v) r in
    let p = at + length key in
    rw (skip_written s key at (decimal v ++ (10 ∷ r)) e₁)
    (ended_written s (whole s p max) v r (whole_written s p v max r h m l (on s at key (decimal v ++ (10 ∷ r)) e₁)))
