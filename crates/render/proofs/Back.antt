-- What was read was written so: a text's bytes are those of what reading finds in it.
use Prim.Native.Nat.{ℕ, zero, suc, ◌+◌, ◌*◌, ◌-◌, ◌^◌, ◌<◌, ◌≤◌}
use mathlib.Core.Path.{◌≡◌, refl, sym, ap, ◌∙◌, subst}
use mathlib.Core.Bool.{Bool, true, false, cond, true≢false}
use mathlib.Core.List.{List, [], ◌∷◌, ◌++◌, append_assoc}
use native.Mathlib.Omega.{arith}
use Rattle.operators.proofs.Tests.{left, right}
use native.Mathlib.Nat.{pow-le-pow_right}
use lib.Dec.{ltb, leb, eqb, lit<, lit≤}
use lib.IntN.{negsuc}
use lib.ListN.{length, get_or, drop, get_or-eq_default, get_or-map}
use lib.Seq.{drop-cons}
use borrow.Author.Tests.{lt-ltb, eq-eqb, leb-true, eqb-true, eqb-false, ltb-true, ltb-false}
use mir.Syntax.{w64}
use mir.Val.{to_z}
use mir.Facts.{to_z_pos, to_z-neg}
use Rattle.operators.specs.Operators.{Operator, operators, no_operator, name_of}
use Rattle.std.specs.Prelude.{Option, Some, None, Ok}
use Rattle.lines.specs.declared.Scanned.{Scanned}
use Rattle.text.specs.declared.Fields.{Fields}
use Rattle.lines.specs.Form.{ending, value_key, out_key, stands, skip, after, digit, scanned, scan, counted, or_zero, whole, ended_at, ended, field, positive, negative, signed_after, signed, value_line, bit, out_line}
use Rattle.text.specs.Grammar.{op_key, first_key, second_key, letter, name_at, same_name, place, names, number_named, op_line, stream}
use Rattle.lines.proofs.Turns.{grows}
use Rattle.decimal.specs.Decimal.{decimal, value_text}
use Rattle.render.specs.Render.{bit_text, line, stream_text}
use Rattle.decimal.proofs.Digits.{digit_one, digits_snoc}
use Rattle.render.proofs.Written.{line_split}
use Rattle.render.proofs.Ranges.{stream_case, fields_case, op_case}

-- ## Words

abbrev position_of : Option ℕ → ℕ
position_of (Some p) = p
position_of None = 0

abbrev is_past : Option ℕ → Bool
is_past (Some p) = true
is_past None = false

absent : {A : Type 0} {p : ℕ} → None ≡ Some p → A
absent e = absurd (true≢false (sym (ap is_past e)))

there : (s : List ℕ) (at c : ℕ) → at < length s → get_or s at 0 ≡ c → drop at s ≡ c ∷ drop (at + 1) s
there s at c h e =
    let z : suc at ≡ at + 1 = omega arith in
    drop-cons s at 0 h ∙ rw (e, z)

pub skip_read : (s : List ℕ) (w : List ℕ) (at p : ℕ) → skip s at w ≡ Some p → drop at s ≡ w ++ drop p s
unfolding skip
skip_read s [] at p e = ap (λ (n : ℕ). drop n s) (ap position_of e)
skip_read s (c ∷ w) at p e = by (stands s at c) refl e (λ q. skip_read s w (at + 1) p q)
  where
    by : (b : Bool) → stands s at c ≡ b → cond b (skip s (at + 1) w) None ≡ Some p → (skip s (at + 1) w ≡ Some p → drop (at + 1) s ≡ w ++ drop p s) → drop at s ≡ c ∷ (w ++ drop p s)
    by true q e ih = there s at c (ltb-true at (length s) (left (ltb at (length s)) (eqb (get_or s at 0) c) q)) (eqb-true (get_or s at 0) c (right (ltb at (length s)) (eqb (get_or s at 0) c) q)) ∙ ap (λ (l : List ℕ). c ∷ l) (ih e)
    by false q e ih = absent e

-- ## Numbers

-- a byte that is not 0 stands in the text
inside : (s : List ℕ) (at : ℕ) → 0 < get_or s at 0 → at < length s
inside s at h = by (ltb at (length s)) refl
  where
    by : (b : Bool) → ltb at (length s) ≡ b → at < length s
    by true e = ltb-true at (length s) e
    by false e = absurd (omega (arith, get_or-eq_default s 0 {n = at} (ltb-false at (length s) e)))

low : (c : ℕ) → digit c ≡ true → 48 ≤ c
low c e = leb-true 48 c (left (leb 48 c) (leb c 57) e)

high : (c : ℕ) → digit c ≡ true → c ≤ 57
high c e = leb-true c 57 (right (leb 48 c) (leb c 57) e)

pub scan_read : (s : List ℕ) (n p v i w q : ℕ) → 0 < v → v < 10 ^ i → 0 < i → i + n ≤ 19 → scan s p v n ≡ scanned w q → decimal v ++ drop p s ≡ decimal w ++ drop q s
unfolding scan
scan_read s zero p v i w q h b z l e =
    let f : v ≡ w = ap (λ (x : Scanned). x.value) e in
    let g : p ≡ q = ap (λ (x : Scanned). x.next) e in
    rw (f, g)
scan_read s (suc n) p v i w q h b z l e =
    by (digit (get_or s p 0)) refl e
    (λ d f. scan_read s n (p + 1) (v * 10 + (get_or s p 0 - 48)) (i + 1) w q (omega arith) (grows v i (get_or s p 0 - 48) b (omega (arith, high (get_or s p 0) d))) (omega arith) (omega arith) f)
  where
    by : (t : Bool) → digit (get_or s p 0) ≡ t → cond t (scan s (p + 1) (v * 10 + (get_or s p 0 - 48)) n) (scanned v p) ≡ scanned w q
        → (digit (get_or s p 0) ≡ true → scan s (p + 1) (v * 10 + (get_or s p 0 - 48)) n ≡ scanned w q → decimal (v * 10 + (get_or s p 0 - 48)) ++ drop (p + 1) s ≡ decimal w ++ drop q s) → decimal v ++ drop p s ≡ decimal w ++ drop q s
    by false d e ih =
        let f : v ≡ w = ap (λ (x : Scanned). x.value) e in
        let g : p ≡ q = ap (λ (x : Scanned). x.next) e in
        rw (f, g)
    by true d e ih =
        let c = get_or s p 0 in
        let k = low c d in
        let m = high c d in
        let y : 48 + (c - 48) ≡ c = omega arith in
        let r : 10 ^ i ≤ 10 ^ 18 = pow-le-pow_right {n = 10} (lit< tt) {i = i} {j = 18} (omega arith) in
        let t : decimal (v * 10 + (c - 48)) ≡ decimal v ++ (c ∷ []) = digits_snoc 18 v (c - 48) (lit< tt) h (omega arith) (omega arith) ∙ ap (λ (x : ℕ). decimal v ++ (x ∷ [])) y in
        ap (λ (x : List ℕ). decimal v ++ x) (there s p c (inside s p (omega arith)) refl)
        ∙ sym (append_assoc (decimal v) (c ∷ []) (drop (p + 1) s))
        ∙ ap (λ (x : List ℕ). x ++ drop (p + 1) s) (sym t)
        ∙ ih d e

abbrev value_in : Option (ℕ × ℕ) → ℕ
value_in (Some (v, p)) = v
value_in None = 0

abbrev place_in : Option (ℕ × ℕ) → ℕ
place_in (Some (v, p)) = p
place_in None = 0

abbrev is_number : Option (ℕ × ℕ) → Bool
is_number (Some (v, p)) = true
is_number None = false

pub fault : {A : Type 0} {v p : ℕ} → ◌≡◌ {A = Option (ℕ × ℕ)} None (Some (v, p)) → A
fault e = absurd (true≢false (sym (ap is_number e)))

counted_case : (at v p : ℕ) (x : Scanned) → counted at x ≡ Some (v, p) → (x ≡ scanned v p) × (x.next ≡ at → ⊥)
counted_case at v p x e = by (eqb x.next at) refl e
  where
    by : (b : Bool) → eqb x.next at ≡ b → cond {A = Option (ℕ × ℕ)} b None (Some (x.value, x.next)) ≡ Some (v, p) → (x ≡ scanned v p) × (x.next ≡ at → ⊥)
    by true q e = fault e
    by false q e = ((λ i. record { value = ap value_in e i; next = ap place_in e i }), eqb-false x.next at q)

-- a number that does not begin with 0
counted_read : (s : List ℕ) (at m v p : ℕ) → suc m ≤ 19 → (stands s at 48 ≡ true → ⊥) → scan s at 0 (suc m) ≡ scanned v p → ((scan s at 0 (suc m)).next ≡ at → ⊥) → drop at s ≡ decimal v ++ drop p s
unfolding scan
counted_read s at m v p l z e n = by (digit (get_or s at 0)) refl e n
  where
    by : (t : Bool) → digit (get_or s at 0) ≡ t → cond t (scan s (at + 1) (0 * 10 + (get_or s at 0 - 48)) m) (scanned 0 at) ≡ scanned v p → ((cond t (scan s (at + 1) (0 * 10 + (get_or s at 0 - 48)) m) (scanned 0 at)).next ≡ at → ⊥) → drop at s ≡ decimal v ++ drop p s
    by false d e n = absurd (n refl)
    by true d e n =
        let c = get_or s at 0 in
        let k = low c d in
        let h = high c d in
        let o = inside s at (omega arith) in
        let g : c ≡ 48 → ⊥ = λ q. z (rw (lt-ltb at (length s) o, eq-eqb c 48 q)) in
        let w : 0 * 10 + (c - 48) ≡ c - 48 = omega arith in
        let y : 48 + (c - 48) ≡ c = omega arith in
        let f : decimal (c - 48) ≡ c ∷ [] = digit_one 18 (c - 48) (omega arith) ∙ rw y in
        there s at c o refl
        ∙ ap (λ (x : List ℕ). x ++ drop (at + 1) s) (sym f)
        ∙ scan_read s m (at + 1) (c - 48) 1 v p (omega arith) (omega arith) (lit< tt) (omega arith) (rw w at e)

zero_absent : (s : List ℕ) (at : ℕ) → stands s at 48 ≡ true → skip s at (48 ∷ []) ≡ None → ⊥
unfolding skip
zero_absent s at q e = true≢false (ap is_past (rw q at e))

pub whole_read : (s : List ℕ) (at max v p : ℕ) → 0 < max → max ≤ 19 → whole s at max ≡ Some (v, p) → drop at s ≡ decimal v ++ drop p s
unfolding whole
whole_read s at zero v p h l e = absurd (omega arith)
whole_read s at (suc m) v p h l e = by (skip s at (48 ∷ [])) refl e
  where
    by : (x : Option ℕ) → skip s at (48 ∷ []) ≡ x → or_zero x (counted at (scan s at 0 (suc m))) ≡ Some (v, p) → drop at s ≡ decimal v ++ drop p s
    by (Some q) f e =
        let a : 0 ≡ v = ap value_in e in
        let b : q ≡ p = ap place_in e in
        skip_read s (48 ∷ []) at q f ∙ rw (← a, b, digit_one 18 0 (lit< tt))
    by None f e =
        let c = counted_case at v p (scan s at 0 (suc m)) e in
        counted_read s at m v p l (λ q. zero_absent s at q f) c.0 c.1

-- ## Lines

pub ended_read : {A : Type 0} (s : List ℕ) (x : Option (ℕ × ℕ)) (v q : ℕ) → ended s x ≡ Some (v, q) → ((p : ℕ) → x ≡ Some (v, p) → drop p s ≡ 10 ∷ drop q s → A) → A
unfolding ended
ended_read {A = A} s None v q e c = fault e
ended_read {A = A} s (Some (w, p)) v q e c = by (skip s p ending) refl e
  where
    by : (x : Option ℕ) → skip s p ending ≡ x → ended_at w x ≡ Some (v, q) → A
    by (Some t) f e =
        let a : w ≡ v = ap value_in e in
        let b : t ≡ q = ap place_in e in
        c p (ap (λ (n : ℕ). Some (n, p)) a) (skip_read s ending p t f ∙ rw b)
    by None f e = fault e

-- a key, and what follows it
keyed : {A : Type 0} (s : List ℕ) (at : ℕ) (key : List ℕ) (f : ℕ → Option (ℕ × ℕ)) (v q : ℕ) → after (skip s at key) f ≡ Some (v, q) → ((p : ℕ) → drop at s ≡ key ++ drop p s → f p ≡ Some (v, q) → A) → A
keyed {A = A} s at key f v q e c = by (skip s at key) refl e
  where
    by : (x : Option ℕ) → skip s at key ≡ x → after x f ≡ Some (v, q) → A
    by (Some p) g e = c p (skip_read s key at p g) e
    by None g e = fault e

joined : (s key value : List ℕ) (at p t q : ℕ) → drop at s ≡ key ++ drop p s → drop p s ≡ value ++ drop t s → drop t s ≡ 10 ∷ drop q s → drop at s ≡ line key value ++ drop q s
joined s key value at p t q a b c = a ∙ ap (λ (x : List ℕ). key ++ x) (b ∙ ap (λ (x : List ℕ). value ++ x) c) ∙ sym (line_split key value (drop q s))

pub field_read : (s : List ℕ) (at : ℕ) (key : List ℕ) (max v q : ℕ) → 0 < max → max ≤ 19 → field s at key max ≡ Some (v, q) → drop at s ≡ line key (decimal v) ++ drop q s
unfolding field
field_read s at key max v q h l e =
    keyed s at key (λ p. ended s (whole s p max)) v q e
    (λ p f g. ended_read s (whole s p max) v q g
    (λ t k d. joined s key (decimal v) at p t q f (whole_read s p max v t h l k) d))

-- ## k

positive_number : (v : ℕ) → (v ≡ 0 → ⊥) → 0 < v
positive_number zero h = absurd (h refl)
positive_number (suc v) h = omega arith

signed_read : (s : List ℕ) (at k t : ℕ) → signed s at ≡ Some (k, t) → (drop at s ≡ value_text (to_z w64 k) ++ drop t s) × (k < 2 ^ 64)
unfolding signed
signed_read s at k t e = by (skip s at (45 ∷ [])) refl e
  where
    up : (v p : ℕ) (b : Bool) → ltb v (2 ^ 63) ≡ b → whole s at 19 ≡ Some (v, p) → cond {A = Option (ℕ × ℕ)} b (Some (v, p)) None ≡ Some (k, t) → (drop at s ≡ value_text (to_z w64 k) ++ drop t s) × (k < 2 ^ 64)
    up v p false q f e = fault e
    up v p true q f e =
        let a : v ≡ k = ap value_in e in
        let b : p ≡ t = ap place_in e in
        let l : k < 2 ^ 63 = omega (arith, ltb-true v (2 ^ 63) q) in
        (whole_read s at 19 k t (lit< tt) (lit≤ tt) (f ∙ rw (a, b)) ∙ rw (to_z_pos w64 l), omega arith)

    positive_by : (x : Option (ℕ × ℕ)) → whole s at 19 ≡ x → positive x ≡ Some (k, t) → (drop at s ≡ value_text (to_z w64 k) ++ drop t s) × (k < 2 ^ 64)
    positive_by (Some (v, p)) f e = up v p (ltb v (2 ^ 63)) refl f e
    positive_by None f e = fault e

    down : (o v p : ℕ) → drop at s ≡ 45 ∷ drop o s → whole s o 19 ≡ Some (v, p) → (x y : Bool) → eqb v 0 ≡ x → leb v (2 ^ 63) ≡ y → cond {A = Option (ℕ × ℕ)} x None (cond {A = Option (ℕ × ℕ)} y (Some (2 ^ 64 - v, p)) None) ≡ Some (k, t) → (drop at s ≡ value_text (to_z w64 k) ++ drop t s) × (k < 2 ^ 64)
    down o v p d f true y q r e = fault e
    down o v p d f false false q r e = fault e
    down o v p d f false true q r e =
        let a : 2 ^ 64 - v ≡ k = ap value_in e in
        let b : p ≡ t = ap place_in e in
        let l : v ≤ 2 ^ 63 = leb-true v (2 ^ 63) r in
        let n : 0 < v = positive_number v (eqb-false v 0 q) in
        let m : suc (v - 1) ≡ v = omega arith in
        let z : to_z w64 k ≡ negsuc (v - 1) = ap (to_z w64) (sym a ∙ ap (λ (x : ℕ). 2 ^ 64 - x) (sym m)) ∙ to_z-neg w64 (v - 1) (omega arith) in
        (d ∙ ap (λ (x : List ℕ). 45 ∷ x) (whole_read s o 19 v t (lit< tt) (lit≤ tt) (f ∙ rw b)) ∙ rw (z, m), omega arith)

    negative_by : (o : ℕ) → drop at s ≡ 45 ∷ drop o s → (x : Option (ℕ × ℕ)) → whole s o 19 ≡ x → negative x ≡ Some (k, t) → (drop at s ≡ value_text (to_z w64 k) ++ drop t s) × (k < 2 ^ 64)
    negative_by o d (Some (v, p)) f e = down o v p d f (eqb v 0) (leb v (2 ^ 63)) refl refl e
    negative_by o d None f e = fault e

    by : (x : Option ℕ) → skip s at (45 ∷ []) ≡ x → signed_after s at x ≡ Some (k, t) → (drop at s ≡ value_text (to_z w64 k) ++ drop t s) × (k < 2 ^ 64)
    by (Some o) f e = negative_by o (skip_read s (45 ∷ []) at o f) (whole s o 19) refl e
    by None f e = positive_by (whole s at 19) refl e

pub value_read : (s : List ℕ) (at k q : ℕ) → value_line s at ≡ Some (k, q) → (drop at s ≡ line value_key (value_text (to_z w64 k)) ++ drop q s) × (k < 2 ^ 64)
unfolding value_line
value_read s at k q e =
    keyed s at value_key (λ p. ended s (signed s p)) k q e
    (λ p f g. ended_read s (signed s p) k q g
    (λ t r d. let v = signed_read s p k t r in (joined s value_key (value_text (to_z w64 k)) at p t q f v.0 d, v.1)))

-- ## out

pub out_read : (s : List ℕ) (at v q : ℕ) → out_line s at ≡ Some (v, q) → (drop at s ≡ line out_key (bit_text (eqb v 1)) ++ drop q s) × (v ≤ 1)
unfolding out_line
out_read s at v q e = by (field s at out_key 1) refl e
  where
    text_of : (v : ℕ) → v ≤ 1 → decimal v ≡ bit_text (eqb v 1)
    text_of zero h = digit_one 18 0 (lit< tt)
    text_of (suc zero) h = digit_one 18 1 (lit< tt)
    text_of (suc (suc v)) h = absurd (omega arith)

    within : (w p : ℕ) (b : Bool) → leb w 1 ≡ b → field s at out_key 1 ≡ Some (w, p) → cond {A = Option (ℕ × ℕ)} b (Some (w, p)) None ≡ Some (v, q) → (drop at s ≡ line out_key (bit_text (eqb v 1)) ++ drop q s) × (v ≤ 1)
    within w p false r f e = fault e
    within w p true r f e =
        let a : w ≡ v = ap value_in e in
        let b : p ≡ q = ap place_in e in
        let l : v ≤ 1 = omega (arith, leb-true w 1 r) in
        (field_read s at out_key 1 v q (lit< tt) (lit≤ tt) (f ∙ rw (a, b)) ∙ ap (λ (x : List ℕ). line out_key x ++ drop q s) (text_of v l), l)

    by : (x : Option (ℕ × ℕ)) → field s at out_key 1 ≡ x → bit x ≡ Some (v, q) → (drop at s ≡ line out_key (bit_text (eqb v 1)) ++ drop q s) × (v ≤ 1)
    by (Some (w, p)) f e = within w p (leb w 1) refl f e
    by None f e = fault e

-- ## op

name_read : (s : List ℕ) (n p : ℕ) → drop p s ≡ name_at s p n ++ drop (p + length (name_at s p n)) s
unfolding name_at
name_read s zero p = let z : p ≡ p + 0 = omega arith in ap (λ (x : ℕ). drop x s) z
name_read s (suc n) p = by (letter (get_or s p 0)) refl (name_read s n (p + 1))
  where
    by : (b : Bool) → letter (get_or s p 0) ≡ b → drop (p + 1) s ≡ name_at s (p + 1) n ++ drop (p + 1 + length (name_at s (p + 1) n)) s → drop p s ≡ cond b (get_or s p 0 ∷ name_at s (p + 1) n) [] ++ drop (p + length (cond b (get_or s p 0 ∷ name_at s (p + 1) n) [])) s
    by false d ih = let z : p ≡ p + 0 = omega arith in ap (λ (x : ℕ). drop x s) z
    by true d ih =
        let c = get_or s p 0 in
        let k = leb-true 97 c (left (leb 97 c) (leb c 122) d) in
        let z : p + 1 + length (name_at s (p + 1) n) ≡ p + suc (length (name_at s (p + 1) n)) = omega arith in
        there s p c (inside s p (omega arith)) refl ∙ ap (λ (x : List ℕ). c ∷ x) (ih ∙ ap (λ (x : ℕ). name_at s (p + 1) n ++ drop x s) z)

same_name_lem : (w v : List ℕ) → same_name w v ≡ true → w ≡ v
same_name_lem [] [] e = refl
same_name_lem [] (d ∷ v) e = absurd (true≢false (sym e))
same_name_lem (c ∷ w) [] e = absurd (true≢false (sym e))
same_name_lem (c ∷ w) (d ∷ v) e =
    let f : c ≡ d = eqb-true c d (left (eqb c d) (same_name w v) e) in
    rw (f, same_name_lem w v (right (eqb c d) (same_name w v) e))

place_read : (w : List ℕ) (l : List (List ℕ)) (m n : ℕ) → place w l m ≡ n → 0 < n → (m ≤ n) × (get_or l (n - m) [] ≡ w)
unfolding place
place_read w [] m n e h = absurd (omega arith)
place_read w (v ∷ l) m n e h = by (same_name w v) refl e (λ q. place_read w l (m + 1) n q h)
  where
    by : (b : Bool) → same_name w v ≡ b → cond b m (place w l (m + 1)) ≡ n → (place w l (m + 1) ≡ n → (m + 1 ≤ n) × (get_or l (n - (m + 1)) [] ≡ w)) → (m ≤ n) × (get_or (v ∷ l) (n - m) [] ≡ w)
    by true q e ih =
        let z : n - m ≡ 0 = omega arith in
        (omega arith, rw z (sym (same_name_lem w v q)))
    by false q e ih =
        let r = ih e in
        let z : n - m ≡ suc (n - (m + 1)) = omega (arith, r.0) in
        (omega (arith, r.0), rw z r.1)

name_back : (w : List ℕ) (n : ℕ) → number_named w ≡ n → 0 < n → name_of n ≡ w
unfolding number_named name_of
name_back w n e h =
    let r = place_read w names 0 n e h in
    let z : n - 0 ≡ n = omega arith in
    sym (get_or-map (λ (o : Operator). o.name) operators n no_operator) ∙ ap (λ (x : ℕ). get_or names x []) (sym z) ∙ r.1

pub op_read : (s : List ℕ) (at n q : ℕ) → op_line s at ≡ Ok (n, q) → drop at s ≡ line op_key (name_of n) ++ drop q s
op_read s at n q e =
    op_case s at n q e
    (λ p f g h d.
    joined s op_key (name_of n) at p (p + length (name_at s p 5)) q (skip_read s op_key at p f)
    (name_read s 5 p ∙ ap (λ (x : List ℕ). x ++ drop (p + length (name_at s p 5)) s) (sym (name_back (name_at s p 5) n g h)))
    (skip_read s ending (p + length (name_at s p 5)) q d))

-- ## The five lines

pub stream_read : (s : List ℕ) (at : ℕ) (f : Fields) → stream s at ≡ Ok f → (drop at s ≡ stream_text f.op f.a f.b (to_z w64 f.k) (eqb f.out 1) ++ drop f.next s) × (f.k < 2 ^ 64) × (f.out ≤ 1)
unfolding stream_text
stream_read s at f e =
    stream_case s at f e
    (λ op p l r. fields_case s op p f r
    (λ a p₁ b p₂ k p₃ out end e₁ e₂ e₃ e₄ same.
    let v = value_read s p₂ k p₃ e₃ in
    let o = out_read s p₃ out end e₄ in
    let lo = line out_key (bit_text (eqb out 1)) in
    let lv = line value_key (value_text (to_z w64 k)) in
    let lb = line second_key (decimal b) in
    let la = line first_key (decimal a) in
    subst (λ (g : Fields). (drop at s ≡ stream_text g.op g.a g.b (to_z w64 g.k) (eqb g.out 1) ++ drop g.next s) × (g.k < 2 ^ 64) × (g.out ≤ 1)) same (
      op_read s at op p l
          ∙ ap (λ (x : List ℕ). line op_key (name_of op) ++ x)
          (field_read s p first_key 3 a p₁ (lit< tt) (lit≤ tt) e₁
          ∙ ap (λ (x : List ℕ). la ++ x)
          (field_read s p₁ second_key 3 b p₂ (lit< tt) (lit≤ tt) e₂
          ∙ ap (λ (x : List ℕ). lb ++ x) (v.0 ∙ ap (λ (x : List ℕ). lv ++ x) o.0 ∙ sym (append_assoc lv lo (drop end s)))
          ∙ sym (append_assoc lb (lv ++ lo) (drop end s)))
          ∙ sym (append_assoc la (lb ++ (lv ++ lo)) (drop end s)))
          ∙ sym (append_assoc (line op_key (name_of op)) (la ++ (lb ++ (lv ++ lo))) (drop end s)),
      v.1,
      o.1,
    )))
