-- Laws of stores into bytes that lie by a layout: one for every field, one for every row.
use Prim.Native.Nat.{ℕ, zero, suc, ◌+◌, ◌*◌, ◌<◌, ◌≤◌}
use mathlib.Core.Path.{◌≡◌, refl, sym, ap, ap₂, ◌∙◌}
use mathlib.Core.List.{List, [], ◌∷◌, ◌++◌}
use native.Mathlib.Nat.{zero-add, zero-mul, suc-mul, le_of_suc-le-suc}
use native.Mathlib.Omega.{arith}
use lib.ListN.{length, get_or, take, drop, set, length-append, length-set, length-drop, take-append-drop}
use lib.Seq.{sets, set-append_left, length-take-le, take-take, drop-drop}
use Rattle.le.specs.Bytes.{le, enc, part, Bytes}
use Rattle.le.proofs.Laws.{length_enc, enc_le, take_bytes, drop_bytes}
use Rattle.le.specs.Layout.{enc_fields, dec_fields, enc_rows, dec_rows, total, offset}

-- ---- runs of stores

pub sets_left : (xs ys : List ℕ) (i : ℕ) (vs : List ℕ) → i + length vs ≤ length xs → sets (xs ++ ys) i vs ≡ sets xs i vs ++ ys
sets_left xs ys i [] h = refl
sets_left xs ys i (v ∷ vs) h =
    let hi : i < length xs = omega arith in
    rw (set-append_left xs ys i v hi) (sets_left (set xs i v) ys (suc i) vs (rw length-set (omega arith)))

sets_cons : (x : ℕ) (l : List ℕ) (j : ℕ) (vs : List ℕ) → sets (x ∷ l) (suc j) vs ≡ x ∷ sets l j vs
sets_cons x l j [] = refl
sets_cons x l j (v ∷ vs) = sets_cons x (set l j v) (suc j) vs

pub sets_right : (xs ys : List ℕ) (i : ℕ) (vs : List ℕ) → sets (xs ++ ys) (length xs + i) vs ≡ xs ++ sets ys i vs
sets_right [] ys i vs = rw zero-add
sets_right (x ∷ xs) ys i vs =
    let e : suc (length xs) + i ≡ suc (length xs + i) = omega arith in
    rw e (sets_cons x (xs ++ ys) (length xs + i) vs ∙ ap (◌∷◌ x) (sets_right xs ys i vs))

pub sets_whole : (xs vs : List ℕ) → length xs ≡ length vs → sets xs 0 vs ≡ vs
sets_whole [] [] h = refl
sets_whole [] (v ∷ vs) h = absurd (omega arith)
sets_whole (x ∷ xs) [] h = absurd (omega arith)
sets_whole (x ∷ xs) (v ∷ vs) h = sets_cons v xs 0 vs ∙ ap (◌∷◌ v) (sets_whole xs vs (omega arith))

-- ---- fields

pub length_fields : (ws vs : List ℕ) → length (enc_fields ws vs) ≡ total ws
unfolding enc_fields total
length_fields [] vs = refl
length_fields (w ∷ ws) [] = length-append (enc w 0) (enc_fields ws []) ∙ ap₂ ◌+◌ (length_enc w 0) (length_fields ws [])
length_fields (w ∷ ws) (v ∷ vs) = length-append (enc w v) (enc_fields ws vs) ∙ ap₂ ◌+◌ (length_enc w v) (length_fields ws vs)

-- a store of field j
pub fields_set : (ws vs : List ℕ) (j v : ℕ) → j < length ws → j < length vs → sets (enc_fields ws vs) (offset ws j) (enc (get_or ws j 0) v) ≡ enc_fields ws (set vs j v)
unfolding enc_fields offset
fields_set [] vs j v h k = absurd (omega arith)
fields_set (w ∷ ws) [] j v h k = absurd (omega arith)
fields_set (w ∷ ws) (x ∷ vs) zero v h k =
    let e : length (enc w x) ≡ length (enc w v) = length_enc w x ∙ sym (length_enc w v) in
    sets_left (enc w x) (enc_fields ws vs) 0 (enc w v) (omega arith)
    ∙ ap (λ (l : List ℕ). l ++ enc_fields ws vs) (sets_whole (enc w x) (enc w v) e)
fields_set (w ∷ ws) (x ∷ vs) (suc j) v h k =
    ap (λ (n : ℕ). sets (enc w x ++ enc_fields ws vs) (n + offset ws j) (enc (get_or ws j 0) v)) (sym (length_enc w x))
    ∙ sets_right (enc w x) (enc_fields ws vs) (offset ws j) (enc (get_or ws j 0) v)
    ∙ ap (λ (l : List ℕ). enc w x ++ l) (fields_set ws vs j v (le_of_suc-le-suc h) (le_of_suc-le-suc k))

pub fields_dec : (ws s : List ℕ) → length s ≡ total ws → Bytes s → enc_fields ws (dec_fields ws s) ≡ s
unfolding enc_fields dec_fields total
fields_dec [] [] h b = refl
fields_dec [] (x ∷ s) h b = absurd (omega arith)
fields_dec (w ∷ ws) s h b =
    let e : length (take w s) ≡ w = length-take-le w s (omega arith) in
    let d : length (drop w s) ≡ total ws = length-drop w s ∙ omega arith in
    ap₂ ◌++◌ (ap (λ (n : ℕ). enc n (le (take w s))) (sym e) ∙ enc_le (take w s) (take_bytes w s b)) (fields_dec ws (drop w s) d (drop_bytes s w b))
    ∙ take-append-drop w s

-- ---- rows of c bytes

module _ {A : Type 0} (f : A → List ℕ) (d : A) (c : ℕ) (len : (a : A) → length (f a) ≡ c) where
  pub length_rows : (n : ℕ) (l : List A) → length (enc_rows f d n l) ≡ n * c
  unfolding enc_rows
  length_rows zero l = sym (zero-mul c)
  length_rows (suc n) [] = length-append (f d) (enc_rows f d n []) ∙ ap₂ ◌+◌ (len d) (length_rows n []) ∙ rw suc-mul (omega arith)
  length_rows (suc n) (a ∷ l) = length-append (f a) (enc_rows f d n l) ∙ ap₂ ◌+◌ (len a) (length_rows n l) ∙ rw suc-mul (omega arith)

  -- a store within row i
  pub rows_set : (n : ℕ) (l : List A) (i o : ℕ) (vs : List ℕ) (a' : A) → i < n → i < length l → o + length vs ≤ c → f a' ≡ sets (f (get_or l i d)) o vs
      → sets (enc_rows f d n l) (i * c + o) vs ≡ enc_rows f d n (set l i a')
  unfolding enc_rows
  rows_set zero l i o vs a' h k b e = absurd (omega arith)
  rows_set (suc n) [] i o vs a' h k b e = absurd (omega arith)
  rows_set (suc n) (a ∷ l) zero o vs a' h k b e =
      let z : 0 * c + o ≡ o = ap (λ (x : ℕ). x + o) (zero-mul c) ∙ zero-add o in
      let q : o + length vs ≤ length (f a) = rw (len a) b in
      rw z (sets_left (f a) (enc_rows f d n l) o vs q ∙ ap (λ (r : List ℕ). r ++ enc_rows f d n l) (sym e))
  rows_set (suc n) (a ∷ l) (suc i) o vs a' h k b e =
      let z : suc i * c + o ≡ length (f a) + (i * c + o) = rw (suc-mul, len a) (omega arith) in
      rw z (sets_right (f a) (enc_rows f d n l) (i * c + o) vs
      ∙ ap (λ (r : List ℕ). f a ++ r) (rows_set n l i o vs a' (le_of_suc-le-suc h) (le_of_suc-le-suc k) b e))

  pub rows_dec : (g : List ℕ → A) → ((s : List ℕ) → length s ≡ c → Bytes s → f (g s) ≡ s) → (n : ℕ) (s : List ℕ) → length s ≡ n * c → Bytes s → enc_rows f d n (dec_rows g c n s) ≡ s
  unfolding enc_rows dec_rows
  rows_dec g inv zero [] h b = refl
  rows_dec g inv zero (x ∷ s) h b = absurd (omega (arith, zero-mul c))
  rows_dec g inv (suc n) s h b =
      let m : length s ≡ n * c + c = h ∙ suc-mul n c in
      let e : length (take c s) ≡ c = length-take-le c s (omega arith) in
      let q : length (drop c s) ≡ n * c = length-drop c s ∙ omega arith in
      ap₂ ◌++◌ (inv (take c s) e (take_bytes c s b)) (rows_dec g inv n (drop c s) q (drop_bytes s c b)) ∙ take-append-drop c s

pub length_dec_rows : {A : Type 0} (g : List ℕ → A) (c n : ℕ) (s : List ℕ) → length (dec_rows g c n s) ≡ n
unfolding dec_rows
length_dec_rows g c zero s = refl
length_dec_rows g c (suc n) s = ap suc (length_dec_rows g c n (drop c s))

-- ---- what is read

-- a part of a part
pub part_part : (w o c : ℕ) (l : List ℕ) → o + w ≤ c → take w (drop o (take c l)) ≡ take w (drop o l)
part_part w zero c l h = take-take w c l (omega arith)
part_part w (suc o) zero l h = absurd (omega arith)
part_part w (suc o) (suc c) [] h = refl
part_part w (suc o) (suc c) (x ∷ l) h = part_part w o c l (omega arith)

pub fields_get : (ws s : List ℕ) (j : ℕ) → j < length ws → get_or (dec_fields ws s) j 0 ≡ le (part s (offset ws j) (get_or ws j 0))
unfolding dec_fields offset
fields_get [] s j h = absurd (omega arith)
fields_get (w ∷ ws) s zero h = refl
fields_get (w ∷ ws) s (suc j) h =
    fields_get ws (drop w s) j (le_of_suc-le-suc h) ∙ ap (λ (l : List ℕ). le (take (get_or ws j 0) l)) (drop-drop (offset ws j) w s)

pub rows_get : {A : Type 0} (g : List ℕ → A) (d : A) (c n : ℕ) (s : List ℕ) (i : ℕ) → i < n → get_or (dec_rows g c n s) i d ≡ g (part s (i * c) c)
unfolding dec_rows
rows_get g d c zero s i h = absurd (omega arith)
rows_get g d c (suc n) s zero h = rw zero-mul
rows_get g d c (suc n) s (suc i) h =
    let e : c + i * c ≡ suc i * c = rw suc-mul (omega arith) in
    rows_get g d c n (drop c s) i (le_of_suc-le-suc h) ∙ ap (λ (l : List ℕ). g (take c l)) (drop-drop (i * c) c s ∙ ap (λ (m : ℕ). drop m s) e)
