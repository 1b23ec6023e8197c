-- Numbers and rows that lie in bytes: decode of encode, within their widths; and elements of lists.
use Prim.Native.Nat.{ℕ, zero, suc, ◌+◌, ◌*◌, ◌^◌, ◌<◌, ◌≤◌}
use mathlib.Core.Path.{◌≡◌, refl, sym, ap, ap₂, ◌∙◌}
use mathlib.Core.List.{List, [], ◌∷◌, ◌++◌, map, append_assoc}
use native.Mathlib.Omega.{arith}
use native.Mathlib.Nat.{add-zero, zero-add, zero-mul, suc-mul}
use lib.ListN.{length, get_or, take, drop, set, drop_of_length-le}
use lib.Seq.{sets, take_at, drop_at, drop-drop, take-take, take-nil, drop-cons, drop-append-add}
use Rattle.le.specs.Bytes.{le, enc, Bytes}
use Rattle.le.proofs.Laws.{length_enc, le_enc, take_bytes, drop_bytes, part_below}
use Rattle.le.specs.Layout.{enc_fields, dec_fields, enc_rows, dec_rows, each_row, fold}

-- ---- numbers within their widths

abbrev pub Small : List ℕ → List ℕ → Type 0
Small [] [] = Unit {0}
Small [] (v ∷ vs) = ⊥
Small (w ∷ ws) [] = ⊥
Small (w ∷ ws) (v ∷ vs) = (v < 256 ^ w) × Small ws vs

pub fields_enc : (ws vs : List ℕ) → Small ws vs → dec_fields ws (enc_fields ws vs) ≡ vs
unfolding enc_fields dec_fields
fields_enc [] [] h = refl
fields_enc [] (v ∷ vs) h = absurd h
fields_enc (w ∷ ws) [] h = absurd h
fields_enc (w ∷ ws) (v ∷ vs) h =
    ap₂ ◌∷◌
    (ap le (take_at (enc w v) (enc_fields ws vs) w (length_enc w v)) ∙ le_enc w v h.0)
    (ap (dec_fields ws) (drop_at (enc w v) (enc_fields ws vs) w (length_enc w v)) ∙ fields_enc ws vs h.1)

abbrev pub All : {A : Type 0} → (A → Type 0) → List A → Type 0
All P [] = Unit {0}
All P (a ∷ l) = P a × All P l

pub rows_enc : {A : Type 0} (P : A → Type 0) (f : A → List ℕ) (d : A) (g : List ℕ → A) (c : ℕ) → ((a : A) → length (f a) ≡ c) → ((a : A) → P a → g (f a) ≡ a)
    → (n : ℕ) (l : List A) → length l ≡ n → All P l → dec_rows g c n (enc_rows f d n l) ≡ l
unfolding enc_rows dec_rows
rows_enc P f d g c len inv zero [] h p = refl
rows_enc P f d g c len inv zero (a ∷ l) h p = absurd (omega arith)
rows_enc P f d g c len inv (suc n) [] h p = absurd (omega arith)
rows_enc P f d g c len inv (suc n) (a ∷ l) h p =
    ap₂ ◌∷◌
    (ap g (take_at (f a) (enc_rows f d n l) c (len a)) ∙ inv a p.0)
    (ap (dec_rows g c n) (drop_at (f a) (enc_rows f d n l) c (len a)) ∙ rows_enc P f d g c len inv n l (omega arith) p.1)

pub fields_small : (ws s : List ℕ) → Bytes s → Small ws (dec_fields ws s)
unfolding dec_fields
fields_small [] s b = tt
fields_small (w ∷ ws) s b = (part_below s 0 w b, fields_small ws (drop w s) (drop_bytes s w b))

pub nums_len : (ws vs : List ℕ) → Small ws vs → length vs ≡ length ws
nums_len [] [] h = refl
nums_len [] (v ∷ vs) h = absurd h
nums_len (w ∷ ws) [] h = absurd h
nums_len (w ∷ ws) (v ∷ vs) h = ap suc (nums_len ws vs h.1)

pub small_set : (ws vs : List ℕ) (j v : ℕ) → Small ws vs → v < 256 ^ get_or ws j 0 → Small ws (set vs j v)
small_set [] [] j v h k = tt
small_set [] (x ∷ vs) j v h k = absurd h
small_set (w ∷ ws) [] j v h k = absurd h
small_set (w ∷ ws) (x ∷ vs) zero v h k = (k, h.1)
small_set (w ∷ ws) (x ∷ vs) (suc j) v h k = (h.0, small_set ws vs j v h.1 k)

pub small_at : (ws vs : List ℕ) (j : ℕ) → Small ws vs → j < length ws → get_or vs j 0 < 256 ^ get_or ws j 0
small_at [] vs j h k = absurd (omega arith)
small_at (w ∷ ws) [] j h k = absurd h
small_at (w ∷ ws) (v ∷ vs) zero h k = h.0
small_at (w ∷ ws) (v ∷ vs) (suc j) h k = small_at ws vs j h.1 (omega arith)

-- ---- every element of a list

pub rows_all : {A : Type 0} (P : A → Type 0) (g : List ℕ → A) (c : ℕ) → ((s : List ℕ) → Bytes s → P (g s)) → (n : ℕ) (s : List ℕ) → Bytes s → All P (dec_rows g c n s)
unfolding dec_rows
rows_all P g c h zero s b = tt
rows_all P g c h (suc n) s b = (h (take c s) (take_bytes c s b), rows_all P g c h n (drop c s) (drop_bytes s c b))

pub all_at : {A : Type 0} (P : A → Type 0) (l : List A) (i : ℕ) (d : A) → All P l → i < length l → P (get_or l i d)
all_at P [] i d h k = absurd (omega arith)
all_at P (a ∷ l) zero d h k = h.0
all_at P (a ∷ l) (suc i) d h k = all_at P l i d h.1 (omega arith)

pub all_set : {A : Type 0} (P : A → Type 0) (l : List A) (i : ℕ) (x : A) → All P l → P x → All P (set l i x)
all_set P [] i x h k = tt
all_set P (a ∷ l) zero x h k = (k, h.1)
all_set P (a ∷ l) (suc i) x h k = (h.0, all_set P l i x h.1 k)

pub all_map : {A : Type 0} (P : A → Type 0) (f : A → A) (l : List A) → ((a : A) → P a → P (f a)) → All P l → All P (map f l)
all_map P f [] k h = tt
all_map P f (a ∷ l) k h = (k a h.0, all_map P f l k h.1)

-- ---- rows

module _ {A : Type 0} (f : A → List ℕ) (d : A) (c : ℕ) (len : (a : A) → length (f a) ≡ c) where
  pub rows_split : (n m : ℕ) (x y : List A) → length x ≡ n → enc_rows f d (n + m) (x ++ y) ≡ enc_rows f d n x ++ enc_rows f d m y
  unfolding enc_rows
  rows_split zero m [] y h = ap (λ (j : ℕ). enc_rows f d j y) (zero-add m)
  rows_split zero m (a ∷ x) y h = absurd (omega arith)
  rows_split (suc n) m [] y h = absurd (omega arith)
  rows_split (suc n) m (a ∷ x) y h =
      let e : suc n + m ≡ suc (n + m) = omega arith in
      rw e (ap (λ (l : List ℕ). f a ++ l) (rows_split n m x y (omega arith)) ∙ sym (append_assoc (f a) (enc_rows f d n x) (enc_rows f d m y)))

  pub rows_drop : (k n : ℕ) (l : List A) → length l ≡ k + n → drop (k * c) (enc_rows f d (k + n) l) ≡ enc_rows f d n (drop k l)
  unfolding enc_rows
  rows_drop zero n l h = rw (zero-mul c, zero-add n)
  rows_drop (suc k) n [] h = absurd (omega arith)
  rows_drop (suc k) n (a ∷ l) h =
      let e : suc k + n ≡ suc (k + n) = omega arith in
      let m : suc k * c ≡ length (f a) + k * c = suc-mul k c ∙ rw (len a) (omega arith) in
      rw (e, m) (drop-append-add (f a) (enc_rows f d (k + n) l) (k * c) ∙ rows_drop k n l (omega arith))

pub drop_take : (c m : ℕ) (s : List ℕ) → drop c (take (c + m) s) ≡ take m (drop c s)
drop_take zero m s = ap (λ (j : ℕ). take j s) (zero-add m)
drop_take (suc c) m [] = ap (drop (suc c)) (take-nil (suc c + m)) ∙ sym (take-nil m)
drop_take (suc c) m (x ∷ s) =
    let e : suc c + m ≡ suc (c + m) = omega arith in
    ap (λ (j : ℕ). drop (suc c) (take j (x ∷ s))) e ∙ drop_take c m s

-- each row decoded, changed and encoded
pub each_rows : {A : Type 0} (F : A → List ℕ) (d : A) (G : List ℕ → A) (f : A → A) (c n : ℕ) (s : List ℕ)
    → each_row (λ p. F (f (G p))) c n s ≡ enc_rows F d n (map f (dec_rows G c n (take (n * c) s))) ++ drop (n * c) s
unfolding each_row enc_rows dec_rows
each_rows F d G f c zero s = rw (zero-mul c)
each_rows F d G f c (suc n) s =
    let m : suc n * c ≡ c + n * c = suc-mul n c ∙ omega arith in
    let t : take c (take (c + n * c) s) ≡ take c s = take-take c (c + n * c) s (omega arith) in
    rw (m, t, drop_take c (n * c) s)
    (ap (λ (l : List ℕ). F (f (G (take c s))) ++ l)
    (each_rows F d G f c n (drop c s) ∙ ap (λ (l : List ℕ). enc_rows F d n (map f (dec_rows G c n (take (n * c) (drop c s)))) ++ l) (drop-drop (n * c) c s))
    ∙ sym (append_assoc (F (f (G (take c s)))) (enc_rows F d n (map f (dec_rows G c n (take (n * c) (drop c s))))) (drop (c + n * c) s)))

-- ---- a loop over a list, one turn: what is left decides the whole

pub fold_turn : {A : Type 0} (f : A → ℕ → ℕ) (l : List A) (d : A) (acc i : ℕ) → i < length l → fold f (f (get_or l i d) acc) (drop (i + 1) l) ≡ fold f acc (drop i l)
unfolding fold
fold_turn f l d acc i h =
    let e : i + 1 ≡ suc i = omega arith in
    rw e (sym (ap (fold f acc) (drop-cons l i d h)))

pub fold_end : {A : Type 0} (f : A → ℕ → ℕ) (l : List A) (acc i : ℕ) → length l ≤ i → fold f acc (drop i l) ≡ acc
unfolding fold
fold_end f l acc i h = ap (fold f acc) (drop_of_length-le l h)

-- ---- a store in two parts

pub sets_append : (l : List ℕ) (i : ℕ) (xs ys : List ℕ) → sets l i (xs ++ ys) ≡ sets (sets l i xs) (i + length xs) ys
sets_append l i [] ys = ap (λ (m : ℕ). sets l m ys) (sym (add-zero i))
sets_append l i (x ∷ xs) ys =
    let e : i + suc (length xs) ≡ suc i + length xs = omega arith in
    sets_append (set l i x) (suc i) xs ys ∙ ap (λ (m : ℕ). sets (sets (set l i x) (suc i) xs) m ys) (sym e)
