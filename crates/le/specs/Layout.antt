-- Believe: how numbers and rows of equal size lie in bytes.
use Rattle.std.specs.Prelude.{ℕ, zero, suc, ◌+◌, List, [], ◌∷◌, ◌++◌, take, drop}
use Rattle.le.specs.Bytes.{le, enc}

-- numbers, each in as many bytes as its width says; a missing number is 0
unfoldable pub enc_fields : List ℕ → List ℕ → List ℕ
enc_fields [] vs = []
enc_fields (w ∷ ws) [] = enc w 0 ++ enc_fields ws []
enc_fields (w ∷ ws) (v ∷ vs) = enc w v ++ enc_fields ws vs

unfoldable pub dec_fields : List ℕ → List ℕ → List ℕ
dec_fields [] s = []
dec_fields (w ∷ ws) s = le (take w s) ∷ dec_fields ws (drop w s)

-- n rows; a missing row is d
unfoldable pub enc_rows : {A : Type 0} → (A → List ℕ) → A → ℕ → List A → List ℕ
enc_rows f d zero l = []
enc_rows f d (suc n) [] = f d ++ enc_rows f d n []
enc_rows f d (suc n) (a ∷ l) = f a ++ enc_rows f d n l

-- n rows of c bytes
unfoldable pub dec_rows : {A : Type 0} → (List ℕ → A) → ℕ → ℕ → List ℕ → List A
dec_rows g c zero s = []
dec_rows g c (suc n) s = g (take c s) ∷ dec_rows g c n (drop c s)

unfoldable pub total : List ℕ → ℕ
total [] = 0
total (w ∷ ws) = w + total ws

-- where field j begins
unfoldable pub offset : List ℕ → ℕ → ℕ
offset [] j = 0
offset (w ∷ ws) zero = 0
offset (w ∷ ws) (suc j) = w + offset ws j

-- the first n rows of c bytes changed by g, the rest as it is
unfoldable pub each_row : (List ℕ → List ℕ) → ℕ → ℕ → List ℕ → List ℕ
each_row g c zero s = s
each_row g c (suc n) s = g (take c s) ++ each_row g c n (drop c s)

-- the rows one after the other, from the first on
unfoldable pub fold : {A : Type 0} → (A → ℕ → ℕ) → ℕ → List A → ℕ
fold f acc [] = acc
fold f acc (a ∷ l) = fold f (f a acc) l
