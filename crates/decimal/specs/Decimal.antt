-- Believe: numbers and values in decimal.
use Rattle.std.specs.Prelude.{ℕ, zero, suc, ◌+◌, ◌/◌, ◌%◌, cond, List, [], ◌∷◌, ◌++◌, ltb, ℤ, pos, negsuc}

-- "Numbers are decimal without leading zeros": at most this many digits
unfoldable pub digits : ℕ → ℕ → List ℕ
digits zero n = []
digits (suc f) n = cond (ltb n 10) ((48 + n) ∷ []) (digits f (n / 10) ++ ((48 + n % 10) ∷ []))

-- no number of a text has more digits
abbrev pub most_digits : ℕ
most_digits = 19

abbrev pub decimal : ℕ → List ℕ
decimal n = digits most_digits n

-- "only `k` may have a minus sign"
abbrev pub value_text : ℤ → List ℕ
value_text (pos n) = decimal n
value_text (negsuc n) = 45 ∷ decimal (suc n)
