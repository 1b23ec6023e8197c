-- Believe: the form of a line: what stands at a position of a text, a word, a number, a key with its number; and where it
-- ends, or a fault.
use Rattle.std.specs.Prelude.{ℕ, zero, suc, ◌+◌, ◌*◌, ◌-◌, ◌^◌, Bool, cond, ◌&&◌, List, [], ◌∷◌, eqb, leb, ltb, length, get_or, Option, Some, None}
use Rattle.lines.specs.declared.Scanned.{Scanned}

-- ## Keys, each with its `=`, and the ending

-- "each ended by byte 10"
abbrev pub ending : List ℕ
ending = 10 ∷ []

-- k=
abbrev pub value_key : List ℕ
value_key = 107 ∷ 61 ∷ []

-- out=
abbrev pub out_key : List ℕ
out_key = 111 ∷ 117 ∷ 116 ∷ 61 ∷ []

-- ## Words

-- the byte c stands at this position
abbrev pub stands : List ℕ → ℕ → ℕ → Bool
stands s at c = ltb at (length s) && eqb (get_or s at 0) c

-- the bytes of a word, one after the other
unfoldable pub skip : List ℕ → ℕ → List ℕ → Option ℕ
skip s at [] = Some at
skip s at (c ∷ word) = cond (stands s at c) (skip s (at + 1) word) None

-- what follows a word; without the word, a fault
abbrev pub after : Option ℕ → (ℕ → Option (ℕ × ℕ)) → Option (ℕ × ℕ)
after (Some p) f = f p
after None f = None

-- ## Numbers

-- 48 is the digit 0; past the text's end stands no digit
abbrev pub digit : ℕ → Bool
digit c = leb 48 c && leb c 57

abbrev pub scanned : ℕ → ℕ → Scanned
scanned v at = record { value = v; next = at }

-- the number v with at most n digits more, and the position after them
unfoldable pub scan : List ℕ → ℕ → ℕ → ℕ → Scanned
scan s at v zero = scanned v at
scan s at v (suc n) = cond (digit (get_or s at 0)) (scan s (at + 1) (v * 10 + (get_or s at 0 - 48)) n) (scanned v at)

-- at least one digit
abbrev pub counted : ℕ → Scanned → Option (ℕ × ℕ)
counted at r = cond (eqb r.next at) None (Some (r.value, r.next))

abbrev pub or_zero : Option ℕ → Option (ℕ × ℕ) → Option (ℕ × ℕ)
or_zero (Some p) f = Some (0, p)
or_zero None f = f

-- "Numbers are decimal without leading zeros": a number that begins with 0 is 0 and ends there
unfoldable pub whole : List ℕ → ℕ → ℕ → Option (ℕ × ℕ)
whole s at max = or_zero (skip s at (48 ∷ [])) (counted at (scan s at 0 max))

-- ## Lines: "Lines of key=value, each ended by byte 10"

abbrev pub ended_at : ℕ → Option ℕ → Option (ℕ × ℕ)
ended_at v (Some p) = Some (v, p)
ended_at v None = None

unfoldable pub ended : List ℕ → Option (ℕ × ℕ) → Option (ℕ × ℕ)
ended s (Some (v, p)) = ended_at v (skip s p ending)
ended s None = None

unfoldable pub field : List ℕ → ℕ → List ℕ → ℕ → Option (ℕ × ℕ)
field s at key max = after (skip s at key) (λ p. ended s (whole s p max))

-- "`k` is a value": a signed 64-bit whole number, read in two's complement
abbrev pub positive : Option (ℕ × ℕ) → Option (ℕ × ℕ)
positive (Some (v, p)) = cond (ltb v (2 ^ 63)) (Some (v, p)) None
positive None = None

-- "only `k` may have a minus sign, never before 0"
abbrev pub negative : Option (ℕ × ℕ) → Option (ℕ × ℕ)
negative (Some (v, p)) = cond (eqb v 0) None (cond (leb v (2 ^ 63)) (Some (2 ^ 64 - v, p)) None)
negative None = None

abbrev pub signed_after : List ℕ → ℕ → Option ℕ → Option (ℕ × ℕ)
signed_after s at (Some p) = negative (whole s p 19)
signed_after s at None = positive (whole s at 19)

unfoldable pub signed : List ℕ → ℕ → Option (ℕ × ℕ)
signed s at = signed_after s at (skip s at (45 ∷ []))

unfoldable pub value_line : List ℕ → ℕ → Option (ℕ × ℕ)
value_line s at = after (skip s at value_key) (λ p. ended s (signed s p))

-- "`out` is 0 or 1"
abbrev pub bit : Option (ℕ × ℕ) → Option (ℕ × ℕ)
bit (Some (v, p)) = cond (leb v 1) (Some (v, p)) None
bit None = None

unfoldable pub out_line : List ℕ → ℕ → Option (ℕ × ℕ)
out_line s at = bit (field s at out_key 1)
