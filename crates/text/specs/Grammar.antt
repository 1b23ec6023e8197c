-- Believe: the grammar of plan text, over the form of its lines.
use Rattle.std.specs.Prelude.{ℕ, zero, suc, ◌+◌, Bool, true, false, cond, ◌&&◌, List, [], ◌∷◌, map, eqb, leb, length, get_or, Option, Some, None, Result, Ok, Err}
use Rattle.operators.specs.Operators.{operators}
use Rattle.operators.specs.Limits.{count_fits}
use Rattle.lines.specs.Form.{ending, skip, field, value_line, out_line}
use Rattle.refusal.specs.declared.Refusal.{Refusal}
use Rattle.refusal.specs.declared.Refusal.TheVariants.{TextForm, TextStreams, TextOperator}
use Rattle.text.specs.declared.Fields.{Fields}

-- ## Keys, each with its `=`

-- plan=1, with the ending byte
abbrev pub plan_line : List ℕ
plan_line = 112 ∷ 108 ∷ 97 ∷ 110 ∷ 61 ∷ 49 ∷ 10 ∷ []

-- streams=
abbrev pub streams_key : List ℕ
streams_key = 115 ∷ 116 ∷ 114 ∷ 101 ∷ 97 ∷ 109 ∷ 115 ∷ 61 ∷ []

-- op=
abbrev pub op_key : List ℕ
op_key = 111 ∷ 112 ∷ 61 ∷ []

-- a=
abbrev pub first_key : List ℕ
first_key = 97 ∷ 61 ∷ []

-- b=
abbrev pub second_key : List ℕ
second_key = 98 ∷ 61 ∷ []

-- ## The op line

-- a small letter
abbrev pub letter : ℕ → Bool
letter c = leb 97 c && leb c 122

-- the small letters that stand here, n at most
unfoldable pub name_at : List ℕ → ℕ → ℕ → List ℕ
name_at s at zero = []
name_at s at (suc n) = cond (letter (get_or s at 0)) (get_or s at 0 ∷ name_at s (at + 1) n) []

abbrev pub same_name : List ℕ → List ℕ → Bool
same_name [] [] = true
same_name [] (d ∷ v) = false
same_name (c ∷ w) [] = false
same_name (c ∷ w) (d ∷ v) = eqb c d && same_name w v

-- the place of a name in a list of names, counted from n; 0 if it has none
unfoldable pub place : List ℕ → List (List ℕ) → ℕ → ℕ
place w [] n = 0
place w (v ∷ names) n = cond (same_name w v) n (place w names (n + 1))

abbrev pub names : List (List ℕ)
names = map (λ o. o.name) operators

-- the stored number of the operator with this name; 0 if it is no operator
unfoldable pub number_named : List ℕ → ℕ
number_named w = place w names 0

abbrev pub known : ℕ → Option ℕ → Result (ℕ × ℕ) Refusal
known n None = Err TextForm
known zero (Some p) = Err TextOperator
known (suc n) (Some p) = Ok (suc n, p)

-- "a name of one to five small letters that is no operator (any other fault of an op line is 2)"
unfoldable pub named : List ℕ → ℕ → List ℕ → Result (ℕ × ℕ) Refusal
named s p [] = Err TextForm
named s p (c ∷ w) = known (number_named (c ∷ w)) (skip s (p + length (c ∷ w)) ending)

abbrev pub name_after : List ℕ → Option ℕ → Result (ℕ × ℕ) Refusal
name_after s (Some p) = named s p (name_at s p 5)
name_after s None = Err TextForm

unfoldable pub op_line : List ℕ → ℕ → Result (ℕ × ℕ) Refusal
op_line s at = name_after s (skip s at op_key)

-- ## A stream's five lines: op, a, b, k, out

-- the next line, if this one has its form; "2 wrong key, form, missing line"
abbrev pub next : Option (ℕ × ℕ) → (ℕ → ℕ → Result Fields Refusal) → Result Fields Refusal
next (Some (v, p)) f = f v p
next None f = Err TextForm

unfoldable pub fields_after : List ℕ → ℕ → ℕ → Result Fields Refusal
fields_after s op at =
    next (field s at first_key 3) (λ a p.
    next (field s p second_key 3) (λ b q.
    next (value_line s q) (λ k t.
    next (out_line s t) (λ out end.
    Ok (record { op = op; a = a; b = b; k = k; out = out; next = end })))))

abbrev pub stream_after : List ℕ → Result (ℕ × ℕ) Refusal → Result Fields Refusal
stream_after s (Ok (op, p)) = fields_after s op p
stream_after s (Err r) = Err r

unfoldable pub stream : List ℕ → ℕ → Result Fields Refusal
stream s at = stream_after s (op_line s at)

-- ## The first two lines: `plan=1`, `streams=N`

-- 3 streams 0 or above the capacity: "Load gives 3 where the count is above the limit of the buffer lent"
abbrev pub counts : ℕ → Option (ℕ × ℕ) → Result (ℕ × ℕ) Refusal
counts cap (Some (n, p)) = cond (count_fits cap n) (Ok (n, p)) (Err TextStreams)
counts cap None = Err TextForm

abbrev pub head_after : ℕ → List ℕ → Option ℕ → Result (ℕ × ℕ) Refusal
head_after cap s (Some p) = counts cap (field s p streams_key 3)
head_after cap s None = Err TextForm

-- of a text that may announce so many streams; "An empty plan text now means a plan of no streams"
unfoldable pub head : ℕ → List ℕ → Result (ℕ × ℕ) Refusal
head cap [] = Ok (0, 0)
head cap (b ∷ s) = head_after cap (b ∷ s) (skip (b ∷ s) 0 plan_line)
