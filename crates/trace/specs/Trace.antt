-- Believe: the grammar of a trace: what line stands at a position, and where it ends.
use Rattle.std.specs.Prelude.{ℕ, cond, List, [], ◌∷◌, ltb, Option, Some, None}
use Rattle.std.specs.Int.{w64}
use Rattle.std.proofs.Common.{to_z}
use Rattle.meaning.specs.Events.{horizon}
use Rattle.lines.specs.Form.{ending, skip, whole, signed}
use Rattle.trace.specs.declared.Record.TheVariants.{Reading, Progress}
use Rattle.trace.specs.declared.Record.{Record}

-- ## Keys, each with its `=`, and but for the first with the blank before it

-- s=
abbrev pub input_key : List ℕ
input_key = 115 ∷ 61 ∷ []

-- t=
abbrev pub stamp_key : List ℕ
stamp_key = 32 ∷ 116 ∷ 61 ∷ []

-- v=
abbrev pub value_key : List ℕ
value_key = 32 ∷ 118 ∷ 61 ∷ []

-- p=
abbrev pub bound_key : List ℕ
bound_key = 32 ∷ 112 ∷ 61 ∷ []

-- ## What follows a word and what follows a number; without it the line is bad

abbrev pub word : Option ℕ → (ℕ → Option (Record × ℕ)) → Option (Record × ℕ)
word (Some p) f = f p
word None f = None

abbrev pub number : Option (ℕ × ℕ) → (ℕ → ℕ → Option (Record × ℕ)) → Option (Record × ℕ)
number (Some (n, p)) f = f n p
number None f = None

-- ## The line: `s=0 t=3 v=7` (input, stamp, value) or `s=0 p=6` (input, new bound)

-- "`v` a value", "numbers written as in a plan (`v` as `k`)", "then byte 10"
unfoldable pub value_after : List ℕ → ℕ → ℕ → ℕ → Option (Record × ℕ)
value_after s input stamp at =
    word (skip s at value_key) (λ p.
    number (signed s p) (λ v q.
    word (skip s q ending) (λ next.
    Some (Reading input stamp (to_z w64 v), next))))

-- "`t` a stamp"
unfoldable pub stamp_after : List ℕ → ℕ → ℕ → Option (Record × ℕ)
stamp_after s input at = number (whole s at 10) (λ t p. cond (ltb t horizon) (value_after s input t p) None)

-- "`p` up to ten digits"
unfoldable pub bound_after : List ℕ → ℕ → ℕ → Option (Record × ℕ)
bound_after s input at =
    number (whole s at 10) (λ bound p.
    word (skip s p ending) (λ next.
    Some (Progress input bound, next)))

abbrev pub either_key : List ℕ → ℕ → ℕ → Option ℕ → Option (Record × ℕ)
either_key s input at (Some p) = stamp_after s input p
either_key s input at None = word (skip s at bound_key) (bound_after s input)

unfoldable pub input_after : List ℕ → ℕ → ℕ → Option (Record × ℕ)
input_after s input at = either_key s input at (skip s at stamp_key)

-- "`s` up to three digits"
unfoldable pub line : List ℕ → ℕ → Option (Record × ℕ)
line s at = word (skip s at input_key) (λ p. number (whole s p 3) (input_after s))
