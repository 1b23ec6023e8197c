-- Believe: rules 5, 18 and 6, and the number of a whole plan text.
use Rattle.std.specs.Prelude.{ℕ, zero, suc, Bool, true, cond, ◌&&◌, List, [], ◌∷◌, map, eqb, ltb, leb, length, Result, Ok, Err}
use Rattle.std.specs.Int.{w64}
use Rattle.std.proofs.Common.{to_z}
use Rattle.meaning.specs.Plan.{Eqn, Plan}
use Rattle.meaning.specs.CycleTest.{acyclic}
use Rattle.machine.specs.State.{Declared}
use Rattle.operators.specs.Operators.{eqn_of}
use Rattle.operators.specs.Rules.{fields_ok}
use Rattle.operators.specs.Limits.{window_limit, text_limit}
use Rattle.operators.specs.Windows.{width_ok, windows}
use Rattle.text.specs.declared.Fields.{Fields}
use Rattle.refusal.specs.declared.Refusal.{Refusal}
use Rattle.refusal.specs.Numbers.{number_of}
use Rattle.text.specs.Grammar.{stream, head}

-- ## "Then 5, an unused field not 0, a used argument not below N, or out=1 on in."

-- a stream of a plan of n streams keeps the rule
abbrev pub keeps : ℕ → Fields → Bool
keeps n f = fields_ok n f.op f.a f.b f.k f.out

unfoldable pub all_keep : ℕ → List Fields → Bool
all_keep n [] = true
all_keep n (f ∷ fs) = keeps n f && all_keep n fs

-- ## The streams of a text

-- all streams' lines: their fields and where they end, or the refusal of the first faulty line
pub data Form : Type 0 where
  refused : Refusal → Form
  formed : List Fields → ℕ → Form

abbrev pub put : Fields → Form → Form
put f (refused r) = refused r
put f (formed fs end) = formed (f ∷ fs) end

abbrev pub others : Result Fields Refusal → (Fields → Form) → Form
others (Ok f) rest = put f (rest f)
others (Err r) rest = refused r

unfoldable pub streams : List ℕ → ℕ → ℕ → Form
streams s at zero = formed [] at
streams s at (suc n) = others (stream s at) (λ f. streams s f.next n)

-- a stream's fields as the stream that they declare
abbrev pub eqn_from : Fields → Eqn
eqn_from f = eqn_of f.op f.a f.b (to_z w64 f.k)

abbrev pub declared_from : Fields → Declared
declared_from f = record { eqn = eqn_from f; out = eqb f.out 1 }

unfoldable pub plan_from : List Fields → Plan
plan_from fs = map eqn_from fs

-- ## "18, a width outside 1 to 64 or a ninth window, tested after 5 and before 6."

unfoldable pub all_widths : List Fields → Bool
all_widths [] = true
all_widths (f ∷ fs) = width_ok f.op f.k && all_widths fs

unfoldable pub windows_ok : List Fields → Bool
windows_ok fs = all_widths fs && leb (windows (plan_from fs)) window_limit

-- ## The number of a text

-- "bytes left over" are 2, then 5, then 18, "Then 6, a cycle without a delayed argument."
unfoldable pub number_after : ℕ → List ℕ → ℕ → Form → ℕ
number_after cap s n (refused r) = number_of r
number_after cap s n (formed fs end) =
    cond (eqb end (length s)) (cond (all_keep n fs) (cond (windows_ok fs) (cond (acyclic cap (plan_from fs)) 0 6) 18) 5) 2

abbrev pub number_of_head : ℕ → List ℕ → Result (ℕ × ℕ) Refusal → ℕ
number_of_head cap s (Ok (n, at)) = number_after cap s n (streams s at n)
number_of_head cap s (Err r) = number_of r

-- "the text limit becomes 4,096 bytes": 1 for a longer text, "then the first faulty line decides", for a state with room for so many
-- streams
unfoldable pub number : ℕ → List ℕ → ℕ
number cap s = cond (ltb text_limit (length s)) 1 (number_of_head cap s (head cap s))

-- the streams that a text declares; none if its form is wrong
abbrev pub declared_of : Form → List Declared
declared_of (refused r) = []
declared_of (formed fs end) = map declared_from fs

abbrev pub declared_head : List ℕ → Result (ℕ × ℕ) Refusal → List Declared
declared_head s (Ok (n, at)) = declared_of (streams s at n)
declared_head s (Err r) = []

unfoldable pub declared : ℕ → List ℕ → List Declared
declared cap s = declared_head s (head cap s)
