-- Believe: the text of a plan: the lines that load reads.
use Rattle.std.specs.Prelude.{ℕ, zero, suc, Bool, true, false, List, [], ◌∷◌, ◌++◌, length, ℤ}
use Rattle.meaning.specs.Arguments.{arg_a, arg_b}
use Rattle.machine.specs.State.{Declared}
use Rattle.operators.specs.Operators.{name_of, number_of, value_of}
use Rattle.decimal.specs.Decimal.{decimal, value_text}
use Rattle.lines.specs.Form.{ending, value_key, out_key}
use Rattle.text.specs.Grammar.{plan_line, streams_key, op_key, first_key, second_key}

abbrev pub bit_text : Bool → List ℕ
bit_text true = 49 ∷ []
bit_text false = 48 ∷ []

-- "Lines of key=value, each ended by byte 10"
abbrev pub line : List ℕ → List ℕ → List ℕ
line key value = key ++ (value ++ ending)

-- "the five lines `op`, `a`, `b`, `k`, `out`"
unfoldable pub stream_text : ℕ → ℕ → ℕ → ℤ → Bool → List ℕ
stream_text op a b k out =
    line op_key (name_of op)
    ++ (line first_key (decimal a) ++ (line second_key (decimal b) ++ (line value_key (value_text k) ++ line out_key (bit_text out))))

-- "An `a`, `b` or `k` that the operator doesn't use is 0."
unfoldable pub declared_text : Declared → List ℕ
declared_text d = stream_text (number_of d.eqn) (arg_a d.eqn) (arg_b d.eqn) (value_of d.eqn) d.out

unfoldable pub all_text : List Declared → List ℕ
all_text [] = []
all_text (d ∷ ds) = declared_text d ++ all_text ds

-- the first two lines, of n streams: "`plan=1`, `streams=N` (1 to 32)"; "An empty plan text now means a plan of no streams"
abbrev pub opening : ℕ → List ℕ
opening zero = []
opening (suc n) = plan_line ++ line streams_key (decimal (suc n))

-- "then for streams 0 to N−1 the five lines"
unfoldable pub render : List Declared → List ℕ
render ds = opening (length ds) ++ all_text ds
