-- Believe: where a plan text is wrong: its number, the line counted from 1, and the stream.
use Rattle.std.specs.Prelude.{ℕ, zero, suc, ◌+◌, ◌*◌, ◌<◌, ◌≡◌, Bool, true, cond, List, eqb, ltb, length, Option, Some, None, Result, Ok, Err}
use Rattle.meaning.specs.Plan.{Plan}
use Rattle.meaning.specs.Cycle.{Leads}
use Rattle.meaning.specs.CycleTest.{acyclic}
use Rattle.machine.specs.State.{declared_plan}
use Rattle.operators.specs.Operators.{group_of, is_window, uses_a, uses_b, uses_k}
use Rattle.operators.specs.Rules.{arg_ok, value_ok}
use Rattle.operators.specs.Limits.{window_limit, text_limit}
use Rattle.operators.specs.Windows.{width_ok}
use Rattle.refusal.specs.declared.Refusal.{Refusal}
use Rattle.refusal.specs.Numbers.{number_of}
use Rattle.lines.specs.Form.{skip, field, value_line}
use Rattle.text.specs.declared.Fields.{Fields}
use Rattle.text.specs.Grammar.{plan_line, first_key, second_key, op_line, stream, head}
use Rattle.plan.specs.Rules.{keeps, declared}
use Rattle.faults.specs.declared.Fault.{Fault}

abbrev pub fault : ℕ → ℕ → ℕ → Fault
fault number line stream = record { number = number; line = line; stream = stream }

-- nothing is wrong; line 0 is no line
abbrev pub none : Fault
none = fault 0 0 0

-- line j of stream i's five, which come after `plan=1` and `streams=N`: op is 0, a 1, b 2, k 3, out 4
abbrev pub in_stream : ℕ → ℕ → ℕ → Fault
in_stream number i j = fault number (3 + 5 * i + j) i

-- a fault, or where there is none what is found next
abbrev pub or_next : Fault → Fault → Fault
or_next f g = cond (eqb f.line 0) g f

-- ## "then the first faulty line decides", by 2, 3 and 4

-- of the first two lines
abbrev pub head_line : Option ℕ → ℕ
head_line None = 1
head_line (Some p) = 2

-- line j, if it is faulty, or one after it
abbrev pub line_or : ℕ → Option (ℕ × ℕ) → (ℕ → ℕ) → ℕ
line_or j (Some (v, p)) after = after p
line_or j None after = j

-- a, b, k, or else out
unfoldable pub field_line : List ℕ → ℕ → ℕ
field_line s at = line_or 1 (field s at first_key 3) (λ p. line_or 2 (field s p second_key 3) (λ q. line_or 3 (value_line s q) (λ t. 4)))

abbrev pub line_after : List ℕ → Result (ℕ × ℕ) Refusal → ℕ
line_after s (Ok (op, p)) = field_line s p
line_after s (Err r) = 0

-- of the five lines of a stream that is refused
unfoldable pub stream_line : List ℕ → ℕ → ℕ
stream_line s at = line_after s (op_line s at)

abbrev pub stream_or : Result Fields Refusal → (ℕ → Fault) → (Fields → Fault) → Fault
stream_or (Err r) here after = here (number_of r)
stream_or (Ok f) here after = after f

-- of the lines of n streams, the first of them stream i at a position; "bytes left over" begin the line after them
unfoldable pub form_fault : List ℕ → ℕ → ℕ → ℕ → Fault
form_fault s i at zero = cond (eqb at (length s)) none (fault 2 (3 + 5 * i) 0)
form_fault s i at (suc n) = stream_or (stream s at) (λ r. in_stream r i (stream_line s at)) (λ f. form_fault s (i + 1) f.next n)

-- ## A rule that is tested stream by stream: the first stream that breaks it

pub record Rule : Type 0 where
  pub number : ℕ
  -- whether a stream keeps it, with so many counted before
  pub kept : ℕ → Fields → Bool
  -- how many are counted with it
  pub count : ℕ → Fields → ℕ
  -- the line at which a stream breaks it
  pub line : Fields → ℕ

-- with w counted and m streams left, the first of those stream i at a position
unfoldable pub first_broken : Rule → List ℕ → (w i at m : ℕ) → Fault
first_broken r s w i at zero = none
first_broken r s w i at (suc m) =
    stream_or (stream s at) (λ q. none) (λ f. cond (r.kept w f) (first_broken r s (r.count w f) (i + 1) f.next m) (in_stream r.number i (r.line f)))

-- ## "Then 5", and of the stream's fields the first that breaks it

-- a, b, k, or else out
abbrev pub field_broken : ℕ → Fields → ℕ
field_broken n f = cond (arg_ok (uses_a f.op) n f.a) (cond (arg_ok (uses_b f.op) n f.b) (cond (value_ok (uses_k f.op) f.k) 4 3) 2) 1

abbrev pub field_rule : ℕ → Rule
field_rule n = record { number = 5; kept = λ w f. keeps n f; count = λ w f. w; line = field_broken n }

-- of a plan of n streams, the first at a position
abbrev pub rule_fault : List ℕ → (n at : ℕ) → Fault
rule_fault s n at = first_broken (field_rule n) s 0 0 at n

-- ## "18, a width outside 1 to 64 or a ninth window, tested after 5 and before 6": the first such width, at its line k, or
-- else the ninth window, at its line op

abbrev pub width_rule : Rule
width_rule = record { number = 18; kept = λ w f. width_ok f.op f.k; count = λ w f. w; line = λ f. 3 }

-- windows are counted
abbrev pub ninth_rule : Rule
ninth_rule =
    record {
      number = 18;
      kept = λ w f. cond (is_window (group_of f.op)) (ltb w window_limit) true;
      count = λ w f. cond (is_window (group_of f.op)) (suc w) w;
      line = λ f. 0;
    }

abbrev pub width_fault : List ℕ → (n at : ℕ) → Fault
width_fault s n at = first_broken width_rule s 0 0 at n

abbrev pub ninth_fault : List ℕ → (n at : ℕ) → Fault
ninth_fault s n at = first_broken ninth_rule s 0 0 at n

abbrev pub window_fault : List ℕ → (n at : ℕ) → Fault
window_fault s n at = or_next (width_fault s n at) (ninth_fault s n at)

-- ## "Then 6": the lowest stream that undelayed arguments lead to itself

pub record Lowest (plan : Plan) (s : ℕ) : Type 0 where
  pub itself : Leads plan s s
  pub below : (x : ℕ) → x < s → Leads plan x x → ⊥

abbrev pub cycle_fault : ℕ → Plan → ℕ → Fault
cycle_fault cap plan c = cond (acyclic cap plan) none (in_stream 6 c 0)

-- ## The whole text

-- the plan of a text whose form is right
abbrev pub plan_of : ℕ → List ℕ → Plan
plan_of cap s = declared_plan (declared cap s)

abbrev pub fault_of_head : ℕ → List ℕ → ℕ → Result (ℕ × ℕ) Refusal → Fault
fault_of_head cap s c (Err r) = fault (number_of r) (head_line (skip s 0 plan_line)) 0
fault_of_head cap s c (Ok (n, at)) = or_next (form_fault s 0 at n) (or_next (rule_fault s n at) (or_next (window_fault s n at) (cycle_fault cap (plan_of cap s) c)))

-- c is the stream that 6 tells; of a text that is too long no line is told
unfoldable pub fault_with : ℕ → List ℕ → ℕ → Fault
fault_with cap s c = cond (ltb text_limit (length s)) (fault 1 0 0) (fault_of_head cap s c (head cap s))

-- the fault of a text, for a state with room for so many streams: 6 tells the lowest stream
pub record Found (cap : ℕ) (s : List ℕ) (f : Fault) : Type 0 where
  pub place : f ≡ fault_with cap s f.stream
  pub lowest : f.number ≡ 6 → Lowest (plan_of cap s) f.stream
