-- Each text of the table has the fault that the table says: one proof for all rows, by computing. The stream of a cycle is
-- what the table says; that it is the lowest is shown of the text in which another stream reads the cycle.
use Prim.Native.Nat.{ℕ, zero, suc, ◌<◌}
use mathlib.Core.Path.{◌≡◌, refl}
use mathlib.Core.List.Memᴰ
use mathlib.Core.List.{[], ◌∷◌, map, Memᴰ}
use native.Mathlib.Omega.{arith}
use lib.ListN.{replicate}
use Rattle.meaning.specs.Plan.{Plan, time, neg, one, eqn_at}
use Rattle.meaning.specs.Arguments.{undelayed}
use Rattle.meaning.specs.Cycle.{Leads, step, then}
use Rattle.meaning.specs.CycleTest.{acyclic}
use Rattle.operators.specs.Operators.{group_of, uses_k, eqn_of}
use Rattle.operators.specs.Rules.{fields_ok}
use Rattle.operators.specs.Windows.{width_ok}
use Rattle.lines.specs.Form.{skip, scan, whole, ended, field, signed, value_line, out_line}
use Rattle.text.specs.Grammar.{name_at, place, number_named, named, op_line, fields_after, stream, head}
use Rattle.plan.specs.Rules.{streams, declared}
use Rattle.faults.specs.Faults.{fault, field_line, stream_line, form_fault, first_broken, fault_with, Found}
use Rattle.faults.specs.Cases.{bytes, beside_cycle, cases}

pub cases_hold : map (λ c. fault_with 32 (bytes c.text) c.fault.stream) cases ≡ map (λ c. c.fault) cases
unfolding fault_with form_fault first_broken stream_line field_line streams declared acyclic head stream op_line named name_at number_named place fields_after field whole scan ended signed value_line out_line skip fields_ok width_ok group_of uses_k eqn_of
cases_hold = refl

-- 1 text longer than 4,096 bytes, whatever is in it: no line
pub too_long : fault_with 32 (replicate 4097 120) 0 ≡ fault 1 0 0
unfolding fault_with
too_long = refl

-- no stream of it leads to stream 0
abbrev beside : Plan
beside = one neg 1 ∷ one neg 2 ∷ one time 1 ∷ []

not_first : (s a : ℕ) → Memᴰ a (undelayed (eqn_at beside s)) → 0 < a
not_first zero a (Memᴰ.head e) = omega arith
not_first zero a (Memᴰ.tail x) = elim x [ ]
not_first (suc zero) a (Memᴰ.head e) = omega arith
not_first (suc zero) a (Memᴰ.tail x) = elim x [ ]
not_first (suc (suc zero)) a (Memᴰ.head e) = omega arith
not_first (suc (suc zero)) a (Memᴰ.tail x) = elim x [ ]
not_first (suc (suc (suc s))) a m = absurd (Memᴰ.not-nil m)

never_first : {s z : ℕ} → Leads beside s z → 0 < z
never_first {s} {z} (step m) = not_first s z m
never_first (then m w) = never_first w

pub beside_cycle_lem : Found 32 (bytes beside_cycle) (fault 6 8 1)
unfolding fault_with form_fault first_broken stream_line field_line streams declared acyclic head stream op_line named name_at number_named place fields_after field whole scan ended signed value_line out_line skip fields_ok width_ok group_of uses_k eqn_of
beside_cycle_lem = record { place = refl; lowest = λ e. record { itself = then (Memᴰ.head refl) (step (Memᴰ.head refl)); below = λ x l w. let z = never_first w in omega arith } }
