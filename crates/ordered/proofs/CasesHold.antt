-- The premises are met: what `./order` printed of some readings is the trace of the definition, and its replay loses nothing.
use Prim.Native.Nat.{ℕ, zero, suc, ◌<◌}
use mathlib.Core.Path.{◌≡◌, refl, sym, ap, ◌∙◌, subst}
use mathlib.Core.List.{List, []}
use native.Mathlib.Omega.{arith}
use lib.ListN.{length}
use Rattle.meaning.specs.CycleTest.{acyclic}
use Rattle.operators.specs.Limits.{capacity}
use Rattle.operators.specs.Operators.{group_of, uses_k, eqn_of}
use Rattle.operators.specs.Rules.{fields_ok}
use Rattle.lines.specs.Form.{skip, field, ended, whole, scan, value_line, signed, out_line}
use Rattle.text.specs.Grammar.{head, stream, op_line, named, name_at, number_named, place, fields_after}
use Rattle.operators.specs.Windows.{width_ok, windows}
use Rattle.plan.specs.Rules.{all_keep, streams, plan_from, number_after, number, declared, all_widths, windows_ok}
use Rattle.machine.specs.State.{Declared}
use Rattle.runs.specs.Demand3.{IsInput}
use Rattle.engine.specs.Load.{load_reply}
use Rattle.histories.proofs.Taking.{taken_anywhere}
use Rattle.trace.specs.declared.Record.{Record}
use Rattle.trace.specs.Trace.{value_after, stamp_after, bound_after, input_after, line}
use Rattle.replaying.specs.Whole.{Lines, none, more, Printed}
use Rattle.ordered.specs.Ordered.{InOrder}
use Rattle.ordered.specs.Order.{trace_to, order_of, Lossless}
use Rattle.ordered.specs.Cases as Cases
use Rattle.ordered.proofs.Lossless.{order_lossless}

-- ## The inputs

input_0 : IsInput Cases.streams 0
input_0 = (omega arith, tt)

input_1 : IsInput Cases.streams 1
input_1 = (omega arith, tt)

-- no others
both : (P : ℕ → Type 0) → P 0 → P 1 → (j : ℕ) → IsInput Cases.streams j → P j
both P p q zero h = p
both P p q (suc zero) h = q
both P p q (suc (suc zero)) h = absurd h.1
both P p q (suc (suc (suc j))) h = absurd h.1

-- ## How far ahead a reading may be

pub ahead_ordered : InOrder Cases.streams Cases.ahead
ahead_ordered = (
  input_0,
  omega arith,
  both _ (omega arith) (omega arith),
  (
    input_0,
    omega arith,
    both _ (omega arith) (omega arith),
    (input_0, omega arith, omega arith, tt),
  ),
)

pub too_far : InOrder Cases.streams Cases.too_far → ⊥
too_far o = let z = o.3.2 1 input_1 in omega arith

-- ## The texts

case_number : number 32 Cases.plan ≡ 0
unfolding number head skip field ended whole scan number_after streams stream op_line named name_at number_named place fields_after value_line signed out_line all_keep all_widths windows_ok width_ok windows plan_from acyclic fields_ok group_of uses_k eqn_of
case_number = refl

case_declared : declared 32 Cases.plan ≡ Cases.streams
unfolding declared head skip field ended whole scan streams stream op_line named name_at number_named place fields_after value_line signed out_line eqn_of
case_declared = refl

case_lines : Lines Cases.trace Cases.records []
unfolding line input_after stamp_after bound_after value_after signed whole scan skip
case_lines = more refl (more refl (more refl (more refl (more refl (more refl (more refl none))))))

case_order : order_of Cases.streams Cases.readings 10 10 ≡ Cases.records
unfolding trace_to
case_order = refl

-- on a buffer of any length that states have its replay loses nothing
pub case_lossless : (s : List ℕ) → 0 < capacity (length s) → {w t : List ℕ} → Printed Cases.plan Cases.trace s w t → Lossless Cases.streams Cases.readings 10 10 w
case_lossless s size {w} p =
    subst (λ (ds : List Declared). Lossless ds Cases.readings 10 10 w) is
    (order_lossless loads Cases.readings 10 10 (omega arith) (omega arith) (subst (λ (rs : List Record). Lines Cases.trace rs []) (sym case_order ∙ ap (λ (ds : List Declared). order_of ds Cases.readings 10 10) (sym is)) case_lines) p)
  where
    loads : (load_reply Cases.plan s).number ≡ 0
    loads = (taken_anywhere Cases.plan s size case_number).0

    is : declared (capacity (length s)) Cases.plan ≡ Cases.streams
    is = (taken_anywhere Cases.plan s size case_number).1 ∙ case_declared
