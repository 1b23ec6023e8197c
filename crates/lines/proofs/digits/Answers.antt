-- `lines::digits` meets its contract.
use mathlib.Core.Path.{refl, sym, ap, ◌∙◌}
use Prim.Native.Nat.{ℕ, ◌+◌, ◌*◌, ◌-◌}
use lib.ListN.{get_or}
use Rattle.lines.specs.Form.{scan}
use Rattle.lines.proofs.Turns.{scan_past, scan_stop, scan_go, scan_end, grows, fits}
use native.Mathlib.Omega.{arith}
use Rattle.lines.proofs.digits.Goals as goal

pub returns-then-text-p : goal.returns-then-text-p
returns-then-text-p c = scan_past c.args.text.now c.loop.p c.loop.value (c.args.max - c.loop.counter) (omega arith) (omega arith) ∙ c.loop.invariant.1

pub returns-then-not-is_ascii_digit : goal.returns-then-not-is_ascii_digit
returns-then-not-is_ascii_digit c = scan_stop c.args.text.now c.loop.p c.loop.value (c.args.max - c.loop.counter) (omega arith) (sym c.if-not-is_ascii_digit.ensures.value) ∙ c.loop.invariant.1

pub overflow_mul-value : goal.overflow_mul-value
overflow_mul-value c = omega (arith, fits c.loop.value c.loop.counter 0 c.loop.invariant.0 (omega arith) (omega arith))

pub overflow_add-value : goal.overflow_add-value
overflow_add-value c = let d = c.if-not-is_ascii_digit.ensures.cases in omega (arith, fits c.loop.value c.loop.counter c.from.result c.loop.invariant.0 (omega arith) (omega arith))

pub loop-preserved : goal.loop-preserved
loop-preserved c =
    let d = c.if-not-is_ascii_digit.ensures.cases in (
      grows c.loop.value c.loop.counter c.from.result c.loop.invariant.0 (omega arith),
      ap (λ (x : ℕ). scan c.args.text.now (c.loop.p + 1) (c.loop.value * 10 + x) (c.args.max - (c.loop.counter + 1))) c.from.ensures
          ∙ scan_go c.args.text.now c.loop.p c.loop.value (c.args.max - c.loop.counter) (omega arith) (get_or c.args.text.now c.loop.p 0) refl (omega arith) (omega arith) (c.args.max - (c.loop.counter + 1)) (omega arith)
          ∙ c.loop.invariant.1,
    )

pub returns : goal.returns
returns c = scan_end c.args.text.now c.loop.p c.loop.value (c.args.max - c.loop.counter) (omega arith) ∙ c.loop.invariant.1
