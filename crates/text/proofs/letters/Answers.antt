-- `text::letters` meets its contract.
use mathlib.Core.Path.{refl, sym, ◌∙◌}
use Prim.Native.Nat.{◌+◌, ◌-◌}
use lib.Dec.{lit<}
use Rattle.text.proofs.Names.{name_past, name_stop, name_go, name_end, name_start, more, heavier, light}
use native.Mathlib.Omega.{arith}
use Rattle.text.proofs.letters.Goals as goal

pub loop-init : goal.loop-init
loop-init c = (refl, lit< tt, name_start c.args.text.now c.args.at)

pub returns-then-text-p : goal.returns-then-text-p
returns-then-text-p c = name_past c.args.text.now c.loop.p c.loop.code c.loop.weight (5 - c.loop.counter) (omega arith) (omega arith) ∙ c.loop.invariant.2

pub returns-then-not-is_ascii_lowercase : goal.returns-then-not-is_ascii_lowercase
returns-then-not-is_ascii_lowercase c = name_stop c.args.text.now c.loop.p c.loop.code c.loop.weight (5 - c.loop.counter) (omega arith) (sym c.if-not-is_ascii_lowercase.ensures.value) ∙ c.loop.invariant.2

pub overflow_mul-code : goal.overflow_mul-code
overflow_mul-code c = let d = c.if-not-is_ascii_lowercase.ensures.cases in omega (arith, more c.loop.code c.loop.weight c.loop.counter c.from.result c.loop.invariant.0 c.loop.invariant.1 (omega arith), light (c.loop.counter + 1) (omega arith))

pub overflow_add-code : goal.overflow_add-code
overflow_add-code c = let d = c.if-not-is_ascii_lowercase.ensures.cases in omega (arith, more c.loop.code c.loop.weight c.loop.counter c.from.result c.loop.invariant.0 c.loop.invariant.1 (omega arith), light (c.loop.counter + 1) (omega arith))

pub overflow_mul-weight : goal.overflow_mul-weight
overflow_mul-weight c = omega (arith, heavier c.loop.weight c.loop.counter c.loop.invariant.0, light (c.loop.counter + 1) (omega arith))

pub loop-preserved : goal.loop-preserved
loop-preserved c = let d = c.if-not-is_ascii_lowercase.ensures.cases in (heavier c.loop.weight c.loop.counter c.loop.invariant.0, more c.loop.code c.loop.weight c.loop.counter c.from.result c.loop.invariant.0 c.loop.invariant.1 (omega arith), name_go c.args.text.now c.loop.p c.loop.code c.loop.weight (5 - c.loop.counter) (omega arith) c.from.result c.from.ensures (omega arith) (omega arith) (5 - (c.loop.counter + 1)) (omega arith) ∙ c.loop.invariant.2)

pub returns : goal.returns
returns c = name_end c.args.text.now c.loop.p c.loop.code c.loop.weight (5 - c.loop.counter) (omega arith) ∙ c.loop.invariant.2
