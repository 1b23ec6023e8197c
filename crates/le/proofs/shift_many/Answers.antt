-- `le::shift_many` meets its contract.
use Prim.Native.Nat.{ℕ, ◌+◌, ◌-◌}
use mathlib.Core.Path.{◌≡◌, refl, ap, ◌∙◌}
use native.Mathlib.Nat.{add-zero, sub-zero}
use lib.ListN.{length}
use lib.Seq.{sets, length-sets}
use Rattle.le.specs.Bytes.{part}
use Rattle.le.proofs.Laws.{shift_turns}
use native.Mathlib.Omega.{arith}
use Rattle.le.proofs.shift_many.Goals as goal

pub loop-moved-init : goal.loop-moved-init
loop-moved-init c = (omega arith, refl, simp (add-zero, sub-zero))

pub overflow_sub-n : goal.overflow_sub-n
overflow_sub-n c = omega arith

pub overflow_add-at : goal.overflow_add-at
overflow_add-at c = omega arith

pub shift24-requires : goal.shift24-requires
shift24-requires c = omega arith

pub overflow_add-moved : goal.overflow_add-moved
overflow_add-moved c = omega arith

pub loop-moved-smaller : goal.loop-moved-smaller
loop-moved-smaller c = omega arith

pub loop-moved-preserved : goal.loop-moved-preserved
loop-moved-preserved c = let a = c.args in let l = c.loop-moved in let t = c.shift24.new.s in (omega arith, ap length c.shift24.ensures ∙ length-sets l.s (a.at + l.moved) (part l.s (a.at + l.moved + a.by) 24) ∙ l.invariant.1, shift_turns l.s t a.at a.by l.moved 24 a.n (omega arith) (omega arith) (omega arith) c.shift24.ensures ∙ l.invariant.2)

pub overflow_add-at-2 : goal.overflow_add-at-2
overflow_add-at-2 c = omega arith

pub overflow_sub-n-2 : goal.overflow_sub-n-2
overflow_sub-n-2 c = omega arith

pub shift-requires : goal.shift-requires
shift-requires c = omega arith

pub returns : goal.returns
returns c = let a = c.args in let l = c.loop-moved in let e : a.at + l.moved + a.by ≡ a.at + a.by + l.moved = omega arith in c.shift.ensures ∙ ap (λ (j : ℕ). sets l.s (a.at + l.moved) (part l.s j (a.n - l.moved))) e ∙ l.invariant.2
