use Prim.Native.Nat.{ℕ, ◌+◌, ◌-◌}
use mathlib.Core.Path.{◌≡◌, refl, ap, ◌∙◌}
use native.Mathlib.Nat.{add-zero, sub-zero}
use lib.ListN.{length}
use lib.Seq.{sets, length-sets}
use Rattle.le.specs.Bytes.{part}
use Rattle.le.proofs.Laws.{shift_turns}
use native.Mathlib.Omega.{arith}
use Rattle.le.proofs.shift.Goals as goal

pub loop-moved-init : goal.loop-moved-init
loop-moved-init c = (omega arith, refl, simp (add-zero, sub-zero))

pub overflow_sub-n : goal.overflow_sub-n
overflow_sub-n c = omega arith

pub overflow_add-at : goal.overflow_add-at
overflow_add-at c = omega arith

pub shift12-requires : goal.shift12-requires
shift12-requires c = omega arith

pub overflow_add-moved : goal.overflow_add-moved
overflow_add-moved c = omega arith

pub loop-moved-smaller : goal.loop-moved-smaller
loop-moved-smaller c = omega arith

pub loop-moved-preserved : goal.loop-moved-preserved
loop-moved-preserved c = let a = c.args in let l = c.loop-moved in let t = c.shift12.new.s in (omega arith, ap length c.shift12.ensures ∙ length-sets l.s (a.at + l.moved) (part l.s (a.at + l.moved + a.by) 12) ∙ l.invariant.1, shift_turns l.s t a.at a.by l.moved 12 a.n (omega arith) (omega arith) (omega arith) c.shift12.ensures ∙ l.invariant.2)

pub overflow_add-at-2 : goal.overflow_add-at-2
overflow_add-at-2 c = omega arith

pub overflow_sub-n-2 : goal.overflow_sub-n-2
overflow_sub-n-2 c = omega arith

pub shift_singly-requires : goal.shift_singly-requires
shift_singly-requires c = omega arith

pub returns : goal.returns
returns c = let a = c.args in let l = c.loop-moved in let e : a.at + l.moved + a.by ≡ a.at + a.by + l.moved = omega arith in c.shift_singly.ensures ∙ ap (λ (j : ℕ). sets l.s (a.at + l.moved) (part l.s j (a.n - l.moved))) e ∙ l.invariant.2
