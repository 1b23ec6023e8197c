-- `num::rem` meets its contract.
use Prim.Native.Nat.{◌-◌}
use mathlib.Core.Path.{sym, ap₂, ◌∙◌}
use mir.Facts.{to_z-of_z}
use native.Mathlib.Nat.{mod-lt}
use Rattle.num.specs.Arithmetic.{remainder}
use Rattle.num.proofs.Arith.{rem_none}
use Rattle.num.proofs.Division.{lowered_less, rem_above, rem_lowered}
use native.Mathlib.Omega.{arith}
use Rattle.num.proofs.rem.Goals as goal

pub returns-then-n-eq0 : goal.returns-then-n-eq0
returns-then-n-eq0 c =
    let s = c in
    let p = c.split-p in
    let q = c.split-q in
    sym (rem_none _ q.result.neg q.result.mag c.if-n-eq0.true) ∙ ap₂ remainder (p.ensures.0 ∙ to_z-of_z s.ranges.a) (q.ensures.0 ∙ to_z-of_z s.ranges.b)

pub overflow_sub-left : goal.overflow_sub-left
overflow_sub-left c = (lowered_less _ _ _ _ c.below_zero-less.ensures).0

pub overflow_sub-n-then-less-eq1 : goal.overflow_sub-n-then-less-eq1
overflow_sub-n-then-less-eq1 c =
    let p = c.split-p in
    let q = c.split-q in
    let u = c.below_zero-less in
    omega (arith, mod-lt (p.result.mag - u.result) {m = q.result.mag} (omega arith))

pub returns-then-less-eq1 : goal.returns-then-less-eq1
returns-then-less-eq1 c =
    let s = c in
    let p = c.split-p in
    let q = c.split-q in
    let u = c.below_zero-less in
    c.join.ensures ∙ sym (rem_lowered p.result.neg q.result.neg p.result.mag q.result.mag u.result (omega arith) u.ensures c.if-less-eq1.true) ∙ ap₂ remainder (p.ensures.0 ∙ to_z-of_z s.ranges.a) (q.ensures.0 ∙ to_z-of_z s.ranges.b)

pub returns : goal.returns
returns c =
    let s = c in
    let p = c.split-p in
    let q = c.split-q in
    let u = c.below_zero-less in
    c.join-2.ensures ∙ sym (rem_above p.result.neg q.result.neg p.result.mag q.result.mag u.result (omega arith) u.ensures c.if-less-eq1.false) ∙ ap₂ remainder (p.ensures.0 ∙ to_z-of_z s.ranges.a) (q.ensures.0 ∙ to_z-of_z s.ranges.b)
