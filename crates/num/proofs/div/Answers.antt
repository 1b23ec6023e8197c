-- `num::div` meets its contract.
use mathlib.Core.Path.{sym, ap₂, ◌∙◌}
use mir.Facts.{to_z-of_z}
use Rattle.num.specs.Arithmetic.{divided}
use Rattle.num.proofs.Arith.{div_none}
use Rattle.num.proofs.Division.{lowered_less, up_fits, div_some}
use native.Mathlib.Omega.{arith}
use Rattle.num.proofs.div.Goals as goal

pub returns-then-n-eq0 : goal.returns-then-n-eq0
returns-then-n-eq0 c =
    let s = c in
    let p = c.split-p in
    let q = c.split-q in
    sym (div_none _ q.result.neg q.result.mag c.if-n-eq0.true) ∙ ap₂ divided (p.ensures.0 ∙ to_z-of_z s.ranges.a) (q.ensures.0 ∙ to_z-of_z s.ranges.b)

pub overflow_sub-m : goal.overflow_sub-m
overflow_sub-m c = omega (arith, (lowered_less _ _ _ _ c.below_zero-up.ensures).0)

pub overflow_add-m : goal.overflow_add-m
overflow_add-m c =
    let p = c.split-p in
    let u = c.below_zero-up in
    up_fits _ _ u.result (omega (arith, p.ensures.1)) (lowered_less _ _ _ _ u.ensures).1

pub returns : goal.returns
returns c =
    let s = c in
    let p = c.split-p in
    let q = c.split-q in
    let u = c.below_zero-up in
    c.join.ensures ∙ sym (div_some p.result.neg q.result.neg p.result.mag q.result.mag u.result (omega arith) u.ensures) ∙ ap₂ divided (p.ensures.0 ∙ to_z-of_z s.ranges.a) (q.ensures.0 ∙ to_z-of_z s.ranges.b)
