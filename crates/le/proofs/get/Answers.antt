use Prim.Native.Nat.{◌+◌, ◌-◌}
use native.Mathlib.Omega.{arith}
use Rattle.le.proofs.Laws.{get_turn, part_lt, get_none, get_done, part_below}
use Rattle.le.proofs.get.Goals as goal

pub loop-i-init : goal.loop-i-init
loop-i-init c =
    let a = c.args in
    (omega arith, get_none a.s.now (a.at + a.n) (a.n - a.n) (omega arith))

pub overflow_mul-r : goal.overflow_mul-r
overflow_mul-r c =
    let a = c.args in
    omega (arith, part_lt a.s.now (a.at + c.loop-i.i) (a.n - c.loop-i.i) (λ j. omega (arith, c.shared_slice_known-1.given j)) (omega arith))

pub overflow_add-r : goal.overflow_add-r
overflow_add-r c =
    let l = c in
    let a = l.args in
    omega (arith, part_lt a.s.now (a.at + l.loop-i.i) (a.n - l.loop-i.i) (λ j. omega (arith, l.shared_slice_known-1.given j)) (omega arith))

pub loop-i-preserved : goal.loop-i-preserved
loop-i-preserved c =
    let l = c in
    let a = l.args in
    (omega arith, get_turn a.s.now a.at l.loop-i.i a.n l.loop-i.r c.wide.result (omega arith) (omega arith) (omega arith) l.loop-i.invariant.1 c.wide.ensures.0)

pub returns : goal.returns
returns c =
    let a = c.args in
    let e = get_done a.s.now a.at a.n c.loop-i.i c.loop-i.r (omega arith) c.loop-i.invariant.1 in
    (e, rw e (part_below a.s.now a.at a.n (λ j. omega (arith, c.shared_slice_known-1.given j))))
