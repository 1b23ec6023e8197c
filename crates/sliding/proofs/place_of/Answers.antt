-- `sliding::place_of` meets its contract.
use Prim.Native.Nat.{suc, ◌-◌}
use mathlib.Core.Path.{◌≡◌, ap, ◌∙◌}
use Rattle.operators.specs.Operators.{group_of, is_window}
use Rattle.layout.specs.Record.{decode, num, op_f}
use Rattle.layout.proofs.Laws.{rows_many, record_row}
use native.Mathlib.Omega.{arith}
use Rattle.sliding.proofs.Places as law
use Rattle.sliding.proofs.place_of.Goals as goal

pub byte_at-requires : goal.byte_at-requires
byte_at-requires c = (c.row_at-row.ensures.1, omega arith)

pub loop-r-preserved : goal.loop-r-preserved
loop-r-preserved c = let s = c.args.state.now in let l = (decode c.args.n s).rows in let many = rows_many c.args.n s in let p = c.loop-r.r - 1 in let q : suc p ≡ c.loop-r.r = omega arith in let m = record_row c.args.n s c.row_at-row.result.now p (omega arith) c.row_at-row.ensures.0 in let w = c.is_window.ensures ∙ ap (λ n. is_window (group_of n)) (c.byte_at.ensures.0 ∙ ap (num op_f) m) in let f = law.count_few c.loop-r.j c.is_window.result in (omega arith, rw c.counted-j.ensures (omega arith), rw c.counted-j.ensures (law.count_turn p c.args.i c.loop-r.j c.is_window.result l (omega arith) w (rw q c.loop-r.invariant.2)))

pub returns : goal.returns
returns c = let s = c.args.state.now in let l = (decode c.args.n s).rows in let many = rows_many c.args.n s in let e = law.count_end c.args.i c.loop-r.j c.loop-r.r l (omega arith) c.loop-r.invariant.2 in (omega arith, omega arith)
