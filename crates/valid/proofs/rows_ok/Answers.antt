use Prim.Native.Nat.{◌-◌, ◌*◌}
use mathlib.Core.Path.{sym, ap, ◌∙◌}
use borrow.Author.Tests.{not-true, not-false}
use native.Mathlib.Nat.{sub-zero}
use lib.ListN.{drop}
use Rattle.valid.specs.Valid.{row_ok}
use native.Mathlib.Omega.{arith}
use Rattle.valid.proofs.Tests
use Rattle.valid.proofs.rows_ok.Goals as goal

pub loop-i-init : goal.loop-i-init
loop-i-init c = simp sub-zero

pub row_at-requires : goal.row_at-requires
row_at-requires c = omega arith

pub row_ok-requires : goal.row_ok-requires
row_ok-requires c = c.row_at.ensures.1

pub returns-then-not-row_ok : goal.returns-then-not-row_ok
returns-then-not-row_ok c = let a = c.args in let l = c.loop-i in let turn = Tests.rows_turn (row_ok a.n) a.n l.i a.state.now (omega arith) in let ok = sym (c.row_ok.ensures ∙ ap (row_ok a.n) c.row_at.ensures.0) in sym (turn ∙ rw (ok ∙ not-true c.row_ok.result c.if-not-row_ok.true-raw)) ∙ l.invariant

pub loop-i-preserved : goal.loop-i-preserved
loop-i-preserved c = let a = c.args in let l = c.loop-i in let turn = Tests.rows_turn (row_ok a.n) a.n l.i a.state.now (omega arith) in let ok = sym (c.row_ok.ensures ∙ ap (row_ok a.n) c.row_at.ensures.0) in sym (turn ∙ rw (ok ∙ not-false c.row_ok.result c.if-not-row_ok.false-raw)) ∙ l.invariant

pub returns : goal.returns
returns c = let a = c.args in let l = c.loop-i in sym (Tests.rows_none (row_ok a.n) (a.n - l.i) (drop (l.i * 256) a.state.now) (omega arith)) ∙ l.invariant
