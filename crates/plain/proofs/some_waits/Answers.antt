use Rattle.meaning.proofs.Tests.{is_true}
use mathlib.Core.Bool.{false}
use mathlib.Core.Path.{refl, sym, ◌∙◌}
use native.Mathlib.Omega.{arith}
use Rattle.plain.proofs.Tests
use Rattle.plain.proofs.some_waits.Goals as goal

pub loop-i-init : goal.loop-i-init
loop-i-init c = (omega arith, λ r h k. absurd (omega arith))

pub row_at-requires : goal.row_at-requires
row_at-requires c = omega arith

pub waits-requires : goal.waits-requires
waits-requires c = c.row_at.ensures.1

pub returns-then-waits : goal.returns-then-waits
returns-then-waits c = let a = c.args in let l = c.loop-i in let q = c.row_at.result.now in let x = Tests.one_waits a.s a.t a.n a.state.now q l.i (omega arith) c.row_at.ensures.0 (sym c.waits.ensures ∙ c.if-waits.true) in record { one = (λ e. x); all = λ y. refl }

pub loop-i-preserved : goal.loop-i-preserved
loop-i-preserved c = let a = c.args in let l = c.loop-i in let q = c.row_at.result.now in (omega arith, Tests.none_more a.s a.t a.n a.state.now q l.i (omega arith) c.row_at.ensures.0 l.invariant.1 (sym c.waits.ensures ∙ c.if-waits.false))

pub returns : goal.returns
returns c = let a = c.args in let l = c.loop-i in record { one = (λ e. absurd (is_true false e)); all = λ x. absurd (Tests.none_waits a.s a.t a.n l.i a.state.now (omega arith) l.invariant.1 x) }
