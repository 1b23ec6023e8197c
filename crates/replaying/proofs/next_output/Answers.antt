-- `replaying::next_output` meets its contract.
use mathlib.Core.Path.{sym, ◌∙◌, subst}
use mathlib.Core.Logic.{inl, inr}
use lib.Dec.{T}
use Rattle.replaying.proofs.Outputs.{next_is, passed}
use native.Mathlib.Omega.{arith}
use Rattle.replaying.proofs.next_output.Goals as goal

pub loop-i-init : goal.loop-i-init
loop-i-init c = (omega arith, omega arith, λ j h k. absurd (omega arith))

pub is_output-requires : goal.is_output-requires
is_output-requires c = omega arith

pub returns-then-is_output : goal.returns-then-is_output
returns-then-is_output c = next_is c.args.n c.args.from c.args.state.now c.loop-i.i c.loop-i.invariant.0 c.loop-i.invariant.1 c.loop-i.invariant.2 (inr (subst T (sym c.if-is_output.true ∙ c.is_output.ensures) tt))

pub overflow_add-i : goal.overflow_add-i
overflow_add-i c = omega arith

pub loop-i-smaller : goal.loop-i-smaller
loop-i-smaller c = omega arith

pub loop-i-preserved : goal.loop-i-preserved
loop-i-preserved c = (let h = c.loop-i.invariant.0 in omega arith, omega arith, passed c.args.state.now c.args.from c.loop-i.i c.loop-i.invariant.2 (sym c.is_output.ensures ∙ c.if-is_output.false))

pub returns : goal.returns
returns c = let k = c.loop-i.invariant.1 in next_is c.args.n c.args.from c.args.state.now c.loop-i.i c.loop-i.invariant.0 c.loop-i.invariant.1 c.loop-i.invariant.2 (inl (omega arith))
