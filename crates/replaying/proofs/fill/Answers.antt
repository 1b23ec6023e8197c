-- `replaying::fill` meets its contract.
use mathlib.Core.Path.{refl, sym, ap, ◌∙◌}
use mathlib.Core.Bool.{true≢false}
use mathlib.Core.Logic.{inl, inr}
use Rattle.replaying.specs.Replay.{here}
use Rattle.replaying.specs.Rank.{is_rest}
use Rattle.replaying.proofs.Going.{turn_fits, turn_prints}
use Rattle.replaying.proofs.Nearer.{turn_nearer, began, further}
use native.Mathlib.Omega.{arith}
use Rattle.replaying.proofs.fill.Goals as goal

pub loop-out-init : goal.loop-out-init
loop-out-init c = (omega arith, refl, refl, λ j. omega (arith, c.slice_known-1.given j), here, inr (refl, refl, refl))

pub overflow_sub-out : goal.overflow_sub-out
overflow_sub-out c = omega arith

pub is_rest-requires : goal.is_rest-requires
is_rest-requires c = omega arith

pub shape_of-state-then-is_rest : goal.shape_of-state-then-is_rest
shape_of-state-then-is_rest c = c.loop-out.invariant.2

pub shape_of-out-then-is_rest : goal.shape_of-out-then-is_rest
shape_of-out-then-is_rest c = c.loop-out.invariant.1

pub returns-then-is_rest : goal.returns-then-is_rest
returns-then-is_rest c = record { fits = c.loop-out.invariant.0; prints = c.loop-out.invariant.4; nearer = λ e. began c.loop-out.invariant.5 (λ q. true≢false (sym c.if-is_rest.true ∙ c.is_rest.ensures ∙ ap is_rest q.1 ∙ e)) }

pub turn-next-requires : goal.turn-next-requires
turn-next-requires c = (let e = c.loop-out.invariant.2 in let h = c.requires.0 in omega arith, omega arith)

pub loop-out-smaller : goal.loop-out-smaller
loop-out-smaller c = turn_nearer c.args.n c.loop-out.p c.loop-out.state c.loop-out.invariant.3 (sym c.is_rest.ensures ∙ c.if-is_rest.false) c.turn-next.ensures

pub loop-out-preserved : goal.loop-out-preserved
loop-out-preserved c = let f = turn_fits c.args.n c.loop-out.p c.loop-out.state c.turn-next.ensures (omega arith) in let n = turn_nearer c.args.n c.loop-out.p c.loop-out.state c.loop-out.invariant.3 (sym c.is_rest.ensures ∙ c.if-is_rest.false) c.turn-next.ensures in (f.0, f.1 ∙ c.loop-out.invariant.1, c.turn-next.auto.state ∙ c.loop-out.invariant.2, λ j. omega (arith, c.slice_known-in-loop-out-1.given j), turn_prints c.args.n c.loop-out.p c.loop-out.state c.turn-next.ensures (omega arith) c.loop-out.invariant.4, inl (further c.args.n c.loop-out.invariant.5 n))

pub shape_of-state : goal.shape_of-state
shape_of-state c = c.loop-out.invariant.2

pub shape_of-out : goal.shape_of-out
shape_of-out c = c.loop-out.invariant.1

pub returns : goal.returns
returns c = record { fits = c.loop-out.invariant.0; prints = c.loop-out.invariant.4; nearer = λ e. began c.loop-out.invariant.5 (λ q. let z = q.0 in omega arith) }
