-- `playing::settle` meets its contract.
use mathlib.Core.Path.{refl, sym, ◌∙◌}
use Rattle.replaying.specs.Replay.{start}
use Rattle.playing.proofs.Order.{goes_here, goes_on, goes_rest}
use native.Mathlib.Omega.{arith}
use Rattle.playing.proofs.settle.Goals as goal

pub loop-place-init : goal.loop-place-init
loop-place-init g c = (refl, goes_here c.args.n start c.args.state.now)

pub print_some-place-requires : goal.print_some-place-requires
print_some-place-requires g c = let e = c.loop-place.invariant.0 in omega arith

pub loop-place-smaller : goal.loop-place-smaller
loop-place-smaller g c = c.print_some-place.ensures.nearer (sym c.is_rest.ensures ∙ c.loop-place-test.true)

pub loop-place-preserved : goal.loop-place-preserved
loop-place-preserved g c = (c.print_some-place.auto.state ∙ c.loop-place.invariant.0, goes_on c.loop-place.invariant.1 c.print_some-place.ensures.goes)

pub shape_of-state : goal.shape_of-state
shape_of-state g c = c.loop-place.invariant.0

pub returns : goal.returns
returns g c = goes_rest c.loop-place.place (sym c.is_rest.ensures ∙ c.loop-place-test.false) c.loop-place.invariant.1
