-- `cycle::clear` meets its contract.
use Prim.Native.Nat.{◌-◌}
use mathlib.Core.Path.{refl, sym, ◌∙◌}
use mathlib.Core.Bool.{true}
use Rattle.cycle.proofs.Walks.{found_clear, blocked, going, done}
use native.Mathlib.Omega.{arith}
use Rattle.cycle.proofs.clear.Goals as goal

pub loop-i-init : goal.loop-i-init
loop-i-init c = (omega arith, refl)

pub loop-i-preserved-then-found : goal.loop-i-preserved-then-found
loop-i-preserved-then-found c = (omega arith, going c.args.depth c.loop-i.i (c.loop-i.i - 1) c.loop-i.graph true c.loop-i.graph (omega arith) refl (found_clear c.args.depth (c.loop-i.i - 1) c.loop-i.graph (sym c.found.ensures ∙ c.if-found.true)) refl ∙ c.loop-i.invariant.1)

pub follow-requires : goal.follow-requires
follow-requires c = omega arith

pub returns-then-not-follow : goal.returns-then-not-follow
returns-then-not-follow c = blocked c.args.depth c.loop-i.i (c.loop-i.i - 1) c.loop-i.graph c.follow.result c.follow.new.graph (omega arith) refl c.follow.ensures c.if-not-follow.true-raw ∙ c.loop-i.invariant.1

pub loop-i-preserved : goal.loop-i-preserved
loop-i-preserved c = (omega arith, going c.args.depth c.loop-i.i (c.loop-i.i - 1) c.loop-i.graph c.follow.result c.follow.new.graph (omega arith) refl c.follow.ensures c.if-not-follow.false-raw ∙ c.loop-i.invariant.1)

pub returns : goal.returns
returns c = done c.args.depth c.loop-i.i c.loop-i.graph (omega arith) ∙ c.loop-i.invariant.1
