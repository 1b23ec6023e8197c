-- `cycle::follow` meets its contract.
use mathlib.Core.Path.{refl, sym, ap, ◌∙◌}
use mathlib.Core.Bool.{true}
use lib.ListN.{get_or}
use Rattle.cycle.specs.Graph.{followed}
use Rattle.cycle.proofs.Walks.{absent, seen, found_clear, stop, bare, first, second, last}
use native.Mathlib.Omega.{arith}
use Prim.Native.Nat.{ℕ, ◌+◌, ◌*◌, ◌-◌}
use Rattle.cycle.proofs.+follow.Goals as goal

pub returns-then-stream-ge-MOST : goal.returns-then-stream-ge-MOST
returns-then-stream-ge-MOST t c = absent c.args.depth c.index_of-stream.result c.args.graph.now c.if-stream-ge-MOST.true ∙ ap (λ (n : ℕ). followed c.args.depth n c.args.graph.now) c.index_of-stream.ensures.0

pub returns-then-how-eq-CLEAR : goal.returns-then-how-eq-CLEAR
returns-then-how-eq-CLEAR t c = seen c.args.depth c.index_of-stream.result c.args.graph.now (omega arith) c.if-how-eq-CLEAR.true ∙ ap (λ (n : ℕ). followed c.args.depth n c.args.graph.now) c.index_of-stream.ensures.0

pub returns-then-depth-eq0 : goal.returns-then-depth-eq0
returns-then-depth-eq0 t c = stop c.args.depth c.index_of-stream.result c.args.graph.now (omega arith) c.if-how-eq-CLEAR.false c.if-depth-eq0.true ∙ ap (λ (n : ℕ). followed c.args.depth n c.args.graph.now) c.index_of-stream.ensures.0

pub returns-then-how-eq-BARE : goal.returns-then-how-eq-BARE
returns-then-how-eq-BARE t c = bare c.args.depth c.index_of-stream.result c.args.graph.now (omega arith) c.if-how-eq-CLEAR.false c.if-depth-eq0.false c.if-how-eq-BARE.true ∙ ap (λ (n : ℕ). followed c.args.depth n c.args.graph.now) c.index_of-stream.ensures.0

pub returns-then-not-follow : goal.returns-then-not-follow
returns-then-not-follow t c = first c.args.depth c.index_of-stream.result c.args.graph.now (omega arith) c.if-how-eq-CLEAR.false c.if-depth-eq0.false c.if-how-eq-BARE.false c.follow.result c.follow.new.graph c.follow.ensures c.if-not-follow.true-raw ∙ ap (λ (n : ℕ). followed c.args.depth n c.args.graph.now) c.index_of-stream.ensures.0

pub returns-then-found : goal.returns-then-found
returns-then-found t c = last c.args.depth c.index_of-stream.result c.args.graph.now (omega arith) c.if-how-eq-CLEAR.false c.if-depth-eq0.false c.if-how-eq-BARE.false c.follow.result c.follow.new.graph c.follow.ensures c.if-not-follow.false-raw true c.follow.new.graph (found_clear (c.args.depth - 1) (get_or c.follow.new.graph (3 * c.index_of-stream.result + 2) 0) c.follow.new.graph (sym c.found.ensures ∙ c.if-found.true)) refl ∙ ap (λ (n : ℕ). followed c.args.depth n c.args.graph.now) c.index_of-stream.ensures.0

pub returns-then-not-follow-2 : goal.returns-then-not-follow-2
returns-then-not-follow-2 t c = second c.args.depth c.index_of-stream.result c.args.graph.now (omega arith) c.if-how-eq-CLEAR.false c.if-depth-eq0.false c.if-how-eq-BARE.false c.follow.result c.follow.new.graph c.follow.ensures c.if-not-follow.false-raw c.follow-2.result c.follow-2.new.graph c.follow-2.ensures c.if-not-follow-2.true-raw ∙ ap (λ (n : ℕ). followed c.args.depth n c.args.graph.now) c.index_of-stream.ensures.0

pub returns : goal.returns
returns t c = last c.args.depth c.index_of-stream.result c.args.graph.now (omega arith) c.if-how-eq-CLEAR.false c.if-depth-eq0.false c.if-how-eq-BARE.false c.follow.result c.follow.new.graph c.follow.ensures c.if-not-follow.false-raw c.follow-2.result c.follow-2.new.graph c.follow-2.ensures c.if-not-follow-2.false-raw ∙ ap (λ (n : ℕ). followed c.args.depth n c.args.graph.now) c.index_of-stream.ensures.0
