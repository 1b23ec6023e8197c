-- `valid::fill_graph` meets its contract.
use Prim.Native.Nat.{◌+◌}
use mathlib.Core.Path.{refl, ap, ◌∙◌}
use lib.ListN.{length}
use native.Mathlib.Omega.{arith}
use Rattle.valid.proofs.Graph
use Rattle.valid.proofs.fill_graph.Goals as goal

pub loop-i-init : goal.loop-i-init
loop-i-init c = (refl, Graph.noted_none c.args.state.now _)

pub overflow_mul-at : goal.overflow_mul-at
overflow_mul-at c = omega arith

pub bounds-state-at : goal.bounds-state-at
bounds-state-at c = omega arith

pub overflow_add-at : goal.overflow_add-at
overflow_add-at c = omega arith

pub bounds-state-at-in-loop-i : goal.bounds-state-at-in-loop-i
bounds-state-at-in-loop-i c = omega arith

pub overflow_add-at-in-loop-i : goal.overflow_add-at-in-loop-i
overflow_add-at-in-loop-i c = omega arith

pub bounds-state-at-in-loop-i-2 : goal.bounds-state-at-in-loop-i-2
bounds-state-at-in-loop-i-2 c = omega arith

pub note-requires : goal.note-requires
note-requires c = omega arith

pub loop-i-preserved : goal.loop-i-preserved
loop-i-preserved c = let a = c.args in let l = c.loop-i in (ap length (Graph.noted_turn l.i a.state.now _ l.graph c.note.new.graph l.invariant.1 c.note.ensures) ∙ Graph.noted_length (l.i + 1) a.state.now _, Graph.noted_turn l.i a.state.now _ l.graph c.note.new.graph l.invariant.1 c.note.ensures)

pub returns : goal.returns
returns c = let l = c.loop-i in Graph.noted_done l.i c.args.n _ _ l.graph (omega arith) l.invariant.1
