-- `valid::streams` meets its contract.
use mathlib.Core.Path.{sym, ◌∙◌}
use borrow.Author.Tests.{not-true, not-false}
use native.Mathlib.Omega.{arith}
use lib.ListN.{length}
use Rattle.operators.proofs.Sizes.{capacity_fits, capacity_few, capacity_area}
use Rattle.valid.proofs.Found.{no_length, bad_row, bad_tail, bad_cycle, a_state}
use Rattle.valid.proofs.streams.Goals as goal

pub returns-then-most-eq0 : goal.returns-then-most-eq0
returns-then-most-eq0 c = sym (no_length c.args.state.now (sym c.capacity-most.ensures ∙ c.if-most-eq0.true))

pub streams_in-n-requires : goal.streams_in-n-requires
streams_in-n-requires c = omega (arith, capacity_fits (length c.args.state.now), c.capacity-most.ensures)

pub rows_ok-requires : goal.rows_ok-requires
rows_ok-requires c = omega (arith, capacity_fits (length c.args.state.now), c.capacity-most.ensures, c.streams_in-n.ensures.1)

pub returns-then-not-rows_ok : goal.returns-then-not-rows_ok
returns-then-not-rows_ok c = sym (bad_row c.args.state.now _ _ c.capacity-most.ensures c.if-most-eq0.false c.streams_in-n.ensures.0 (sym c.rows_ok.ensures ∙ not-true c.rows_ok.result c.if-not-rows_ok.true-raw))

pub tail_ok-requires : goal.tail_ok-requires
tail_ok-requires c = let l = capacity_area (length c.args.state.now) (omega (arith, c.capacity-most.ensures, c.if-most-eq0.false)) in omega (arith, c.capacity-most.ensures, c.streams_in-n.ensures.1)

pub returns-then-not-tail_ok : goal.returns-then-not-tail_ok
returns-then-not-tail_ok c = sym (bad_tail c.args.state.now _ _ c.capacity-most.ensures c.if-most-eq0.false c.streams_in-n.ensures.0 (sym c.rows_ok.ensures ∙ not-false c.rows_ok.result c.if-not-rows_ok.false-raw) (sym c.tail_ok.ensures ∙ not-true c.tail_ok.result c.if-not-tail_ok.true-raw))

pub clear-requires : goal.clear-requires
clear-requires c = (omega (arith, c.capacity-most.ensures, capacity_fits (length c.args.state.now), c.streams_in-n.ensures.1), c.streams_in-n.ensures.1, omega (arith, c.capacity-most.ensures, capacity_few (length c.args.state.now)))

pub returns-then-not-clear : goal.returns-then-not-clear
returns-then-not-clear c = sym (bad_cycle c.args.state.now _ _ c.capacity-most.ensures c.if-most-eq0.false c.streams_in-n.ensures.0 (sym c.rows_ok.ensures ∙ not-false c.rows_ok.result c.if-not-rows_ok.false-raw) (sym c.tail_ok.ensures ∙ not-false c.tail_ok.result c.if-not-tail_ok.false-raw) (sym c.clear.ensures ∙ not-true c.clear.result c.if-not-clear.true-raw))

pub returns : goal.returns
returns c = sym (a_state c.args.state.now _ _ c.capacity-most.ensures c.if-most-eq0.false c.streams_in-n.ensures.0 (sym c.rows_ok.ensures ∙ not-false c.rows_ok.result c.if-not-rows_ok.false-raw) (sym c.tail_ok.ensures ∙ not-false c.tail_ok.result c.if-not-tail_ok.false-raw) (sym c.clear.ensures ∙ not-false c.clear.result c.if-not-clear.false-raw))
