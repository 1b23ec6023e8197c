-- `registers::waits` meets its contract.
use lib.ListN.{length}
use mathlib.Core.Path.{sym, ◌∙◌}
use Rattle.operators.proofs.Sizes.{capacity_few}
use Rattle.roundtrip.proofs.In.{room_for, few}
use Rattle.calls.proofs.Refused.{done_code, refused_code}
use Rattle.registers.proofs.Outputs.{waits_found, waits_next, waits_none}
use native.Mathlib.Omega.{arith}
use Rattle.registers.proofs.waits.Goals as goal

pub overflow_cast-i : goal.overflow_cast-i
overflow_cast-i c = (omega (arith, few c.args.state.now (λ j. omega (arith, c.shared_slice_known-1.given j)) c.args.n c.requires, capacity_few (length c.args.state.now)))

pub check_collect-requires : goal.check_collect-requires
check_collect-requires c = room_for c.args.state.now (λ j. omega (arith, c.shared_slice_known-1.given j)) c.args.n c.requires

pub returns-then-is_ok : goal.returns-then-is_ok
returns-then-is_ok c = waits_found c.args.state.now (λ j. omega (arith, c.shared_slice_known-1.given j)) c.args.n c.requires c.loop-i.i _ c.check_collect.ensures (done_code c.check_collect.result (sym c.is_ok.ensures.value ∙ c.if-is_ok.true))

pub loop-i-preserved : goal.loop-i-preserved
loop-i-preserved c = waits_next c.args.state.now (λ j. omega (arith, c.shared_slice_known-1.given j)) c.args.n c.requires c.loop-i.i _ c.check_collect.ensures (refused_code c.check_collect.result (sym c.is_ok.ensures.value ∙ c.if-is_ok.false)) c.loop-i.invariant

pub returns : goal.returns
returns c = waits_none c.args.state.now (λ j. omega (arith, c.shared_slice_known-1.given j)) c.args.n c.requires c.loop-i.i (omega arith) c.loop-i.invariant
