-- `replaying::collect` meets its contract.
use Prim.Native.Nat.{◌+◌}
use mathlib.Core.Path.{refl, sym, ap, ◌∙◌}
use mir.Val.{SFits}
use mir.Syntax.{w64}
use mir.Facts.{to_z-of_z}
use Rattle.machine.specs.Calls.{collecting}
use Rattle.decimal.proofs.Puts.{put_none}
use Rattle.calls.specs.Reply.{reply}
use Rattle.calls.proofs.Answers.{collect_is_value}
use Rattle.replaying.specs.Replay.{to_output}
use Rattle.replaying.proofs.Steps.{collected_event, collected_none}
use native.Mathlib.Omega.{arith}
use Rattle.replaying.proofs.collect.Goals as goal

pub returns-then-number-eq0 : goal.returns-then-number-eq0
returns-then-number-eq0 c = let f : SFits w64 c.tessla_collect-number.new.value = record { sfits = rw c.tessla_collect-number.ensures.value (collect_is_value c.args.state.now (λ j. omega (arith, c.slice_known-1.given j)) c.args.stream) } in rw (collected_event c.args.n c.args.stream c.args.busy (reply (collecting c.args.stream) c.args.state.now) (sym c.tessla_collect-number.ensures.number ∙ c.if-number-eq0.true)) (record { place = refl; put = rw (sym c.tessla_collect-number.ensures.stamp, sym c.tessla_collect-number.ensures.value) (rw (to_z-of_z f) at c.put_event-end.ensures); state = c.tessla_collect-number.ensures.buffer })

pub returns : goal.returns
returns c = rw (collected_none c.args.n c.args.stream c.args.busy (reply (collecting c.args.stream) c.args.state.now) (λ e. c.if-number-eq0.false (c.tessla_collect-number.ensures.number ∙ e))) (record { place = c.to_output.ensures ∙ ap (to_output c.args.n (c.args.stream + 1) c.args.busy) c.tessla_collect-number.ensures.buffer; put = put_none _ _; state = c.tessla_collect-number.ensures.buffer })
