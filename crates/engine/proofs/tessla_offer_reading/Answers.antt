-- `engine::tessla_offer_reading` meets its contract.
use mir.Syntax.{w64}
use mir.Facts.{to_z-of_z}
use mathlib.Core.Path.{refl, sym, ◌∙◌}
use Rattle.roundtrip.proofs.In.{tested_state, tested_none}
use Rattle.calls.proofs.Answers.{reply_state, reply_none}
use Rattle.machine.specs.Calls.{reading}
use Rattle.engine.proofs.tessla_offer_reading.Goals as goal

pub offer_reading-requires : goal.offer_reading-requires
offer_reading-requires c = tested_state _ _ (sym c.in-Some.is ∙ c.streams.ensures)

pub returns-in-Some : goal.returns-in-Some
returns-in-Some c = let a = c.args in let s = a.state.now in let same = to_z-of_z {w = w64} c.ranges.value in rw (reply_state (reading a.stream a.stamp a.value) s (tested_state s _ (sym c.in-Some.is ∙ c.streams.ensures)).is_valid) record { number = c.code.ensures.0 ∙ (rw same at c.offer_reading.ensures.number); buffer = rw same at c.offer_reading.ensures.buffer }

pub returns-in-None : goal.returns-in-None
returns-in-None c = let a = c.args in let s = a.state.now in rw (reply_none (reading a.stream a.stamp a.value) s (tested_none s (sym c.in-None.is ∙ c.streams.ensures))) record { number = c.number.ensures.0; buffer = refl }
