-- `replaying::offered` meets its contract.
use mir.Val.{SFits}
use mir.Syntax.{w64}
use mir.Facts.{to_z-of_z}
use borrow.Author.Rules.{rules}
use Rattle.replaying.proofs.offered.Goals as goal

pub returns-in-Reading : goal.returns-in-Reading
returns-in-Reading c = let f : SFits w64 c.in-Reading.value = search rules in rw c.in-Reading.is (rw (to_z-of_z f) at c.tessla_offer_reading.ensures)

pub returns-in-Progress : goal.returns-in-Progress
returns-in-Progress c = rw c.in-Progress.is c.tessla_offer_progress.ensures
