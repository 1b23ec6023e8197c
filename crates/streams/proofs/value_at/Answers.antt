-- `streams::value_at` meets its contract.
use mathlib.Core.Path.{ap₂, ◌∙◌}
use Rattle.encoding.specs.Back as cells
use Rattle.streams.proofs.value_at.Goals as goal

pub returns : goal.returns
returns c = c.optional.ensures ∙ ap₂ cells.optional c.byte_at.ensures.0 c.word_at.ensures
