-- `lines::skip` meets its contract.
use mathlib.Core.Path.{◌≡◌}
use lib.ListN.{drop}
use Rattle.lines.specs.Form.{skip}
use Rattle.lines.proofs.skip.Given as goal

abbrev pub invariant-loop-c : goal.invariant-loop-c
invariant-loop-c l = skip l.text l.p (drop l.c-index l.word) ≡ skip l.text l.at l.word
