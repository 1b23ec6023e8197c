-- `text::letters` meets its contract.
use mathlib.Core.Path.{◌≡◌}
use Prim.Native.Nat.{◌<◌, ◌-◌, ◌^◌}
use Rattle.text.specs.Grammar.{name_at}
use Rattle.text.specs.Lookup.{packed_at}
use Rattle.text.proofs.Names.{packed_from}
use Rattle.text.proofs.letters.Given as goal

abbrev pub invariant-loop : goal.invariant-loop
invariant-loop l = (l.weight ≡ 256 ^ l.counter) × (l.code < 256 ^ l.counter) × (packed_from l.code l.weight l.p (name_at l.text l.p (5 - l.counter)) ≡ packed_at l.text l.at)
