-- `missing::put_all` meets its contract.
use Prim.Native.Nat.{◌*◌, ◌≤◌}
use mathlib.Core.Path.{◌≡◌}
use lib.ListN.{length}
use Rattle.missing.specs.Listing.{counts_room}
use Rattle.missing.proofs.Lines.{Left}
use Rattle.missing.proofs.put_all.Given as goal

abbrev pub invariant-loop-stream : goal.invariant-loop-stream
invariant-loop-stream l = Left l.initial.out l.state l.out l.end l.stream × (l.end ≤ l.stream * counts_room) × (length l.out ≡ length l.initial.out)
