-- `playing::ready` meets its contract.
use Prim.Native.Nat.{◌-◌}
use lib.ListN.{length}
use Rattle.playing.proofs.Kept.{kept}
use borrow.Author.Rules.{rules}
use native.Mathlib.Omega.{arith}
use Rattle.playing.proofs.ready.Goals as goal

pub returns : goal.returns
returns g c = record { inside = search rules; kept = kept c.args.buffer.now c.shift.new.s c.read_full-got.new.buffer c.args.from (c.args.end - c.args.from) (length c.shift.new.s - (c.args.end - c.args.from)) (omega arith) c.shift.ensures }
