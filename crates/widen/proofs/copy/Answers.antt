-- `widen::copy` meets its contract.
use Prim.Native.Nat.{◌-◌}
use mathlib.Core.Path.{refl, sym}
use lib.ListN.{length}
use lib.Seq.{length-take-le}
use Rattle.layout.specs.Windows.{area_length}
use Rattle.widen.proofs.Spread.{copied}
use native.Mathlib.Omega.{arith}
use Rattle.widen.proofs.copy.Goals as goal

pub slice_bounds-put_bytes-end : goal.slice_bounds-put_bytes-end
slice_bounds-put_bytes-end c = sym (length-take-le _ c.args.from.now (omega arith))

pub put_bytes-requires : goal.put_bytes-requires
put_bytes-requires c = let e = length-take-le (length c.args.from.now - area_length) c.args.from.now (omega arith) in omega arith

pub returns : goal.returns
returns c = let a = c.args in copied a.from.now a.to.now (omega arith) (omega arith) _ _ _ _ _ _ c.put_bytes.ensures c.clear.ensures refl c.put_bytes-2.ensures
