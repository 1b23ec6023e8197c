-- `decimal::put_bytes` meets its contract.
use native.Mathlib.Omega.{arith}
use Rattle.le.proofs.Laws.{put_part}
use Rattle.decimal.proofs.put_bytes.Goals as goal

pub returns : goal.returns
returns c = record { bytes = put_part c.args.out.now c.copy_from_slice.new.self c.args.bytes.now c.args.at _ c.copy_from_slice.ensures.after (omega arith) (omega arith); past = omega arith }
