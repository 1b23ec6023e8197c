use Prim.Native.Nat.{◌+◌}
use mathlib.Core.Path.{sym}
use lib.ListN.{get_or}
use lib.Bits.{bit_or}
use native.Mathlib.Omega.{arith}
use Rattle.le.proofs.AllZero
use Rattle.le.proofs.any4.Goals as goal

pub returns : goal.returns
returns c = let s = c.args.s.now in let i = c.args.at in AllZero.zero_join s i 3 1 (bit_or (bit_or (get_or s i 0) (get_or s (i + 1) 0)) (get_or s (i + 2) 0)) (get_or s (i + 3) 0) (AllZero.zero_join s i 2 1 (bit_or (get_or s i 0) (get_or s (i + 1) 0)) (get_or s (i + 2) 0) (AllZero.zero_join s i 1 1 (get_or s i 0) (get_or s (i + 1) 0) (sym (AllZero.zero_one s i (omega arith))) (sym (AllZero.zero_one c.args.s.now (c.args.at + 1) (omega arith)))) (sym (AllZero.zero_one c.args.s.now (c.args.at + 2) (omega arith)))) (sym (AllZero.zero_one c.args.s.now (c.args.at + 3) (omega arith)))
