-- `marks::mark` meets its contract.
use Rattle.marks.proofs.Grown.{marked_out, marked_seen, marked_new, grown_none, grown_new}
use native.Mathlib.Omega.{arith}
use Rattle.marks.proofs.mark.Goals as goal

pub returns-then-marks-i : goal.returns-then-marks-i
returns-then-marks-i c = record { marks_after = marked_out c.args.x c.args.marks.now (omega arith); grown = grown_none c.args.marks.now }

pub returns-then-marks-i-ne0 : goal.returns-then-marks-i-ne0
returns-then-marks-i-ne0 c = record { marks_after = marked_seen c.args.x c.args.marks.now c.if-marks-i-ne0.true; grown = grown_none c.args.marks.now }

pub returns : goal.returns
returns c = record { marks_after = marked_new c.args.x c.args.marks.now c.if-marks-i-ne0.false; grown = grown_new c.args.x c.args.marks.now (omega arith) c.if-marks-i-ne0.false }
