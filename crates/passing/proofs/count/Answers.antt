-- `passing::count` meets its contract.
use mathlib.Core.Path.{◌≡◌, sym, ap, ◌∙◌}
use Prim.Native.Nat.{◌+◌, ◌-◌, ◌*◌}
use borrow.Author.Tests.{not-true, not-false}
use Rattle.meaning.specs.Missing.{Outside, ZeroDivisor, can_lack}
use Rattle.operators.specs.Operators.{lacks_at}
use Rattle.layout.specs.Record.{Raw, decode, num, row_at, op_f}
use Rattle.layout.proofs.Laws.{record_row, lent}
use Rattle.streams.specs.Look.{equation, kept_in}
use Rattle.counting.specs.Tally.{counted_row}
use native.Mathlib.Omega.{arith}
use Rattle.passing.proofs.Counts as law
use Rattle.passing.proofs.count.Goals as goal

pub returns-then-not-can_lack : goal.returns-then-not-can_lack
returns-then-not-can_lack c = let n = c.args.n in let s = c.args.state.now in let e = equation c.args.op in let k = kept_in c.args.k in let row = record_row n s c.row_at-row.result.now c.args.i (omega arith) c.row_at-row.ensures.0 in let who : can_lack e ≡ c.can_lack.result = ap can_lack c.requires.2 ∙ law.lacks_row (row_at (decode n s) c.args.i) ∙ ap (λ (r : Raw). lacks_at (num op_f r)) (sym row) ∙ ap lacks_at (sym c.byte_at.ensures.0) ∙ sym c.can_lack.ensures in law.counted_other n c.args.i e k c.args.y c.args.x s (omega arith) (λ j. omega (arith, c.slice_known-1.given j)) (who ∙ not-true c.can_lack.result c.if-not-can_lack.true-raw)

pub returns-then-quiet : goal.returns-then-quiet
returns-then-quiet c = let n = c.args.n in let s = c.args.state.now in let e = equation c.args.op in let k = kept_in c.args.k in let row = record_row n s c.row_at-row.result.now c.args.i (omega arith) c.row_at-row.ensures.0 in let who : can_lack e ≡ c.can_lack.result = ap can_lack c.requires.2 ∙ law.lacks_row (row_at (decode n s) c.args.i) ∙ ap (λ (r : Raw). lacks_at (num op_f r)) (sym row) ∙ ap lacks_at (sym c.byte_at.ensures.0) ∙ sym c.can_lack.ensures in let h = law.quiet_none n c.args.i e k c.args.y c.args.x (decode n s) (c.quiet.ensures c.if-quiet.true) in law.counted_none_is n c.args.i e k c.args.y c.args.x s (omega arith) (λ j. omega (arith, c.slice_known-1.given j)) (omega arith) (h Outside) (h ZeroDivisor)

pub returns-then-c-eq0 : goal.returns-then-c-eq0
returns-then-c-eq0 c = let n = c.args.n in let s = c.args.state.now in let e = equation c.args.op in let k = kept_in c.args.k in let row = record_row n s c.row_at-row.result.now c.args.i (omega arith) c.row_at-row.ensures.0 in let who : can_lack e ≡ c.can_lack.result = ap can_lack c.requires.2 ∙ law.lacks_row (row_at (decode n s) c.args.i) ∙ ap (λ (r : Raw). lacks_at (num op_f r)) (sym row) ∙ ap lacks_at (sym c.byte_at.ensures.0) ∙ sym c.can_lack.ensures in let z : c.missed-c.result.outside + c.missed-c.result.divisors ≡ 0 = c.if-c-eq0.true in let u : c.missed-c.result.outside ≡ 0 = omega arith in let w : c.missed-c.result.divisors ≡ 0 = omega arith in law.counted_none_is n c.args.i e k c.args.y c.args.x s (omega arith) (λ j. omega (arith, c.slice_known-1.given j)) (omega arith) (sym (c.missed-c.ensures.0 Outside) ∙ u) (sym (c.missed-c.ensures.0 ZeroDivisor) ∙ w)

pub returns : goal.returns
returns c = let n = c.args.n in let s = c.args.state.now in let e = equation c.args.op in let k = kept_in c.args.k in let row = record_row n s c.row_at-row.result.now c.args.i (omega arith) c.row_at-row.ensures.0 in let who : can_lack e ≡ c.can_lack.result = ap can_lack c.requires.2 ∙ law.lacks_row (row_at (decode n s) c.args.i) ∙ ap (λ (r : Raw). lacks_at (num op_f r)) (sym row) ∙ ap lacks_at (sym c.byte_at.ensures.0) ∙ sym c.can_lack.ensures in law.counted_some n c.args.i e k c.args.y c.args.x s (omega arith) (λ j. omega (arith, c.slice_known-1.given j)) (who ∙ not-false c.can_lack.result c.if-not-can_lack.false-raw) _ c.missed-c.result.outside c.missed-c.result.divisors (c.missed-c.ensures.0 Outside) (c.missed-c.ensures.0 ZeroDivisor) (lent n s c.add.new.r c.args.i (c.args.i * 256 + 256 - c.args.i * 256) (counted_row c.missed-c.result.outside c.missed-c.result.divisors) (omega arith) (omega arith) (λ j. omega (arith, c.slice_known-1.given j)) (omega arith) c.add.ensures)
