use mathlib.Core.Path.{sym, ap, ◌∙◌}
use Rattle.layout.specs.Record.{Raw, encode, decode, num, slot_at, count_f}
use Rattle.layout.proofs.Laws.{record_row, encode_decode}
use native.Mathlib.Omega.{arith}
use Rattle.readers.proofs.Rounds
use Rattle.readers.proofs.release_row.Goals as goal

pub returns-then-count-eq0 : goal.returns-then-count-eq0
returns-then-count-eq0 c = let a = c.args in let s = a.state.now in let i = a.i in let row = record_row a.n s c.row_at-r.result.now i (omega arith) c.row_at-r.ensures.0 in sym (ap (encode a.n) (Rounds.release_row_none i (decode a.n s) (ap (num count_f) (sym row) ∙ sym c.byte_at-count.ensures.0 ∙ c.if-count-eq0.true)) ∙ encode_decode a.n s (omega arith) (λ j. omega (arith, c.slice_known-1.given j)))

pub returns-then-waits_before : goal.returns-then-waits_before
returns-then-waits_before c = let a = c.args in let s = a.state.now in let i = a.i in let row = record_row a.n s c.row_at-r.result.now i (omega arith) c.row_at-r.ensures.0 in let st = decode a.n s in sym (ap (encode a.n) (Rounds.release_row_waits i c.stamp_at-first.result st (c.stamp_at-first.ensures.0 ∙ ap (λ (r : Raw). (slot_at 0 r).stamp) row) (Rounds.least_waits i a.n c.last_reader-last.result c.stamp_at-first.result s c.last_reader-last.ensures.0 (sym c.waits_before.ensures ∙ c.if-waits_before.true))) ∙ encode_decode a.n s (omega arith) (λ j. omega (arith, c.slice_known-1.given j)))
