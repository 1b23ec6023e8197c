-- `moves::move_one` meets its contract.
use Prim.Native.Nat.{ℕ, min}
use mathlib.Core.Path.{◌≡◌, sym, ap, ap₂, ◌∙◌}
use Rattle.meaning.specs.Events.{horizon}
use Rattle.machine.specs.Counting.{end_of}
use Rattle.layout.specs.Record.{Raw, encode, decode, num, row_at, count_f}
use Rattle.layout.proofs.Laws.{record_row}
use Rattle.streams.specs.Look.{look_of, equation, kept_in}
use Rattle.streams.proofs.Laws.{is_sound, look_bound}
use Rattle.passing.specs.Pass.{own_in, passed_raw}
use Rattle.making.specs.Make.{bound_raw, step_raw}
use Rattle.moves.specs.Move.{ahead_raw, moved_raw}
use borrow.Author.Rules.{rules}
use native.Mathlib.Omega.{arith}
use Rattle.moves.proofs.Decides
use Rattle.passing.proofs.Steps as passing
use Rattle.moves.proofs.Steps
use Rattle.moves.proofs.move_one.Goals as goal

pub returns-then-stuck : goal.returns-then-stuck
returns-then-stuck c = let l0 = c.requires.0 in let l1 = c.requires.1 in let n = c.args.n in let s = c.args.state.now in let st = decode n s in let i = c.args.i in let mid = sym (record_row n s c.row_at-row.result.now i (omega arith) c.row_at-row.ensures.0) in let at : min c.word_at-stored.result horizon ≡ (own_in i st).bound = ap (λ (x : ℕ). min x horizon) c.word_at-stored.ensures ∙ sym (look_bound _) ∙ ap (λ (r : Raw). (look_of r).bound) (sym mid) in let is : equation c.operator_at-op.result ≡ (own_in i st).eqn = c.operator_at-op.ensures ∙ ap (λ (r : Raw). (look_of r).eqn) (sym mid) in let e = Decides.can_stuck n i st (equation c.operator_at-op.result) (min c.word_at-stored.result horizon) is at (c.stuck.ensures c.if-stuck.true) in record { can = sym e; moved = sym (rw e) }

pub complete-s-requires : goal.complete-s-requires
complete-s-requires c = (search rules, search rules, c.min-bound.ensures ∙ ap (λ (x : ℕ). min x horizon) c.word_at-stored.ensures ∙ sym (look_bound _))

pub ahead-next-requires : goal.ahead-next-requires
ahead-next-requires c = (omega arith, omega arith, is_sound c.complete-s.result _ c.complete-s.ensures)

pub returns-then-y-bound : goal.returns-then-y-bound
returns-then-y-bound c = let l0 = c.requires.0 in let l1 = c.requires.1 in let n = c.args.n in let s = c.args.state.now in let st = decode n s in let i = c.args.i in let mid = sym (record_row n s c.row_at-row.result.now i (omega arith) c.row_at-row.ensures.0) in let at : min c.word_at-stored.result horizon ≡ (own_in i st).bound = ap (λ (x : ℕ). min x horizon) c.word_at-stored.ensures ∙ sym (look_bound _) ∙ ap (λ (r : Raw). (look_of r).bound) (sym mid) in let w = c.complete-s.result in let ew : equation w.op ≡ (own_in i st).eqn = c.complete-s.ensures.eqn ∙ ap (λ (r : Raw). (look_of r).eqn) (sym mid) in let low : w.bound ≡ (own_in i st).bound = c.complete-s.ensures.bound ∙ ap (λ (r : Raw). (look_of r).bound) (sym mid) in let kq : kept_in w.kept ≡ (own_in i st).kept = c.complete-s.ensures.kept ∙ ap (λ (r : Raw). (look_of r).kept) (sym mid) in let h : c.byte_at-held.result ≡ num count_f (row_at st i) = c.byte_at-held.ensures.0 ∙ ap (num count_f) (sym mid) in let ah = c.ahead-next.ensures.next ∙ Decides.ahead_is n i st (equation w.op) w.bound ew low (kept_in w.kept) kq in let u : c.bound_after-y.result ≡ bound_raw (ahead_raw n i st) (num count_f (row_at st i)) = c.bound_after-y.ensures.0 ∙ ap₂ bound_raw ah h in let bq : c.min-bound.result ≡ (own_in i st).bound = c.min-bound.ensures ∙ at in let e = Decides.can_stays n i st (sym u ∙ c.if-y-bound.true ∙ bq) in record { can = sym e; moved = sym (rw e) }

pub pass-requires : goal.pass-requires
pass-requires c = let l0 = c.requires.0 in let l1 = c.requires.1 in let n = c.args.n in let s = c.args.state.now in let st = decode n s in let i = c.args.i in let mid = sym (record_row n s c.row_at-row.result.now i (omega arith) c.row_at-row.ensures.0) in let is : equation c.operator_at-op.result ≡ (own_in i st).eqn = c.operator_at-op.ensures ∙ ap (λ (r : Raw). (look_of r).eqn) (sym mid) in (omega arith, omega arith, is)

pub make-requires : goal.make-requires
make-requires c = let l0 = c.requires.0 in let l1 = c.requires.1 in let n = c.args.n in let s = c.args.state.now in let st = decode n s in let i = c.args.i in let mid = sym (record_row n s c.row_at-row.result.now i (omega arith) c.row_at-row.ensures.0) in let at : min c.word_at-stored.result horizon ≡ (own_in i st).bound = ap (λ (x : ℕ). min x horizon) c.word_at-stored.ensures ∙ sym (look_bound _) ∙ ap (λ (r : Raw). (look_of r).bound) (sym mid) in let is : equation c.operator_at-op.result ≡ (own_in i st).eqn = c.operator_at-op.ensures ∙ ap (λ (r : Raw). (look_of r).eqn) (sym mid) in let w = c.complete-s.result in let ew : equation w.op ≡ (own_in i st).eqn = c.complete-s.ensures.eqn ∙ ap (λ (r : Raw). (look_of r).eqn) (sym mid) in let low : w.bound ≡ (own_in i st).bound = c.complete-s.ensures.bound ∙ ap (λ (r : Raw). (look_of r).bound) (sym mid) in let kq : kept_in w.kept ≡ (own_in i st).kept = c.complete-s.ensures.kept ∙ ap (λ (r : Raw). (look_of r).kept) (sym mid) in let bq : c.min-bound.result ≡ (own_in i st).bound = c.min-bound.ensures ∙ at in let pa = c.pass.ensures ∙ (λ j. encode n (passed_raw n i (is j) (kq j) (bq j) c.bound_after-y.result c.counted_to.result st)) in (omega arith, omega arith, c.ahead-next.ensures.known, kq ∙ passing.passed_kept n i (omega arith) s (λ j. omega (arith, c.slice_known-1.given j)) c.pass.new.state c.bound_after-y.result c.counted_to.result pa)

pub returns : goal.returns
unfolding moved_raw
returns c = let l0 = c.requires.0 in let l1 = c.requires.1 in let n = c.args.n in let s = c.args.state.now in let st = decode n s in let i = c.args.i in let mid = sym (record_row n s c.row_at-row.result.now i (omega arith) c.row_at-row.ensures.0) in let at : min c.word_at-stored.result horizon ≡ (own_in i st).bound = ap (λ (x : ℕ). min x horizon) c.word_at-stored.ensures ∙ sym (look_bound _) ∙ ap (λ (r : Raw). (look_of r).bound) (sym mid) in let is : equation c.operator_at-op.result ≡ (own_in i st).eqn = c.operator_at-op.ensures ∙ ap (λ (r : Raw). (look_of r).eqn) (sym mid) in let w = c.complete-s.result in let ew : equation w.op ≡ (own_in i st).eqn = c.complete-s.ensures.eqn ∙ ap (λ (r : Raw). (look_of r).eqn) (sym mid) in let low : w.bound ≡ (own_in i st).bound = c.complete-s.ensures.bound ∙ ap (λ (r : Raw). (look_of r).bound) (sym mid) in let kq : kept_in w.kept ≡ (own_in i st).kept = c.complete-s.ensures.kept ∙ ap (λ (r : Raw). (look_of r).kept) (sym mid) in let h : c.byte_at-held.result ≡ num count_f (row_at st i) = c.byte_at-held.ensures.0 ∙ ap (num count_f) (sym mid) in let ah = c.ahead-next.ensures.next ∙ Decides.ahead_is n i st (equation w.op) w.bound ew low (kept_in w.kept) kq in let u : c.bound_after-y.result ≡ bound_raw (ahead_raw n i st) (num count_f (row_at st i)) = c.bound_after-y.ensures.0 ∙ ap₂ bound_raw ah h in let bq : c.min-bound.result ≡ (own_in i st).bound = c.min-bound.ensures ∙ at in let zq : c.counted_to.result ≡ end_of (ahead_raw n i st) = c.counted_to.ensures ∙ ap end_of ah in let e = Decides.can_moves n i st (λ q. c.if-y-bound.false (u ∙ q ∙ sym bq)) in let pa = c.pass.ensures ∙ (λ j. encode n (passed_raw n i (is j) (kq j) (bq j) (u j) (zq j) st)) in record { can = sym e; moved = Steps.made_is n i (omega arith) s (λ j. omega (arith, c.slice_known-1.given j)) c.pass.new.state c.make.new.state (bound_raw (ahead_raw n i st) (num count_f (row_at st i))) (end_of (ahead_raw n i st)) pa (c.make.ensures ∙ (λ j. encode n (step_raw n i (is j) (kq j) (ah j) (h j) (decode n c.pass.new.state)))) ∙ sym (rw e) }
