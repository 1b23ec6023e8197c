-- `keeping::keep` meets its contract.
use mathlib.Core.Logic.{inl, inr}
use mathlib.Core.Path.{◌≡◌, ap, ◌∙◌}
use mathlib.Core.Bool.{false}
use Rattle.encoding.specs.View.{flag_of, bits_of}
use Rattle.layout.specs.Record.{dec_raw, flag_f, kept_f}
use Rattle.streams.specs.declared.Op.{Op}
use Rattle.streams.specs.Look.{equation, kept_in}
use Rattle.streams.proofs.Laws.{keeps}
use Rattle.keeping.specs.Keep.{value_kept, delay_kept, signal_kept, kept_row}
use native.Mathlib.Omega.{arith}
use Rattle.layout.proofs.Stores
use Rattle.keeping.proofs.Laws as law
use Rattle.keeping.proofs.keep.Goals as goal

pub returns-in-Last : goal.returns-in-Last
returns-in-Last c = let a = c.args in let p = a.r.now in let k = kept_in a.k in let r = dec_raw p in Stores.one p c.keep_value.new.r (kept_row (equation a.op) k) (value_kept flag_f kept_f (flag_of k.prev) (bits_of k.prev)) c.keep_value.ensures.0 (ap (λ (o : Op). kept_row (equation o) k r) c.in-Last.is ∙ law.row_last k r _ _)

pub returns-in-Delay : goal.returns-in-Delay
returns-in-Delay c = let a = c.args in let p = a.r.now in let k = kept_in a.k in let r = dec_raw p in Stores.one p c.keep_delay.new.r (kept_row (equation a.op) k) (delay_kept k) c.keep_delay.ensures (ap (λ (o : Op). kept_row (equation o) k r) c.in-Delay.is ∙ law.row_delay k r _ _)

pub returns-in-Signal : goal.returns-in-Signal
returns-in-Signal c = let a = c.args in let p = a.r.now in let k = kept_in a.k in let r = dec_raw p in Stores.one p c.keep_signal.new.r (kept_row (equation a.op) k) (signal_kept k) c.keep_signal.ensures (ap (λ (o : Op). kept_row (equation o) k r) c.in-Signal.is ∙ law.row_signal k r _ _ _)

pub returns-in-In : goal.returns-in-In
returns-in-In c = let a = c.args in let p = a.r.now in let k = kept_in a.k in let r = dec_raw p in let n : keeps (equation a.op) ≡ false = elim c.in-In.is [ inl e ↦ rw e | inr (inl e) ↦ rw e | inr (inr (inl e)) ↦ rw e | inr (inr (inr (inl e))) ↦ rw e.2 | inr (inr (inr (inr (inl e)))) ↦ rw e.3 | inr (inr (inr (inr (inr e)))) ↦ rw e.3 ] in Stores.none p (kept_row (equation a.op) k) (omega arith) (λ i. omega (arith, c.slice_known-1.given i)) (law.row_none k r (equation a.op) n)
