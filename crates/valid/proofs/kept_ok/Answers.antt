-- `valid::kept_ok` meets its contract.
use borrow.Enum.Refused.{opened}
use mathlib.Core.Path.{◌≡◌, sym, ap, ◌∙◌}
use mathlib.Core.Bool.{true, false}
use borrow.Enum.Refused.{opened}
use Rattle.layout.specs.Record.{dec_raw, num, op_f}
use Rattle.operators.specs.Operators.{group_of, is_last, is_delay, is_signal, is_window}
use Rattle.operators.proofs.Arms.{keepless}
use Rattle.valid.specs.Valid.{kept_ok}
use Rattle.valid.proofs.kept_ok.Goals as goal

pub returns-in-Last : goal.returns-in-Last
unfolding kept_ok
returns-in-Last c = let r = dec_raw c.args.r.now in let g = sym (c.group_of.ensures ∙ ap group_of c.byte_at-op.ensures.0) ∙ c.in-Last.is in let l : is_last (group_of (num op_f r)) ≡ true = ap is_last g in c.last_ok.ensures ∙ sym (rw l)

pub returns-in-Delay : goal.returns-in-Delay
unfolding kept_ok
returns-in-Delay c = let r = dec_raw c.args.r.now in let g = sym (c.group_of.ensures ∙ ap group_of c.byte_at-op.ensures.0) ∙ c.in-Delay.is in let l : is_last (group_of (num op_f r)) ≡ false = ap is_last g in let d : is_delay (group_of (num op_f r)) ≡ true = ap is_delay g in c.delay_ok.ensures ∙ sym (rw (l, d))

pub returns-in-Signal : goal.returns-in-Signal
unfolding kept_ok
returns-in-Signal c = let r = dec_raw c.args.r.now in let g = sym (c.group_of.ensures ∙ ap group_of c.byte_at-op.ensures.0) ∙ c.in-Signal.is in let l : is_last (group_of (num op_f r)) ≡ false = ap is_last g in let d : is_delay (group_of (num op_f r)) ≡ false = ap is_delay g in let x : is_signal (group_of (num op_f r)) ≡ true = ap is_signal g in c.signal_ok.ensures ∙ sym (rw (l, d, x))

pub returns-in-Window : goal.returns-in-Window
unfolding kept_ok
returns-in-Window c = let r = dec_raw c.args.r.now in let g = sym (c.group_of.ensures ∙ ap group_of c.byte_at-op.ensures.0) ∙ c.in-Window.is in let l : is_last (group_of (num op_f r)) ≡ false = ap is_last g in let d : is_delay (group_of (num op_f r)) ≡ false = ap is_delay g in let x : is_signal (group_of (num op_f r)) ≡ false = ap is_signal g in let w : is_window (group_of (num op_f r)) ≡ true = ap is_window g in c.window_ok.ensures ∙ sym (rw (l, d, x, w))

pub returns-in_default : goal.returns-in_default
unfolding kept_ok
returns-in_default c = let r = dec_raw c.args.r.now in let g = sym (c.group_of.ensures ∙ ap group_of c.byte_at-op.ensures.0) in let n = keepless c.group_of.result (opened c.in_default.in_default-own.keys5) in let l : is_last (group_of (num op_f r)) ≡ false = ap is_last g ∙ n.0 in let d : is_delay (group_of (num op_f r)) ≡ false = ap is_delay g ∙ n.1.0 in let x : is_signal (group_of (num op_f r)) ≡ false = ap is_signal g ∙ n.1.1.0 in let w : is_window (group_of (num op_f r)) ≡ false = ap is_window g ∙ n.1.1.1 in c.none_ok.ensures ∙ sym (rw (l, d, x, w))
