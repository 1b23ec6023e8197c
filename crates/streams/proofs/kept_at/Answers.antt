-- `streams::kept_at` meets its contract.
use Prim.Native.Nat.{min}
use mathlib.Core.Logic.{inl, inr}
use mathlib.Core.Bool.{false}
use mathlib.Core.Path.{◌≡◌, sym, ap, ap₂, ◌∙◌}
use Rattle.std.specs.Prelude.{Option, None}
use lib.IntN.{ℤ}
use Rattle.machine.specs.State.{no_kept, with_prev, with_prev_b}
use Rattle.layout.specs.Record.{dec_raw}
use Rattle.streams.specs.Look.{equation}
use Rattle.streams.proofs.Laws as law
use Rattle.streams.proofs.kept_at.Goals as goal

pub returns-in-Last : goal.returns-in-Last
returns-in-Last c = let r = dec_raw c.args.r.now in c.latest.ensures ∙ ap (λ (x : Option ℤ). with_prev x no_kept) c.value_at-prev.ensures ∙ sym (law.kept_last r _ _ (sym (ap equation c.in-Last.is) ∙ c.requires.1))

pub returns-in-Delay : goal.returns-in-Delay
returns-in-Delay c = let r = dec_raw c.args.r.now in let v = c.value_at-value.ensures in let p = c.value_at-prior.ensures in let s = c.min-since.ensures ∙ ap₂ min c.word_at.ensures c.requires.2 in (λ i. record { prev = None; prev_b = None; since = s i; value = v i; prior = p i }) ∙ sym (law.kept_delay r _ _ (sym (ap equation c.in-Delay.is) ∙ c.requires.1))

pub returns-in-Signal : goal.returns-in-Signal
returns-in-Signal c = let r = dec_raw c.args.r.now in c.latest-in-Signal.ensures ∙ (λ i. with_prev (c.value_at-prev-in-Signal.ensures i) (with_prev_b (c.value_at-prevb.ensures i) no_kept)) ∙ sym (law.kept_signal r _ _ _ (sym (ap equation c.in-Signal.is) ∙ c.requires.1))

pub returns-in-In : goal.returns-in-In
returns-in-In c = let r = dec_raw c.args.r.now in let k : law.keeps (equation c.args.op) ≡ false = elim c.in-In.is [ inl e ↦ rw e | inr (inl e) ↦ rw e | inr (inr (inl e)) ↦ rw e | inr (inr (inr (inl e))) ↦ rw e.2 | inr (inr (inr (inr (inl e)))) ↦ rw e.3 | inr (inr (inr (inr (inr e)))) ↦ rw e.3 ] in c.nothing.ensures ∙ sym (law.kept_none r _ c.requires.1 k)
