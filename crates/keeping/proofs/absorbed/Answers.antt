-- `keeping::absorbed` meets its contract.
use mathlib.Core.Logic.{inl, inr}
use mathlib.Core.Path.{◌≡◌, sym, ap, ◌∙◌}
use Rattle.meaning.specs.Plan.{add, last, delay, signal}
use Rattle.layout.specs.Record.{dec_raw}
use Rattle.encoding.specs.Back.{to_cell}
use Rattle.streams.specs.declared.Op.{Op}
use Rattle.streams.specs.Look.{look_of, equation}
use Rattle.keeping.specs.Keep.{moved_of}
use Rattle.machine.specs.Step as machine
use Rattle.keeping.proofs.Laws as law
use Rattle.keeping.proofs.absorbed.Goals as goal

pub returns-in-Last : goal.returns-in-Last
unfolding look_of to_cell
returns-in-Last c = let x = c.args in let o = moved_of x.k x.y x.o.now in let A = look_of (dec_raw x.a.now) in let B = look_of (dec_raw x.b.now) in c.absorb_last.ensures o.held B ∙ law.absorb_near (last 0 0) o A B 0 0 ∙ ap (λ (p : Op). machine.absorb (equation p) o A B) (sym c.in-Last.is)

pub returns-in-Delay : goal.returns-in-Delay
unfolding look_of to_cell
returns-in-Delay c = let x = c.args in let o = moved_of x.k x.y x.o.now in let A = look_of (dec_raw x.a.now) in let B = look_of (dec_raw x.b.now) in c.absorb_delay.ensures ∙ law.absorb_near (delay 0 0) o A B 0 0 ∙ ap (λ (p : Op). machine.absorb (equation p) o A B) (sym c.in-Delay.is)

pub returns-in-Signal : goal.returns-in-Signal
unfolding look_of to_cell
returns-in-Signal c = let x = c.args in let o = moved_of x.k x.y x.o.now in let A = look_of (dec_raw x.a.now) in let B = look_of (dec_raw x.b.now) in c.absorb_signal.ensures add o.held ∙ law.absorb_near (signal add 0 0) o A B 0 0 ∙ ap (λ (p : Op). machine.absorb (equation p) o A B) (sym c.in-Signal.is)

pub returns-in-In : goal.returns-in-In
returns-in-In c = let x = c.args in let o = moved_of x.k x.y x.o.now in let A = look_of (dec_raw x.a.now) in let B = look_of (dec_raw x.b.now) in let f = λ (q : Op) (e : x.op ≡ q). ap (λ (p : Op). machine.absorb (equation p) o A B) (sym e) in elim c.in-In.is [ inl e ↦ f _ e | inr (inl e) ↦ f _ e | inr (inr (inl e)) ↦ f _ e | inr (inr (inr (inl e))) ↦ f _ e.2 | inr (inr (inr (inr (inl e)))) ↦ f _ e.3 | inr (inr (inr (inr (inr e)))) ↦ f _ e.3 ]
