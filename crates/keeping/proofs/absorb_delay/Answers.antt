-- `keeping::absorb_delay` meets its contract.
use Prim.Native.Nat.{pred}
use mathlib.Core.Path.{◌≡◌, ap, ◌∙◌}
use native.Mathlib.Omega.{arith}
use Rattle.meaning.specs.Events.{found}
use Rattle.events.specs.Near.{holding}
use Rattle.keeping.specs.Keep.{moved_of}
use Rattle.keeping.proofs.Laws as law
use Rattle.keeping.proofs.absorb_delay.Goals as goal

pub returns-then-since-eq0 : goal.returns-then-since-eq0
returns-then-since-eq0 c = let x = c.args in let o = moved_of x.k x.y x.o.now in let a = holding x.a.now in let b = holding x.b.now in let e : c.saturating_sub.result ≡ pred x.y = omega arith in let p = c.find-prior.ensures ∙ ap (found a.held) e in law.delay_none o a b c.latest_point-since.result c.latest_point-since.ensures c.find-prior.result p c.if-since-eq0.true

pub returns-else-since-eq0 : goal.returns-else-since-eq0
returns-else-since-eq0 c = let x = c.args in let o = moved_of x.k x.y x.o.now in let a = holding x.a.now in let b = holding x.b.now in let e : c.saturating_sub.result ≡ pred x.y = omega arith in let p = c.find-prior.ensures ∙ ap (found a.held) e in law.delay_some o a b c.latest_point-since.result c.latest_point-since.ensures c.find-prior.result p c.set_value-value.result c.set_value-value.ensures c.if-since-eq0.false
